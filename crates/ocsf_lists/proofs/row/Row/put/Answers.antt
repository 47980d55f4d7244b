use Rattle.std.proofs.Common.{sym, ◌∙◌}
use Rattle.ocsf_lists.proofs.NameLists.{put_by_name-insert, put_by_name-set}
use Rattle.ocsf_lists.proofs.row.Row.put.Goals as goal

pub returns-in-Ok-clause-ok : goal.returns-in-Ok-clause-ok
returns-in-Ok-clause-ok g c =
    let within = rw c.as_slice.ensures at c.in-Ok.ensures.within in
    let found = rw (c.as_slice.ensures, c.name.ensures) at c.in-Ok.ensures.found in
    c.replace.ensures ∙ sym (put_by_name-set g.T.Named.name_of c.args.item c.args.self.now c.in-Ok.at c.args.item c.requires within (found c.args.item))

pub returns-in-Err-clause-ok : goal.returns-in-Err-clause-ok
returns-in-Err-clause-ok g c =
    let room = rw c.as_slice.ensures at c.in-Err.ensures.room in
    let absent = rw (c.as_slice.ensures, c.name.ensures) at c.in-Err.ensures.absent in
    rw (put_by_name-insert g.T.Named.name_of c.args.item c.args.self.now c.in-Err.at room absent) c.insert.ensures.ok
