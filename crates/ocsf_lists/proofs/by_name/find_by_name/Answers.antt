use Rattle.std.proofs.Common.{ap, sym, ◌∙◌, Some}
use Rattle.ocsf_lists.proofs.NameLists.{at_name-at, at_name-none, never_tied}
use Rattle.ocsf_lists.proofs.by_name.find_by_name.Goals as goal

pub returns-in-Ok : goal.returns-in-Ok
returns-in-Ok g c =
    let item = c.index-items-at.result in
    ap Some c.index-items-at.is ∙ sym (at_name-at g.T.Named.name_of c.args.name.now c.args.items.now c.in-Ok.at item c.requires c.in-Ok.ensures.within (c.in-Ok.ensures.found item))

pub returns-in-Err : goal.returns-in-Err
returns-in-Err g c = sym (at_name-none g.T.Named.name_of c.args.name.now c.args.items.now (never_tied g.T.Named.name_of c.args.name.now c.args.items.now c.in-Err.field-0 c.in-Err.ensures.absent))
