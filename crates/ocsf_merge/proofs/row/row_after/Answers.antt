use Rattle.ocsf_merge.proofs.Rows.{over-row_of}
use Rattle.ocsf_merge.proofs.row.row_after.Goals as goal

pub returns : goal.returns
returns c = rw (over-row_of c.args.from.now c.args.profile_key.now c.args.profile c.args.entry.now c.args.old.now) c.row_parts.ensures
