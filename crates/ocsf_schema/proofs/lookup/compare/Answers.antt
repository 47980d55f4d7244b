use Rattle.std.proofs.Common.{◌∙◌}
use Rattle.ocsf_tree.proofs.Keys.{key_order}
use Rattle.ocsf_schema.proofs.lookup.compare.Goals as goal

pub returns : goal.returns
returns c = c.cmp.ensures ∙ key_order c.args.key.now c.args.other.now
