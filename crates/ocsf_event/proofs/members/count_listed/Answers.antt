use Rattle.std.proofs.Common.{sym, ◌∙◌}
use Rattle.ocsf_event.proofs.Constraints.{none_named}
use Rattle.ocsf_event.proofs.members.count_listed.Goals as goal

pub returns-then-is_empty : goal.returns-then-is_empty
returns-then-is_empty c = none_named c.args.profiles.now c.args.item.now c.args.names.now (sym c.is_empty.ensures ∙ c.if-is_empty.true)
