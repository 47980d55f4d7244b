use Rattle.std.proofs.Common.{◌≡◌, drop}
use Rattle.ocsf_event_rules.specs.Conditions.{is_key}
use Rattle.ocsf_event.proofs.simple.is_key.Given as goal

abbrev pub invariant-loop-member : goal.invariant-loop-member
invariant-loop-member l = is_key (drop l.member-index l.members) l.name ≡ is_key l.members l.name
