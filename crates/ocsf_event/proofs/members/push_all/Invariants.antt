use Rattle.std.proofs.Common.{◌≡◌, ◌∷◌, take}
use Rattle.std.specs.Prelude.{string_bytes}
use Rattle.std.specs.List.{join_with_byte}
use Rattle.ocsf_event_rules.specs.Violations.{comma}
use Rattle.ocsf_event.proofs.members.push_all.Given as goal

abbrev pub invariant-loop-name : goal.invariant-loop-name
invariant-loop-name l = string_bytes l.out ≡ join_with_byte comma (string_bytes l.initial.out ∷ take l.name-index l.names)
