use Rattle.std.proofs.Common.{◌≡◌, ℕ, take}
use Rattle.std.specs.BTreeMap.{get}
use Rattle.std.specs.Ordering.{nat_cmp}
use Rattle.ocsf_schema.specs.Lookups.{class_at}
use Rattle.ocsf_schema.proofs.lookup.classes_by_uid.Given as goal

abbrev pub invariant-loop-piece : goal.invariant-loop-piece
invariant-loop-piece l = (uid : ℕ) → get nat_cmp l.made uid ≡ class_at uid (take l.piece-index l.pieces)
