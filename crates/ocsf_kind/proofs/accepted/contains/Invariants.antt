use Rattle.std.proofs.Common.{◌≡◌, ℕ, ◌<◌, get_or}
use Rattle.ocsf_kind.proofs.accepted.contains.Given as goal

abbrev pub invariant-loop-listed : goal.invariant-loop-listed
invariant-loop-listed l = (k : ℕ) → k < l.listed-index → get_or l.values k l.value ≡ l.value → ⊥
