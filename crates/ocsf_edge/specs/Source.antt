-- The end of a source.
use Rattle.std.specs.Prelude.{ℕ, Bool, true, if◌then◌else◌, ◌&&◌, ◌==◌, nat_lt, Result, Ok, Err}

-- Whether a source has ended after a read: one with room that gives no byte ends it, nothing else does, and it stays.
abbrev pub ended_after : {E : Type 0} → Bool → ℕ → Result ℕ E → Bool
ended_after before room (Ok count) = if count == 0 && nat_lt 0 room then true else before
ended_after before room (Err _) = before
