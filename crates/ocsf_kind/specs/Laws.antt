-- What holds of the ways of all types.
use Rattle.std.specs.Prelude.{◌≡◌, ℕ, zero, suc, ◌≤◌, List, false, Err, ◌↔◌}
use Rattle.ocsf_raw.specs.declared.dictionary.TypeEntry.{TypeEntry}
use Rattle.ocsf_kind.specs.declared.kinds.KindError.TheVariants.{Cycle}
use Rattle.ocsf_kind.specs.Kinds.{parent_of, is_end, kind_of}

-- the type after so many moves
abbrev pub moved : ℕ → List TypeEntry → List ℕ → List ℕ
moved zero types name = name
moved (suc moves) types name = moved moves types (parent_of types name)

-- a type turns in a cycle exactly where no way of at most 32 moves comes to an end
abbrev pub IsCycleOfMoves : Type 0
IsCycleOfMoves =
    (types : List TypeEntry) (name : List ℕ)
    → (kind_of types name ≡ Err Cycle) ↔ ((moves : ℕ) → moves ≤ 32 → is_end types (moved moves types name) ≡ false)
