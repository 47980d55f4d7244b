-- Whether a name stands in a list of names in order.
use Rattle.std.specs.Prelude.{ℕ, List, Bool, is_some}
use Rattle.ocsf_lists.specs.ByName.{at_name}

-- whether the name is one of these
abbrev pub is_among : List ℕ → List (List ℕ) → Bool
is_among name names = is_some (at_name (λ n. n) name names)
