-- In byte order of names, each once.
use Rattle.std.specs.Prelude.{ℕ, List, [], ◌∷◌}
use Rattle.ocsf_lists.specs.ByName.{put_by_name}

-- of each name the first item that has it, in byte order of the names
abbrev pub first_of_each : {X : Type 0} → (X → List ℕ) → List X → List X
first_of_each name [] = []
first_of_each name (x ∷ xs) = put_by_name name x (first_of_each name xs)
