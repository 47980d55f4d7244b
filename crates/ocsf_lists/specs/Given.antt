-- Where several give a field, the last that gives it decides.
use Rattle.std.specs.Prelude.{List, [], ◌∷◌, reverse, Option, None}
use Rattle.std.specs.Option.{option_or}

-- the field as the first that gives it gives it
abbrev pub first_given : {X Y : Type 0} → (X → Option Y) → List X → Option Y
first_given field [] = None
first_given field (x ∷ xs) = option_or (field x) (first_given field xs)

-- the field as the last that gives it gives it
abbrev pub last_given : {X Y : Type 0} → (X → Option Y) → List X → Option Y
last_given field xs = first_given field (reverse xs)
