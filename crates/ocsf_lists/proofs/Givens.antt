-- What the last that gives a field gives, where one more is the last.
use Rattle.std.proofs.Common.{◌≡◌, List, [], ◌∷◌, ◌++◌, Option, ap}
use Rattle.std.specs.Option.{option_or}
use Rattle.std.proofs.lemmas.List.{reverse-append}
use Rattle.ocsf_lists.specs.Given.{first_given, last_given}

pub last_given-push : {X Y : Type 0} (field : X → Option Y) (xs : List X) (x : X)
    → last_given field (xs ++ x ∷ []) ≡ option_or (field x) (last_given field xs)
last_given-push field xs x = ap (first_given field) (reverse-append xs (x ∷ []))
