-- The least of several, by a test of which comes before which. Of those of which none comes before the
-- other, the first counts.
use Rattle.std.specs.Prelude.{◌≡◌, List, [], ◌∷◌, Bool, false, if◌then◌else◌, Option, Some, None, All, Contains}

-- the least so far, and one that there may be besides
abbrev pub lesser : {X : Type 0} → (X → X → Bool) → Option X → Option X → Option X
lesser before least None = least
lesser before None (Some x) = Some x
lesser before (Some y) (Some x) = if before x y then Some x else Some y

-- the least so far, and these besides
abbrev pub least_after : {X : Type 0} → (X → X → Bool) → Option X → List X → Option X
least_after before least [] = least
least_after before least (x ∷ xs) = least_after before (lesser before least (Some x)) xs

-- none where there are none, else one of them that no other comes before
abbrev pub IsLeastBy : {X : Type 0} → (X → X → Bool) → List X → Option X → Type 0
IsLeastBy before xs None = xs ≡ []
IsLeastBy before xs (Some x) = Contains xs x × All (λ y. before y x ≡ false) xs
