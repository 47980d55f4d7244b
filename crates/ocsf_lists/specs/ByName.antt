-- Lists in byte order of names.
use Rattle.std.specs.Prelude.{◌≡◌, ℕ, Bool, true, List, [], ◌∷◌, map, Option}
use Rattle.std.specs.declared.cmp.Ordering.{Ordering}
use Rattle.std.specs.Cmp.Lexicographic.{slice_cmp}
use Rattle.std.specs.Ordering.{nat_cmp}
use Rattle.std.specs.FinMap.Entries.{by_order, find, is_sorted}

-- texts are compared by their bytes
abbrev pub text_cmp : List ℕ → List ℕ → Ordering
text_cmp = slice_cmp nat_cmp

-- each item with its name
abbrev pub named : {X : Type 0} → (X → List ℕ) → List X → List (List ℕ × X)
named name xs = map (λ x. (name x, x)) xs

-- the item of that name, where there is one
abbrev pub at_name : {X : Type 0} → (X → List ℕ) → List ℕ → List X → Option X
at_name name q xs = find text_cmp q (named name xs)

-- strictly by name
abbrev pub is_by_name : {X : Type 0} → (X → List ℕ) → List X → Bool
is_by_name name xs = is_sorted text_cmp (named name xs)

abbrev pub IsByName : {X : Type 0} → (X → List ℕ) → List X → Type 0
IsByName name xs = is_by_name name xs ≡ true

-- the item in its place, and instead of the one of its name
abbrev pub put_by_name : {X : Type 0} → (X → List ℕ) → X → List X → List X
put_by_name name x [] = x ∷ []
put_by_name name x (y ∷ ys) = by_order (text_cmp (name x) (name y)) (x ∷ y ∷ ys) (x ∷ ys) (y ∷ put_by_name name x ys)
