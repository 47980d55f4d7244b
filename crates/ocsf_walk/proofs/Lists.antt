-- One step of a loop over a list, and its end.
use Rattle.std.proofs.Common.{◌≡◌, ℕ, zero, suc, ◌+◌, ◌<◌, ◌≤◌, List, [], ◌∷◌, ◌++◌, map, length, take, Some, None, unwrap_or, refl, sym, ◌∙◌, ap, arith, append-nil}
use Rattle.std.specs.Prelude.{slice_get, slice_index_or, flat_map}
use Rattle.std.proofs.lemmas.List.{take_more}
use Rattle.std.proofs.lemmas.Grind.{flat_map-append}

pub take_none : {X : Type 0} (xs : List X) (k : ℕ) → slice_get xs k ≡ None → take k xs ≡ xs
take_none [] zero e = refl
take_none [] (suc k) e = refl
take_none (x ∷ xs) zero e = cc
take_none (x ∷ xs) (suc k) e = ap (λ ys. x ∷ ys) (take_none xs k e)

take_suc : {X : Type 0} (xs : List X) (k : ℕ) (x : X) → slice_get xs k ≡ Some x → take (suc k) xs ≡ take k xs ++ x ∷ []
take_suc [] zero x e = cc
take_suc [] (suc k) x e = cc
take_suc (y ∷ xs) zero x e = ap (λ o. unwrap_or o y ∷ []) e
take_suc (y ∷ xs) (suc k) x e = ap (λ ys. y ∷ ys) (take_suc xs k x e)

pub take_some : {X : Type 0} (xs : List X) (k : ℕ) (x : X) → slice_get xs k ≡ Some x → take (k + 1) xs ≡ take k xs ++ x ∷ []
take_some xs k x e = let same : k + 1 ≡ suc k = omega arith in ap (λ n. take n xs) same ∙ take_suc xs k x e

pub take_all : {X : Type 0} (xs : List X) (n : ℕ) → length xs ≤ n → take n xs ≡ xs
take_all [] zero h = refl
take_all [] (suc n) h = refl
take_all (x ∷ xs) zero h = absurd (omega arith)
take_all (x ∷ xs) (suc n) h = ap (λ ys. x ∷ ys) (take_all xs n (omega arith))

-- what a walk over the items so far makes, with one item more
pub flat_map_more : {X Y : Type 0} (f : X → List Y) (xs : List X) (i : ℕ) (x : X) → i < length xs → x ≡ slice_index_or xs i x → flat_map f (take (i + 1) xs) ≡ flat_map f (take i xs) ++ f x
flat_map_more f xs i x h is =
    ap (flat_map f) (take_more xs i x h ∙ ap (λ y. take i xs ++ y ∷ []) (sym is))
    ∙ flat_map-append f (take i xs) (x ∷ [])
    ∙ ap (λ ys. flat_map f (take i xs) ++ ys) (append-nil (f x))

-- the item at an index of a map
pub map-at : {X Y : Type 0} (f : X → Y) (xs : List X) (i : ℕ) (x : X) → i < length xs → x ≡ slice_index_or xs i x → f x ≡ slice_index_or (map f xs) i (f x)
map-at f [] i x h is = absurd (omega arith)
map-at f (y ∷ xs) zero x h is = ap f is
map-at f (y ∷ xs) (suc i) x h is = map-at f xs i x (omega arith) is
