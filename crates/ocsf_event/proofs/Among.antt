-- A text among others.
use Rattle.std.proofs.Common.{◌≡◌, ℕ, suc, ◌+◌, ◌<◌, length, get_or, drop, add-one, drop-cons, List, ◌∷◌, true, false, true≢false, Option, Some, refl, sym, ◌∙◌, ap}
use Rattle.std.specs.Prelude.{cond, is_some}
use Rattle.std.specs.Str.{bytes_eq}
use Rattle.std.specs.Ordering.{is_eq}
use Rattle.std.specs.declared.cmp.Ordering.{Ordering}
use Rattle.std.specs.declared.cmp.Ordering.TheVariants.{Less, Equal, Greater}
use Rattle.std.proofs.lemmas.Slice.Eq.{bytes_eq-Decides}
use Rattle.ocsf_lists.specs.ByName.{text_cmp, at_name}
use Rattle.ocsf_lists.proofs.NameLists.{text_cmp-same, same_text}
use Rattle.ocsf_lists.specs.Among.{is_among}

abbrev rest : List ℕ → List (List ℕ) → Option (List ℕ)
rest q ys = at_name (λ n. n) q ys

pub among_here : (q y : List ℕ) (ys : List (List ℕ)) → bytes_eq q y ≡ true → is_among q (y ∷ ys) ≡ true
among_here q y ys e = ap (λ (r : Ordering). is_some (cond (is_eq r) (Some y) (rest q ys)))
    (ap (text_cmp q) (sym ((bytes_eq-Decides q y).0 e)) ∙ text_cmp-same q)

pub among_later : (q y : List ℕ) (ys : List (List ℕ)) → bytes_eq q y ≡ false → is_among q (y ∷ ys) ≡ is_among q ys
among_later q y ys e = by_order (text_cmp q y) refl
  where
    by_order : (r : Ordering) → text_cmp q y ≡ r → is_some (cond (is_eq r) (Some y) (rest q ys)) ≡ is_some (rest q ys)
    by_order Less is = refl
    by_order Greater is = refl
    by_order Equal is = absurd (true≢false (sym ((bytes_eq-Decides q y).1 (same_text q y is)) ∙ e))

-- the items from one on
pub cut : {A : Type 0} (xs : List A) (i : ℕ) (x : A) → i < length xs → x ≡ get_or xs i x → drop i xs ≡ x ∷ drop (i + 1) xs
cut xs i x h at = rw add-one (drop-cons xs i x h ∙ ap (λ z. z ∷ drop (suc i) xs) (sym at))
