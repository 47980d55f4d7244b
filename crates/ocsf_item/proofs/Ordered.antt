-- Items put in order one by one.
use Rattle.std.proofs.Common.{◌≡◌, List, [], ◌∷◌, ◌++◌, refl, sym, ◌∙◌, ap}
use Rattle.std.specs.declared.cmp.Ordering.{Ordering}
use Rattle.std.specs.declared.cmp.Ordering.TheVariants.{Less, Equal, Greater}
use Rattle.std.specs.Ordering.{match_ordering}
use Rattle.std.specs.BTreeSet.{insert_key}
use Rattle.std.specs.FinMap.Entries.{by_order}
use Rattle.ocsf_rules.specs.InOrder.{put_in_order, in_order, put_onto}

module _ {X : Type 0} (cmp : X → X → Ordering) where
  put_onto-nil : (xs : List X) → put_onto cmp xs [] ≡ in_order cmp xs
  put_onto-nil [] = refl
  put_onto-nil (x ∷ xs) = ap (put_in_order cmp x) (put_onto-nil xs)

  put_onto-push : (xs : List X) (x : X) (kept : List X) → put_onto cmp xs (put_in_order cmp x kept) ≡ put_onto cmp (xs ++ x ∷ []) kept
  put_onto-push [] x kept = refl
  put_onto-push (y ∷ xs) x kept = ap (put_in_order cmp y) (put_onto-push xs x kept)

  pub put_begins : (left items made : List X) → left ≡ items → made ≡ [] → put_onto cmp left made ≡ in_order cmp items
  put_begins left items made is none = (λ i. put_onto cmp (is i) (none i)) ∙ put_onto-nil items

  -- a set puts an item in its place
  set_puts : (x : X) (xs : List X) → insert_key cmp xs x ≡ put_in_order cmp x xs
  set_puts x [] = refl
  set_puts x (y ∷ ys) =
      elim (cmp x y) as (λ r. match_ordering r (x ∷ y ∷ ys) (y ∷ ys) (y ∷ insert_key cmp ys x) ≡ by_order r (x ∷ y ∷ ys) (y ∷ ys) (y ∷ put_in_order cmp x ys)) [
        | Less ↦ refl
        | Equal ↦ refl
        | Greater ↦ ap (λ zs. y ∷ zs) (set_puts x ys)
      ]

  pub put_more : (left after made now whole : List X) (x : X) → left ≡ after ++ x ∷ [] → now ≡ insert_key cmp made x → put_onto cmp left made ≡ whole → put_onto cmp after now ≡ whole
  put_more left after made now whole x pop put is = ap (put_onto cmp after) (put ∙ set_puts x made) ∙ put_onto-push after x made ∙ ap (λ xs. put_onto cmp xs made) (sym pop) ∙ is
