-- The entries of a map by texts, as a list by name.
use Rattle.std.proofs.Common.{◌≡◌, ℕ, List, [], ◌∷◌, map, true, cond, Some, refl, sym, ◌∙◌, ap}
use Rattle.std.specs.Prelude.{⊤}
use Rattle.std.specs.declared.cmp.Ordering.{Ordering}
use Rattle.std.specs.declared.cmp.Ordering.TheVariants.{Less, Equal, Greater}
use Rattle.std.specs.Ordering.{is_lt, is_eq}
use Rattle.std.specs.Option.{option_map}
use Rattle.std.specs.List.{AllByRecursion}
use Rattle.std.specs.List.Sorted.{IsStrictlySortedBy}
use Rattle.std.specs.Map.{keys_of, lookup}
use Rattle.std.specs.BTreeMap.{is_at}
use Rattle.std.specs.FinMap.Entries.{below_all}
use Rattle.std.proofs.lemmas.Bool.{and_from}
use Rattle.ocsf_lists.specs.ByName.{text_cmp, named, at_name, IsByName}
use Rattle.ocsf_lists.proofs.NameLists.{same_text}

module _ {A X : Type 0} (name : X → List ℕ) (item : (List ℕ × A) → X) where
  -- each item has the key of its entry as its name
  abbrev pub KeepKeys : List (List ℕ × A) → Type 0
  KeepKeys [] = ⊤
  KeepKeys (e ∷ es) = (name (item e) ≡ e.0) × KeepKeys es

  below : (x : List ℕ) (es : List (List ℕ × A)) → KeepKeys es → AllByRecursion (λ y. text_cmp x y ≡ Less) (keys_of es) → below_all text_cmp x (named name (map item es)) ≡ true
  below x [] k a = refl
  below x (e ∷ es) k a =
      let less : is_lt (text_cmp x (name (item e))) ≡ true = ap (λ y. is_lt (text_cmp x y)) k.0 ∙ ap is_lt a.0 in
      and_from (is_lt (text_cmp x (name (item e)))) (below_all text_cmp x (named name (map item es))) less (below x es k.1 a.1)

  pub IsByName-entries : (es : List (List ℕ × A)) → KeepKeys es → IsStrictlySortedBy text_cmp (keys_of es) → IsByName name (map item es)
  unfolding IsStrictlySortedBy
  IsByName-entries [] k s = refl
  IsByName-entries (e ∷ es) k s =
      let rest : IsByName name (map item es) = IsByName-entries es k.1 s.1 in
      let head : below_all text_cmp (name (item e)) (named name (map item es)) ≡ true = ap (λ n. below_all text_cmp n (named name (map item es))) k.0 ∙ below e.0 es k.1 s.0 in
      and_from (below_all text_cmp (name (item e)) (named name (map item es))) _ head rest

  pub at_name-entries : (q : List ℕ) (es : List (List ℕ × A)) → KeepKeys es → at_name name q (map item es) ≡ option_map (λ a. item (q, a)) (lookup (is_at (text_cmp q)) es)
  at_name-entries q [] k = refl
  at_name-entries q (e ∷ es) k =
      ap (λ n. cond (is_eq (text_cmp q n)) (Some (item e)) (at_name name q (map item es))) k.0
      ∙ elim (text_cmp q e.0) as (λ (r : Ordering). text_cmp q e.0 ≡ r → cond (is_eq r) (Some (item e)) (at_name name q (map item es)) ≡ option_map (λ a. item (q, a)) (cond (is_eq r) (Some e.1) (lookup (is_at (text_cmp q)) es))) [
        | Less ↦ λ f. at_name-entries q es k.1
        | Equal ↦ λ f. ap (λ n. Some (item (n, e.1))) (sym (same_text q e.0 f))
        | Greater ↦ λ f. at_name-entries q es k.1
      ] refl
