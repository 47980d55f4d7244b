-- Maps that hold items by their names.
use Rattle.std.proofs.Common.{◌≡◌, ◌≢◌, ℕ, ◌+◌, ◌<◌, List, [], ◌∷◌, ◌++◌, length, get_or, take, cond, Option, Some, None, refl, sym, ◌∙◌, ap, subst, arith, length-take-le, get_or-take}
use Rattle.std.specs.Prelude.{All}
use Rattle.std.specs.Option.{option_or, option_map, IfSome}
use Rattle.std.specs.Ordering.{is_eq, ordering_reverse}
use Rattle.std.specs.declared.cmp.Ordering.{Ordering}
use Rattle.std.specs.declared.cmp.Ordering.TheVariants.{Less, Equal, Greater}
use Rattle.std.specs.BTreeMap.{BTreeMap, get, IsOrdered}
use Rattle.std.specs.Cmp.Lexicographic.{nat_list_cmp_total}
use Rattle.std.proofs.lemmas.List.{take_more, get_or_default}
use Rattle.std.proofs.lemmas.List.Elements.{All-head, All-tail}
use Rattle.std.proofs.lemmas.Map.Views.{All-found}
use Rattle.ocsf_lists.specs.ByName.{text_cmp, at_name, IsByName}
use Rattle.ocsf_lists.proofs.NameLists.{same_text, text_cmp-same, in_order, at_name-none, at_name-at}
use Rattle.ocsf_lists.proofs.FirstOfEach.{at_name-append}
use Rattle.ocsf_bundle.specs.NamedMap.{values_in}
use Rattle.ocsf_bundle.proofs.Entries.{KeepKeys, IsByName-entries, at_name-entries}

even : (r : Ordering) → is_eq (ordering_reverse r) ≡ is_eq r
even Less = refl
even Equal = refl
even Greater = refl

pub flipped : (a b : List ℕ) → is_eq (text_cmp a b) ≡ is_eq (text_cmp b a)
flipped a b = ap is_eq (nat_list_cmp_total.antisymm a b) ∙ even (text_cmp b a)

or_none : {A : Type 0} (o : Option A) → option_or o None ≡ o
or_none None = refl
or_none (Some x) = refl

apart_less : (r : Ordering) → r ≡ Less → r ≢ Equal
apart_less Less e = λ f. cc
apart_less Equal e = λ f. cc
apart_less Greater e = λ f. cc

module _ {X : Type 0} (name : X → List ℕ) where
  not_before : (xs : List X) (i : ℕ) (x : X) → IsByName name xs → i < length xs → x ≡ get_or xs i x → at_name name (name x) (take i xs) ≡ None
  not_before xs i x up h at =
      at_name-none name (name x) (take i xs)
      (λ k d below.
      let n : length (take i xs) ≡ i = length-take-le i xs (omega arith) in
      let in_front : k < i = omega arith in
      let same : get_or (take i xs) k d ≡ get_or xs k d = get_or-take i xs k d in_front in
      let less = in_order name xs k i d up in_front h in
      let here : get_or xs i d ≡ x = get_or_default xs i d x h ∙ sym at in
      apart_less (text_cmp (name (get_or (take i xs) k d)) (name x))
      (ap (λ y. text_cmp (name y) (name x)) same ∙ ap (λ y. text_cmp (name (get_or xs k d)) (name y)) (sym here) ∙ less))

  -- one item more of a list by name is found at its name
  pub at_name-grown : (xs : List X) (i : ℕ) (x : X) → IsByName name xs → i < length xs → x ≡ get_or xs i x → (q : List ℕ) → at_name name q (take (i + 1) xs) ≡ cond (is_eq (text_cmp (name x) q)) (Some x) (at_name name q (take i xs))
  at_name-grown xs i x up h at q =
      ap (at_name name q) (take_more xs i x h ∙ ap (λ y. take i xs ++ y ∷ []) (sym at))
      ∙ at_name-append name q (take i xs) (x ∷ [])
      ∙ elim (text_cmp q (name x)) as (λ (r : Ordering). text_cmp q (name x) ≡ r → option_or (at_name name q (take i xs)) (cond (is_eq r) (Some x) None) ≡ cond (is_eq (text_cmp (name x) q)) (Some x) (at_name name q (take i xs))) [
        | Less ↦ λ e. or_none (at_name name q (take i xs)) ∙ ap (λ b. cond b (Some x) (at_name name q (take i xs))) (sym (flipped (name x) q ∙ ap is_eq e))
        | Equal ↦ λ e.
            ap (λ n. option_or (at_name name n (take i xs)) (Some x)) (same_text q (name x) e)
            ∙ ap (λ o. option_or o (Some x)) (not_before xs i x up h at)
            ∙ ap (λ b. cond b (Some x) (at_name name q (take i xs))) (sym (flipped (name x) q ∙ ap is_eq e))
        | Greater ↦ λ e. or_none (at_name name q (take i xs)) ∙ ap (λ b. cond b (Some x) (at_name name q (take i xs))) (sym (flipped (name x) q ∙ ap is_eq e))
      ] refl

  -- what holds of what is found at each name holds of all
  pub all-found : (P : X → Type 0) (xs : List X) → IsByName name xs → ((q : List ℕ) → IfSome (at_name name q xs) P) → All P xs
  all-found P xs up found k d h =
      let here : at_name name (name (get_or xs k d)) xs ≡ Some (get_or xs k d) = at_name-at name (name (get_or xs k d)) xs k d up h (text_cmp-same (name (get_or xs k d))) in
      let Q : Option X → Type 0 = λ o. IfSome o P in
      subst Q here (found (name (get_or xs k d)))

  -- each value has its key as its name
  abbrev pub HoldsNames : BTreeMap (List ℕ) X → Type 0
  HoldsNames m = (q : List ℕ) → IfSome (get text_cmp m q) (λ x. name x ≡ q)

  keeps : (m : BTreeMap (List ℕ) X) → HoldsNames m → (es : List (List ℕ × X)) → All (λ e. get text_cmp m e.0 ≡ Some e.1) es → KeepKeys name (λ e. e.1) es
  keeps m own [] found = tt
  keeps m own (e ∷ es) found =
      let here : get text_cmp m e.0 ≡ Some e.1 = All-head (λ e. get text_cmp m e.0 ≡ Some e.1) e es found in
      let Q : Option X → Type 0 = λ o. IfSome o (λ x. name x ≡ e.0) in
      (subst Q here (own e.0), keeps m own es (All-tail (λ e. get text_cmp m e.0 ≡ Some e.1) e es found))

  kept : (m : BTreeMap (List ℕ) X) → IsOrdered text_cmp m → HoldsNames m → KeepKeys name (λ e. e.1) m.entries
  kept m s own = keeps m own m.entries (All-found nat_list_cmp_total m s)

  -- the values stand by name, and are found as in the map
  pub IsByName-values : (m : BTreeMap (List ℕ) X) → IsOrdered text_cmp m → HoldsNames m → IsByName name (values_in m)
  IsByName-values m s own = IsByName-entries name (λ e. e.1) m.entries (kept m s own) s

  pub at_name-values : (m : BTreeMap (List ℕ) X) → IsOrdered text_cmp m → HoldsNames m → (q : List ℕ) → at_name name q (values_in m) ≡ get text_cmp m q
  at_name-values m s own q = at_name-entries name (λ e. e.1) q m.entries (kept m s own) ∙ same (get text_cmp m q)
    where
      same : (o : Option X) → option_map (λ x. x) o ≡ o
      same None = refl
      same (Some x) = refl
