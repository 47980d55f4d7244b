-- From what the list of an event gains to its report.
use Rattle.std.proofs.Common.{◌≡◌, ℕ, zero, suc, List, [], ◌∷◌, map, Option, Some, None, ◌⊎◌, inl, inr, refl, sym, ◌∙◌, ap, subst, arith}
use Rattle.std.specs.Prelude.{AllPairs, Contains, codes, slice_get}
use Rattle.std.specs.Option.{option_map, option_and_then}
use Rattle.std.proofs.lemmas.List.Elements.{All-map}
use Rattle.std.specs.declared.cmp.Ordering.TheVariants.{Less}
use Rattle.std.proofs.lemmas.Option.{none-some, same_Some, slice_get-map, slice_get_within, slice_get-get_or, get_or_from_slice_get}
use Rattle.ocsf_tree.specs.declared.tree.Tree.{Tree}
use Rattle.ocsf_tree.specs.declared.tree.Member.{Member}
use Rattle.ocsf_tree.specs.declared.place.Step.{Step}
use Rattle.ocsf_tree.specs.declared.place.Step.TheVariants.{Name}
use Rattle.ocsf_schema.specs.declared.records.Item.{Item}
use Rattle.ocsf_schema.specs.declared.parts.SchemaParts.{SchemaParts}
use Rattle.ocsf_event.specs.declared.violation.Wrong.{Wrong}
use Rattle.ocsf_event.specs.declared.violation.Wrong.TheVariants as code
use Rattle.ocsf_event.specs.declared.violation.Violation.{Violation}
use Rattle.ocsf_event_rules.specs.Wrong as wrong
use Rattle.ocsf_event.specs.Code.{rank, told_violation, violation_order}
use Rattle.ocsf_event.specs.ViolationOrder.{violation_order_total}
use Rattle.ocsf_event.specs.InOrder.{in_order}
use Rattle.ocsf_event_rules.specs.Profiles.{named_profiles}
use Rattle.ocsf_event_rules.specs.EventClass.{as_object, whole_of, class_of, class_of_event}
use Rattle.ocsf_event_rules.specs.Judged.{Seen, of_class, with_item, seen_from, seen}
use Rattle.ocsf_event_rules.specs.Violations.{IsViolation, IsReport, NoObject, NoClass, AtValue, AtMember, AtObject, OnEvent, whole_text}
use Rattle.ocsf_event.specs.declared.notes.Notes.{Notes}
use Rattle.ocsf_event.specs.Gains.{Gains}
use Rattle.ocsf_event.specs.Noted.{Noted}
use Rattle.ocsf_event.specs.Walk.{IsThis, InObject, IsWrong, IsAmiss}
use Rattle.ocsf_event.proofs.Gains.{gains_alike}
use Rattle.ocsf_event.proofs.Walks.{class_seen, from_object, within_class}
use Rattle.ocsf_event.proofs.Places.{is_violation, of_violation}
use Rattle.ocsf_event.proofs.Sorted.{in_order_rises, in_order_there, in_order_back}
use Rattle.ocsf_event.proofs.OneOrder.{same_rank, same_violation}
use Rattle.ocsf_event.proofs.Codes.{coded}

-- what one place, code and detail are
this_from : (v : Violation) (p : List Step) (c : Wrong) (d : List ℕ) → (v.place.steps ≡ p) × (rank v.code ≡ rank c) × (v.detail ≡ d) → IsThis p c d v
this_from v p c d w = record { where_it_is = w.0; what_it_is = same_rank v.code c w.1; told_as = w.2 }

wrong_from : (schema : SchemaParts) (event : Tree) (v : Violation) (p : List Step) (c : Wrong) (d : List ℕ) → IsThis p c d v → IsViolation schema event p (rank c) d → IsWrong schema event v
wrong_from schema event v p c d this w =
    subst (λ q. IsViolation schema event q (rank v.code) v.detail) (sym this.where_it_is)
    (subst (λ k. IsViolation schema event p (rank k) v.detail) (sym this.what_it_is)
    (subst (λ t. IsViolation schema event p (rank c) t) (sym this.told_as) w))

-- ---- the three sorts of events

module _ (schema : SchemaParts) (event : Tree) (old new : List Violation) where
  pub gains_class : (members : List Member) (class : Item) (number : ℕ) → as_object event ≡ Some members → class_of schema members ≡ Some class → class.class_uid ≡ Some number
      → Gains (λ v. InObject schema (named_profiles event) (with_item class members) [] v ⊎ IsAmiss schema event number members v) old new → Gains (IsWrong schema event) old new
  gains_class members class number is known numbered g =
      gains_alike (λ v. InObject schema (named_profiles event) (with_item class members) [] v ⊎ IsAmiss schema event number members v) (IsWrong schema event) old new there back g
    where
      there : (v : Violation) → InObject schema (named_profiles event) (with_item class members) [] v ⊎ IsAmiss schema event number members v → IsWrong schema event v
      there v (inl w) = is_violation schema event v members class number is known numbered
          (inl (from_object schema (named_profiles event) (of_class event class) [] v (with_item class members) (class_seen schema (named_profiles event) event class members is) w))
      there v (inr w) = is_violation schema event v members class number is known numbered (inr w)

      back : (v : Violation) → IsWrong schema event v → InObject schema (named_profiles event) (with_item class members) [] v ⊎ IsAmiss schema event number members v
      back v w = elim (of_violation schema event v members class number is known numbered w) [
        | inl inside ↦ inl (within_class schema (named_profiles event) event class members [] v is inside)
        | inr amiss ↦ inr amiss
      ]

  -- nothing is seen where there is no class
  unclassed : (place : List Step) (here : Seen) → class_of_event schema event ≡ None → seen schema event place ≡ Some here → ⊥
  unclassed place here none e =
      none-some here (sym (ap (option_and_then (λ class. seen_from schema (named_profiles event) (of_class event class) place)) none) ∙ e)

  no_object_of : {p : List Step} {c : ℕ} {d : List ℕ} → as_object event ≡ None → IsViolation schema event p c d → (p ≡ []) × (c ≡ rank code.WrongType) × (d ≡ codes "object_t")
  no_object_of none (NoObject is) = (refl, refl, refl)
  no_object_of none (NoClass members is nothing) = absurd (none-some members (sym none ∙ is))
  no_object_of none (AtValue place here code detail e w) = absurd (unclassed place here (ap (option_and_then (class_of schema)) none) e)
  no_object_of none (AtMember place here object name code detail e o w) = absurd (unclassed place here (ap (option_and_then (class_of schema)) none) e)
  no_object_of none (AtObject place here object code detail e o w) = absurd (unclassed place here (ap (option_and_then (class_of schema)) none) e)
  no_object_of none (OnEvent members class number place code detail is known numbered w) = absurd (none-some members (sym none ∙ is))

  pub gains_no_object : as_object event ≡ None → Gains (IsThis [] code.WrongType (codes "object_t")) old new → Gains (IsWrong schema event) old new
  gains_no_object none g = gains_alike (IsThis [] code.WrongType (codes "object_t")) (IsWrong schema event) old new
      (λ v this. wrong_from schema event v [] code.WrongType (codes "object_t") this (NoObject none))
      (λ v w. this_from v [] code.WrongType (codes "object_t") (no_object_of none w)) g

  abbrev class_place : List Step
  class_place = Name (codes "class_uid") ∷ []

  no_class_of : {p : List Step} {c : ℕ} {d : List ℕ} (members : List Member) → as_object event ≡ Some members → class_of schema members ≡ None → IsViolation schema event p c d
      → (p ≡ class_place) × (c ≡ rank code.ClassUnknown) × (d ≡ whole_text (whole_of (codes "class_uid") members))
  no_class_of members is none (NoObject nothing) = absurd (none-some members (sym nothing ∙ is))
  no_class_of members is none (NoClass ms object nothing) =
      (refl, refl, ap (λ m. whole_text (whole_of (codes "class_uid") m)) (same_Some ms members (sym object ∙ is)))
  no_class_of members is none (AtValue place here code detail e w) = absurd (unclassed place here (ap (option_and_then (class_of schema)) is ∙ none) e)
  no_class_of members is none (AtMember place here object name code detail e o w) = absurd (unclassed place here (ap (option_and_then (class_of schema)) is ∙ none) e)
  no_class_of members is none (AtObject place here object code detail e o w) = absurd (unclassed place here (ap (option_and_then (class_of schema)) is ∙ none) e)
  no_class_of members is none (OnEvent ms class number place code detail object known numbered w) =
      absurd (none-some class (sym none ∙ sym (ap (class_of schema) (same_Some ms members (sym object ∙ is))) ∙ known))

  pub gains_no_class : (members : List Member) → as_object event ≡ Some members → class_of schema members ≡ None
      → Gains (IsThis class_place code.ClassUnknown (whole_text (whole_of (codes "class_uid") members))) old new → Gains (IsWrong schema event) old new
  gains_no_class members is none g =
      let detail = whole_text (whole_of (codes "class_uid") members) in
      gains_alike (IsThis class_place code.ClassUnknown detail) (IsWrong schema event) old new
      (λ v this. wrong_from schema event v class_place code.ClassUnknown detail this (NoClass members is none))
      (λ v w. this_from v class_place code.ClassUnknown detail (no_class_of members is none w)) g

-- ---- the report

got : {X : Type 0} (xs : List X) (k : ℕ) (x : X) → slice_get xs k ≡ Some x → Contains xs x
got xs k x e = (k, slice_get_within xs k x e, get_or_from_slice_get xs k x x e)

got_at : {X : Type 0} (xs : List X) (x : X) → (c : Contains xs x) → slice_get xs c.0 ≡ Some x
got_at xs x c = slice_get-get_or xs c.0 x c.1 ∙ ap Some c.2

map_contains : {X Y : Type 0} (f : X → Y) (xs : List X) (x : X) → Contains xs x → Contains (map f xs) (f x)
map_contains f xs x c = got (map f xs) c.0 (f x) (slice_get-map f xs c.0 ∙ ap (option_map f) (got_at xs x c))

map_contained : {X Y : Type 0} (f : X → Y) (xs : List X) (y : Y) → Contains (map f xs) y → (x : X) × Contains xs x × (f x ≡ y)
map_contained {X} {Y} f xs y c = of_some (slice_get xs c.0) refl (sym (slice_get-map f xs c.0) ∙ got_at (map f xs) y c)
  where
    of_some : (o : Option X) → slice_get xs c.0 ≡ o → option_map f o ≡ Some y → (x : X) × Contains xs x × (f x ≡ y)
    of_some None is e = absurd (none-some y e)
    of_some (Some x) is e = (x, got xs c.0 x is, same_Some (f x) y e)

map_pairs : {X Y : Type 0} (f : X → Y) (R : Y → Y → Type 0) (xs : List X) → AllPairs (λ a b. R (f a) (f b)) xs → AllPairs R (map f xs)
map_pairs f R [] all = λ i j d h l. absurd (omega (arith, l))
map_pairs {X} {Y} f R (x ∷ xs) all = both (map_pairs f R xs (λ i j d h l. all (suc i) (suc j) d (omega (arith, h)) (omega (arith, l))))
  where
    both : AllPairs R (map f xs) → AllPairs R (map f (x ∷ xs))
    both more i zero d h l = absurd (omega (arith, h))
    both more zero (suc j) d h l = All-map (R (f x)) f xs (λ k e m. all 0 (suc k) e (omega arith) (omega (arith, m))) j d (omega (arith, l))
    both more (suc i) (suc j) d h l = more i j d (omega (arith, h)) (omega (arith, l))

none_in : {X : Type 0} (x : X) → Contains [] x → ⊥
none_in x c = let lt = c.1 in absurd (omega (arith, lt))

module _ (schema : SchemaParts) (event : Tree) (found : List Violation) (g : Gains (IsWrong schema event) [] found) where
  abbrev made : List Violation
  made = in_order violation_order found

  abbrev IsIn : wrong.Violation → Type 0
  IsIn v = IsViolation schema event v.place v.code v.detail

  listed_there : (v : wrong.Violation) → Contains (map told_violation made) v → IsIn v
  listed_there v c =
      let some = map_contained told_violation made v c in
      elim (g.only some.0 (in_order_there violation_order violation_order_total same_violation found some.0 some.1)) [
        | inl nothing ↦ absurd (none_in some.0 nothing)
        | inr w ↦ subst IsIn some.2 w
      ]

  listed_back : (v : wrong.Violation) → IsIn v → Contains (map told_violation made) v
  listed_back v w =
      let by = coded w in
      let one : Violation = record { place = record { steps = v.place }; code = by.0; detail = v.detail } in
      let same : told_violation one ≡ v = λ i. record { place = v.place; code = by.1 i; detail = v.detail } in
      subst (Contains (map told_violation made)) same
      (map_contains told_violation made one
      (in_order_back violation_order violation_order_total same_violation found one
      (g.gained one (subst IsIn (sym same) w))))

  pub is_report : IsReport schema event (map told_violation made)
  is_report = record {
    ordered = map_pairs told_violation (λ v w. wrong.violation_cmp v w ≡ Less) made (in_order_rises violation_order violation_order_total same_violation found);
    listed = λ v. (listed_there v, listed_back v);
  }

-- from what is noted, put in order
pub reported : (schema : SchemaParts) (event : Tree) (old new : Notes) (found report : List Violation) → Noted (λ place. IsWrong schema event) old new
    → old.found ≡ [] → found ≡ new.found → report ≡ in_order violation_order found → IsReport schema event (map told_violation report)
reported schema event old new found report n none is all =
    subst (λ (m : List Violation). IsReport schema event (map told_violation m)) (sym (all ∙ ap (in_order violation_order) is))
    (is_report schema event new.found (subst (λ (o : List Violation). Gains (IsWrong schema event) o new.found) none n.gained))
