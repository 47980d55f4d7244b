-- What is seen one step further stands in the value; all that is seen in an event can be listed.
use Rattle.std.proofs.Common.{◌≡◌, ℕ, List, [], ◌∷◌, Bool, true, false, Option, Some, None}
use Rattle.std.proofs.Common.{◌⊎◌, inl, inr, refl, sym, ◌∙◌, ap, subst, if◌then◌else◌}
use Rattle.std.specs.Prelude.{slice_get}
use Rattle.std.specs.Option.{option_map, option_and_then}
use Rattle.std.proofs.lemmas.Option.{option_and_then_some}
use Rattle.ocsf_tree.specs.declared.tree.Tree.{Tree}
use Rattle.ocsf_tree.specs.declared.tree.Member.{Member}
use Rattle.ocsf_tree.specs.declared.place.Step.{Step}
use Rattle.ocsf_tree.specs.declared.place.Step.TheVariants.{At, Name}
use Rattle.ocsf_tree.specs.Lookup.{member_in}
use Rattle.ocsf_tree.specs.Valid.{IsValid}
use Rattle.ocsf_schema.specs.declared.records.Attr.{Attr}
use Rattle.ocsf_schema.specs.declared.records.Item.{Item}
use Rattle.ocsf_schema.specs.declared.parts.SchemaParts.{SchemaParts}
use Rattle.ocsf_event_rules.specs.Profiles.{as_list, named_profiles}
use Rattle.ocsf_event_rules.specs.EventClass.{as_object, is_null, unless_null, value_of, class_of_event}
use Rattle.ocsf_event_rules.specs.Judged.{Judge, OfClass, OfAttribute, OfElement, Seen, ItemObject, with_item, item_of}
use Rattle.ocsf_event_rules.specs.Judged.{object_seen, of_attribute, of_element, attribute_in_force, member_seen}
use Rattle.ocsf_event_rules.specs.Judged.{element_seen, seen_at, seen_from, of_class, seen}
use Rattle.ocsf_event_rules.proofs.AllowedEvents.{none_is_some, some_is, picked, if_array}
use Rattle.ocsf_event_rules.proofs.Listed.{Listed, nothing, alike, either, of_some, along, one, mapped}
use Rattle.ocsf_event_rules.proofs.Children.{IsChild, children, child_valid, by_children}

abbrev pub at : Judge → Tree → Seen
at judge value = record { judge = judge; value = value }

module _ (schema : SchemaParts) (ps : List (List ℕ)) where
  -- ---- one step

  pub members_seen : (item : Option Item) (members : Option (List Member)) (object : ItemObject)
      → option_and_then (λ i. option_map (with_item i) members) item ≡ Some object → members ≡ Some object.members
  members_seen None members object e = absurd (none_is_some object e)
  members_seen (Some i) None object e = absurd (none_is_some object e)
  members_seen (Some i) (Some ms) object e = ap (λ o. Some (ItemObject.members o)) (some_is (with_item i ms) object e)

  value_picked : (attr : Option Attr) (value : Option Tree) (next : Seen) → picked schema ps attr value ≡ Some next
      → value ≡ Some next.value
  value_picked None value next e = absurd (none_is_some next e)
  value_picked (Some a) None next e = absurd (none_is_some next e)
  value_picked (Some a) (Some v) next e = ap (λ s. Some (Seen.value s)) (some_is (of_attribute a v) next e)

  not_null : (member : Option Tree) (value : Tree) → option_and_then unless_null member ≡ Some value
      → member ≡ Some value
  not_null None value e = absurd (none_is_some value e)
  not_null (Some t) value e = by_null (is_null t) e
    where
      by_null : (b : Bool) → (if b then None else Some t) ≡ Some value → Some t ≡ Some value
      by_null true e = absurd (none_is_some value e)
      by_null false e = e

  member_below : (name : List ℕ) (value : Tree) (object : Option ItemObject) (next : Seen)
      → ((o : ItemObject) → object ≡ Some o → as_object value ≡ Some o.members)
      → option_and_then (member_seen ps name) object ≡ Some next → IsChild value (Name name) next.value
  member_below name value None next is e = absurd (none_is_some next e)
  member_below name value (Some o) next is e = (
    o.members,
    is o refl,
    not_null (member_in name o.members) next.value
        (value_picked (attribute_in_force ps o.item name) (value_of name o.members) next e),
  )

  element_in : (attr : Attr) (k : ℕ) (value : Tree) (array : Bool) (values : Option (List Tree)) (next : Seen)
      → as_list value ≡ values → if_array schema ps array k attr values ≡ Some next → IsChild value (At k) next.value
  element_in attr k value false values next is e = absurd (none_is_some next e)
  element_in attr k value true None next is e = absurd (none_is_some next e)
  element_in attr k value true (Some values) next is e = (values, is, at_place (slice_get values k) e)
    where
      at_place : (o : Option Tree) → option_map (of_element attr) o ≡ Some next → o ≡ Some next.value
      at_place None e = absurd (none_is_some next e)
      at_place (Some one) e = ap (λ s. Some (Seen.value s)) (some_is (of_element attr one) next e)

  element_below : (k : ℕ) (judge : Judge) (value : Tree) (next : Seen) → element_seen k (at judge value) ≡ Some next
      → IsChild value (At k) next.value
  element_below k (OfClass class) value next e = absurd (none_is_some next e)
  element_below k (OfElement attr) value next e = absurd (none_is_some next e)
  element_below k (OfAttribute attr) value next e = element_in attr k value attr.is_array (as_list value) next refl e

  pub child_of : (step : Step) (here next : Seen) → seen_at schema ps step here ≡ Some next
      → IsChild here.value step next.value
  child_of (Name name) here next e =
      member_below name here.value (object_seen schema here) next
      (λ o is. members_seen (item_of schema here.judge) (as_object here.value) o is) e
  child_of (At k) here next e = element_below k here.judge here.value next e

  -- ---- all the way down

  pub seen_valid : (place : List Step) (start next : Seen) → IsValid start.value
      → seen_from schema ps start place ≡ Some next → IsValid next.value
  seen_valid [] start next valid e = subst (λ (s : Seen). IsValid s.value) (some_is start next e) valid
  seen_valid (step ∷ place) start next valid e =
      option_and_then_some (λ s. seen_from schema ps s place) (seen_at schema ps step start) next e
      (λ s is f. seen_valid place s next
      (child_valid start.value step s.value valid (child_of step start s is)) f)

  abbrev Spot : Type 0
  Spot = List Step × Seen

  abbrev IsSeenFrom : Seen → Spot → Type 0
  IsSeenFrom start spot = seen_from schema ps start spot.0 ≡ Some spot.1

  abbrev IsFurther : Seen → Step → Spot → Type 0
  IsFurther here step spot =
      (next : Seen) × (seen_at schema ps step here ≡ Some next)
      × ((below : Spot) × IsSeenFrom next below × (spot ≡ (step ∷ below.0, below.1)))

  abbrev IsBelow : Seen → Spot → Type 0
  IsBelow here spot = (c : Step × Tree) × IsChild here.value c.0 c.1 × IsFurther here c.0 spot

  abbrev IsHere : Seen → Spot → Type 0
  IsHere here spot = spot ≡ ([], here)

  seen_there : (here : Seen) (spot : Spot) → IsHere here spot ⊎ IsBelow here spot → IsSeenFrom here spot
  seen_there here spot (inl is) = subst (IsSeenFrom here) (sym is) refl
  seen_there here spot (inr below) =
      let c = below.0 in let further = below.2 in let next = further.2 in
      subst (IsSeenFrom here) (sym next.2)
      (ap (option_and_then (λ s. seen_from schema ps s next.0.0)) further.1 ∙ next.1)

  root_is : {s t : Seen} → s ≡ t → IsHere t ([], s)
  root_is e = λ i. ([], e i)

  seen_back : (here : Seen) (place : List Step) (end : Seen) → seen_from schema ps here place ≡ Some end
      → IsHere here (place, end) ⊎ IsBelow here (place, end)
  seen_back here [] end e = inl (root_is (sym (some_is here end e)))
  seen_back here (step ∷ place) end e =
      option_and_then_some (λ s. seen_from schema ps s place) (seen_at schema ps step here) end e
      (λ s is f. inr ((step, s.value), child_of step here s is, (s, is, ((place, end), f, refl))))

  abbrev AreSeenBelow : Tree → Type 0
  AreSeenBelow value = (judge : Judge) → Listed (IsSeenFrom (at judge value))

  pub seen_below : (value : Tree) → IsValid value → AreSeenBelow value
  seen_below value valid = by_children (λ t. IsValid t → AreSeenBelow t) of_children value valid
    where
      of_children : (t : Tree)
          → ((step : Step) (child : Tree) → IsValid t → IsChild t step child
          → IsValid child × (IsValid child → AreSeenBelow child))
          → IsValid t → AreSeenBelow t
      of_children t below valid judge =
          alike (λ spot. IsHere (at judge t) spot ⊎ IsBelow (at judge t) spot) (IsSeenFrom (at judge t))
          (seen_there (at judge t)) (λ spot e. seen_back (at judge t) spot.0 spot.1 e)
          (either (IsHere (at judge t)) (IsBelow (at judge t)) (one ([], at judge t))
          (along (λ c. IsChild t c.0 c.1) (λ c spot. IsFurther (at judge t) c.0 spot) (children t)
          (λ c is. of_some
          (λ next spot. (below : Spot) × IsSeenFrom next below × (spot ≡ (c.0 ∷ below.0, below.1)))
          (seen_at schema ps c.0 (at judge t))
          (λ next found. mapped (IsSeenFrom next) (λ (s : Spot). (c.0 ∷ s.0, s.1))
          (let child = below c.0 next.value valid (child_of c.0 (at judge t) next found) in
          child.1 child.0 next.judge)))))

abbrev pub IsSeen : SchemaParts → Tree → List Step × Seen → Type 0
IsSeen schema event spot = seen schema event spot.0 ≡ Some spot.1

pub all_seen : (schema : SchemaParts) (event : Tree) → IsValid event → Listed (IsSeen schema event)
all_seen schema event valid = by_class (class_of_event schema event)
  where
    by_class : (class : Option Item)
        → Listed (λ (spot : List Step × Seen).
        option_and_then (λ c. seen_from schema (named_profiles event) (of_class event c) spot.0) class ≡ Some spot.1)
    by_class None = nothing (λ (spot : List Step × Seen). None ≡ Some spot.1) (λ spot e. none_is_some spot.1 e)
    by_class (Some class) = seen_below schema (named_profiles event) event valid (OfClass class)

pub is_valid_seen : (schema : SchemaParts) (event : Tree) → IsValid event → (place : List Step) (here : Seen)
    → seen schema event place ≡ Some here → IsValid here.value
is_valid_seen schema event valid place here e =
    option_and_then_some (λ c. seen_from schema (named_profiles event) (of_class event c) place)
    (class_of_event schema event) here e
    (λ c is f. seen_valid schema (named_profiles event) place (of_class event c) here valid f)
