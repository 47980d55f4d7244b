-- What is wrong within a value, by the place at which it is seen.
use Rattle.std.proofs.Common.{◌≡◌, ℕ, List, [], ◌∷◌, ◌++◌, Option, Some, None, ◌⊎◌, inl, inr, refl, sym, ◌∙◌, ap, subst}
use Rattle.std.specs.Option.{option_and_then}
use Rattle.std.proofs.lemmas.Option.{none-some, same_Some}
use Rattle.std.proofs.lemmas.List.{append-nil, append_assoc}
use Rattle.ocsf_tree.specs.declared.tree.Tree.{Tree}
use Rattle.ocsf_tree.specs.declared.tree.Member.{Member}
use Rattle.ocsf_tree.specs.declared.place.Step.{Step}
use Rattle.ocsf_tree.specs.declared.place.Step.TheVariants.{Name}
use Rattle.ocsf_schema.specs.declared.records.Item.{Item}
use Rattle.ocsf_schema.specs.declared.parts.SchemaParts.{SchemaParts}
use Rattle.ocsf_event.specs.declared.violation.Violation.{Violation}
use Rattle.ocsf_event.specs.Code.{rank}
use Rattle.ocsf_event_rules.specs.Profiles.{named_profiles}
use Rattle.ocsf_event_rules.specs.EventClass.{as_object, class_of, class_of_event}
use Rattle.ocsf_event_rules.specs.Judged.{Seen, ItemObject, object_seen, seen_at, seen_from, of_class, seen}
use Rattle.ocsf_event_rules.specs.Violations as rules
use Rattle.ocsf_event_rules.specs.Violations.{IsViolation, NoObject, NoClass, AtValue, AtMember, AtObject, OnEvent}
use Rattle.ocsf_event.specs.ByCode.{IsWrongValue, IsWrongMember, IsWrongObject}
use Rattle.ocsf_event.specs.Walk.{IsWithin, Here, OfMember, OfObject, Deeper, IsAmiss}
use Rattle.ocsf_event.proofs.Codes.{of_rank, value_by, value_told, member_by, member_told, object_by, object_told, IsAt, event_by, event_told}

joined : (place : List Step) (step : Step) (rest : List Step) → (place ++ step ∷ []) ++ rest ≡ place ++ step ∷ rest
joined place step rest = append_assoc place (step ∷ []) rest

module _ (schema : SchemaParts) (profiles : List (List ℕ)) where
  -- wrong at what is seen from here on
  pub data IsFrom (here : Seen) (place : List Step) (v : Violation) : Type 0 where
    FromValue : (rest : List Step) (there : Seen) → seen_from schema profiles here rest ≡ Some there → v.place.steps ≡ place ++ rest
        → IsWrongValue schema there v.code v.detail → IsFrom here place v
    FromMember : (rest : List Step) (there : Seen) (object : ItemObject) (name : List ℕ) → seen_from schema profiles here rest ≡ Some there → object_seen schema there ≡ Some object
        → v.place.steps ≡ (place ++ rest) ++ Name name ∷ [] → IsWrongMember profiles object name v.code v.detail → IsFrom here place v
    FromObject : (rest : List Step) (there : Seen) (object : ItemObject) → seen_from schema profiles here rest ≡ Some there → object_seen schema there ≡ Some object
        → v.place.steps ≡ place ++ rest → IsWrongObject profiles object v.code v.detail → IsFrom here place v

  further : (here next : Seen) (place : List Step) (v : Violation) (step : Step) → seen_at schema profiles step here ≡ Some next
      → IsFrom next (place ++ step ∷ []) v → IsFrom here place v
  further here next place v step seen (FromValue rest there e is w) =
      FromValue (step ∷ rest) there (ap (option_and_then (λ n. seen_from schema profiles n rest)) seen ∙ e) (is ∙ joined place step rest) w
  further here next place v step seen (FromMember rest there object name e o is w) =
      FromMember (step ∷ rest) there object name (ap (option_and_then (λ n. seen_from schema profiles n rest)) seen ∙ e) o
      (is ∙ ap (λ p. p ++ Name name ∷ []) (joined place step rest)) w
  further here next place v step seen (FromObject rest there object e o is w) =
      FromObject (step ∷ rest) there object (ap (option_and_then (λ n. seen_from schema profiles n rest)) seen ∙ e) o (is ∙ joined place step rest) w

  pub from_within : {here : Seen} {place : List Step} {v : Violation} → IsWithin schema profiles here place v → IsFrom here place v
  from_within (Here here place v is w) = FromValue [] here refl (is ∙ sym (append-nil place)) w
  from_within (OfMember here place v object name o is w) = FromMember [] here object name refl o (is ∙ ap (λ p. p ++ Name name ∷ []) (sym (append-nil place))) w
  from_within (OfObject here place v object o is w) = FromObject [] here object refl o (is ∙ sym (append-nil place)) w
  from_within (Deeper here place v step next seen w) = further here next place v step seen (from_within w)

  -- what holds of what is seen at the end holds of the way to it
  along : (v : Violation) (rest : List Step) (here there : Seen) (place : List Step) → seen_from schema profiles here rest ≡ Some there
      → IsWithin schema profiles there (place ++ rest) v → IsWithin schema profiles here place v
  along v [] here there place e w =
      subst (λ h. IsWithin schema profiles h place v) (sym (same_Some here there e)) (subst (λ p. IsWithin schema profiles there p v) (append-nil place) w)
  along v (step ∷ rest) here there place e w =
      by_step (λ next f. along v rest next there (place ++ step ∷ []) f (subst (λ p. IsWithin schema profiles there p v) (sym (joined place step rest)) w)) (seen_at schema profiles step here) refl e
    where
      by_step : ((next : Seen) → seen_from schema profiles next rest ≡ Some there → IsWithin schema profiles next (place ++ step ∷ []) v) → (o : Option Seen) → seen_at schema profiles step here ≡ o → option_and_then (λ n. seen_from schema profiles n rest) o ≡ Some there → IsWithin schema profiles here place v
      by_step more None is e = absurd (none-some there e)
      by_step more (Some next) is e = Deeper here place v step next is (more next e)

  pub to_within : (here : Seen) (place : List Step) (v : Violation) → IsFrom here place v → IsWithin schema profiles here place v
  to_within here place v (FromValue rest there e is w) = along v rest here there place e (Here there (place ++ rest) v is w)
  to_within here place v (FromMember rest there object name e o is w) = along v rest here there place e (OfMember there (place ++ rest) v object name o is w)
  to_within here place v (FromObject rest there object e o is w) = along v rest here there place e (OfObject there (place ++ rest) v object o is w)

-- ---- of an event

module _ (schema : SchemaParts) (event : Tree) (v : Violation) where
  abbrev Wrong_here : Type 0
  Wrong_here = IsViolation schema event v.place.steps (rank v.code) v.detail

  module _ (members : List Member) (class : Item) (number : ℕ) (is : as_object event ≡ Some members) (known : class_of schema members ≡ Some class) (numbered : class.class_uid ≡ Some number) where
    abbrev profiles : List (List ℕ)
    profiles = named_profiles event

    abbrev Of_class : Type 0
    Of_class = IsWithin schema profiles (of_class event class) [] v ⊎ IsAmiss schema event number members v

    class_is : class_of_event schema event ≡ Some class
    class_is = ap (option_and_then (class_of schema)) is ∙ known

    seen_is : (place : List Step) → seen schema event place ≡ seen_from schema profiles (of_class event class) place
    seen_is place = ap (option_and_then (λ c. seen_from schema profiles (of_class event c) place)) class_is

    placed : (place : List Step) → v.place.steps ≡ place → IsViolation schema event place (rank v.code) v.detail → Wrong_here
    placed place at w = subst (λ p. IsViolation schema event p (rank v.code) v.detail) (sym at) w

    of_from : IsFrom schema profiles (of_class event class) [] v → Wrong_here
    of_from (FromValue rest there e at w) = placed rest at
        (AtValue rest there (rank v.code) v.detail (seen_is rest ∙ e) (value_told schema there v.code v.detail w))
    of_from (FromMember rest there object name e o at w) = placed (rest ++ Name name ∷ []) at
        (AtMember rest there object name (rank v.code) v.detail (seen_is rest ∙ e) o
        (member_told profiles object name v.code v.detail w))
    of_from (FromObject rest there object e o at w) = placed rest at
        (AtObject rest there object (rank v.code) v.detail (seen_is rest ∙ e) o
        (object_told profiles object v.code v.detail w))

    pub is_violation : Of_class → Wrong_here
    is_violation (inl w) = of_from (from_within schema profiles w)
    is_violation (inr w) =
        OnEvent members class number v.place.steps (rank v.code) v.detail is known numbered
        (event_told schema event number members v w)

    inside : IsFrom schema profiles (of_class event class) [] v → Of_class
    inside w = inl (to_within schema profiles (of_class event class) [] v w)

    to_from : {p : List Step} {n : ℕ} {d : List ℕ} → IsAt p n d v → IsViolation schema event p n d → Of_class
    to_from at (NoObject none) = absurd (none-some members (sym none ∙ is))
    to_from at (NoClass ms object none) =
        absurd (none-some class (sym none ∙ ap (class_of schema) (same_Some ms members (sym object ∙ is)) ∙ known))
    to_from at (AtValue place here n detail e w) = inside
        (FromValue place here (sym (seen_is place) ∙ e) (sym at.placed)
        (of_rank (λ c. IsWrongValue schema here c v.detail) v.code at.ranked
        (value_by schema (subst (λ d. rules.IsWrongValue schema here n d) at.detailed w))))
    to_from at (AtMember place here object name n detail e o w) = inside
        (FromMember place here object name (sym (seen_is place) ∙ e) o (sym at.placed)
        (of_rank (λ c. IsWrongMember profiles object name c v.detail) v.code at.ranked
        (member_by profiles object (subst (λ d. rules.IsWrongMember profiles object name n d) at.detailed w))))
    to_from at (AtObject place here object n detail e o w) = inside
        (FromObject place here object (sym (seen_is place) ∙ e) o (sym at.placed)
        (of_rank (λ c. IsWrongObject profiles object c v.detail) v.code at.ranked
        (object_by profiles object (subst (λ d. rules.IsWrongObject profiles object n d) at.detailed w))))
    to_from at (OnEvent ms k i place n detail object kn num w) =
        let same : ms ≡ members = same_Some ms members (sym object ∙ is) in
        let one : k ≡ class = same_Some k class (sym kn ∙ ap (class_of schema) same ∙ known) in
        let count : i ≡ number = same_Some i number (sym num ∙ ap (λ (c : Item). c.class_uid) one ∙ numbered) in
        inr (event_by schema event number members v at
        (subst (λ m. rules.IsWrongEvent schema event number m place n detail) same
        (subst (λ j. rules.IsWrongEvent schema event j ms place n detail) count w)))

    pub of_violation : Wrong_here → Of_class
    of_violation w = to_from (record { placed = refl; ranked = refl; detailed = refl }) w
