-- What lists gain along the walk, function by function.
use Rattle.std.proofs.Common.{◌≡◌, ◌≢◌, ℕ, List, [], true, false, true≢false, Some, None, Result, Ok, Err, sym, ◌∙◌, subst}
use Rattle.std.specs.Prelude.{OnOk, IfOk, codes}
use Rattle.std.proofs.lemmas.Option.{none-some, same_Some}
use Rattle.ocsf_tree.specs.declared.tree.Tree.{Tree}
use Rattle.ocsf_tree.specs.declared.tree.Member.{Member}
use Rattle.ocsf_tree.specs.declared.place.Step.{Step}
use Rattle.ocsf_tree.specs.Valid.{IsValidMembers}
use Rattle.ocsf_lists.specs.ByName.{IsByName}
use Rattle.ocsf_schema.specs.declared.records.Attr.{Attr}
use Rattle.ocsf_schema.specs.declared.records.Item.{Item}
use Rattle.ocsf_schema.specs.declared.records.Target.TheVariants as target
use Rattle.ocsf_schema.specs.declared.parts.SchemaParts.{SchemaParts}
use Rattle.ocsf_event.specs.declared.violation.Wrong.TheVariants as code
use Rattle.ocsf_event.specs.declared.violation.Violation.{Violation}
use Rattle.ocsf_event_rules.specs.Profiles.{as_list, is_in_force}
use Rattle.ocsf_event_rules.specs.EventClass.{as_object, is_null, value_of, attribute_named}
use Rattle.ocsf_tree.specs.declared.attribute.Requirement.TheVariants.{Required}
use Rattle.ocsf_event_rules.specs.Judged.{with_item, object_of, of_attribute, of_element}
use Rattle.ocsf_event.specs.Gains.{Gains}
use Rattle.ocsf_event.specs.Walk.{IsThis, IsWithin, InObject, InMember, Unknown, Known, InKnown, Off, On, InItems, IsMissing, IsWrongHere, WantsObject, IsUnfit, at_name_below}
use Rattle.ocsf_event.proofs.Gains.{gains_nothing, gains_alike}
use Rattle.ocsf_event.proofs.Walks.{single_there, single_back, to_items, from_items, to_no_list, from_no_list, to_simple, from_simple, to_unfit, from_unfit, nothing_within, to_judged, from_judged}
use Rattle.ocsf_event.proofs.Objects.{attr_name, Parts, to_parts, from_parts}

pub on_ok : {X E P Q : Type 0} (r : Result X E) → OnOk r P → (P → Q) → OnOk r Q
on_ok (Ok x) p f = f p
on_ok (Err e) p f = tt

pub if_ok : {X E : Type 0} {P Q : X → Type 0} (r : Result X E) → IfOk r P → ((x : X) → P x → Q x) → IfOk r Q
if_ok (Ok x) p f = f x p
if_ok (Err e) p f = tt

-- ---- an attribute that has to be there

pub gains_missing : (profiles : List (List ℕ)) (members : List Member) (place : List Step) (attr : Attr) (old new : List Violation)
    → value_of attr.name members ≡ None → is_in_force profiles attr ≡ true → attr.requirement ≡ Required
    → Gains (IsThis (at_name_below place attr.name) code.RequiredMissing []) old new → Gains (IsMissing profiles members attr place) old new
gains_missing profiles members place attr old new none force wanted g =
    gains_alike (IsThis (at_name_below place attr.name) code.RequiredMissing []) (IsMissing profiles members attr place) old new
    (λ v it. record { absent = none; in_force = force; required = wanted; this = it }) (λ v missing. missing.this) g

module _ (schema : SchemaParts) (profiles : List (List ℕ)) (old new : List Violation) where
  -- ---- the value of an attribute

  pub gains_off : (attr : Attr) (value : Tree) (place : List Step) (profile : List ℕ) → is_in_force profiles attr ≡ false → attr.profile ≡ Some profile
      → Gains (IsThis place code.ProfileInactive profile) old new → Gains (InKnown schema profiles attr value place) old new
  gains_off attr value place profile off marked g =
      gains_alike (IsThis place code.ProfileInactive profile) (InKnown schema profiles attr value place) old new (λ v this. Off profile off marked this) back g
    where
      back : (v : Violation) → InKnown schema profiles attr value place v → IsThis place code.ProfileInactive profile v
      back v (Off other off_is is this) = subst (λ p. IsThis place code.ProfileInactive p v) (same_Some other profile (sym is ∙ marked)) this
      back v (On force w) = absurd (true≢false (sym force ∙ off))

  pub gains_on : (attr : Attr) (value : Tree) (place : List Step) → is_in_force profiles attr ≡ true
      → Gains (IsWithin schema profiles (of_attribute attr value) place) old new → Gains (InKnown schema profiles attr value place) old new
  gains_on attr value place force g =
      gains_alike (IsWithin schema profiles (of_attribute attr value) place) (InKnown schema profiles attr value place) old new (λ v w. On force w) back g
    where
      back : (v : Violation) → InKnown schema profiles attr value place v → IsWithin schema profiles (of_attribute attr value) place v
      back v (Off other off_is is this) = absurd (true≢false (sym force ∙ off_is))
      back v (On on_is w) = w

  -- ---- a member

  module _ (item : Item) (place : List Step) (m : Member) where
    pub gains_known : (attr : Attr) → is_null m.value ≡ false → attribute_named item m.name ≡ Some attr
        → Gains (InKnown schema profiles attr m.value (at_name_below place m.name)) old new → Gains (InMember schema profiles item m place) old new
    gains_known attr given named g =
        gains_alike (InKnown schema profiles attr m.value (at_name_below place m.name)) (InMember schema profiles item m place) old new (λ v w. Known attr given named w) back g
      where
        back : (v : Violation) → InMember schema profiles item m place v → InKnown schema profiles attr m.value (at_name_below place m.name) v
        back v (Unknown is some none this) = absurd (none-some attr (sym none ∙ named))
        back v (Known other is found w) =
            subst (λ a. InKnown schema profiles a m.value (at_name_below place m.name) v) (same_Some other attr (sym found ∙ named)) w

    pub gains_unknown : is_null m.value ≡ false → item.attrs ≢ [] → attribute_named item m.name ≡ None
        → Gains (IsThis (at_name_below place m.name) code.AttributeUnknown []) old new → Gains (InMember schema profiles item m place) old new
    gains_unknown given some none g =
        gains_alike (IsThis (at_name_below place m.name) code.AttributeUnknown []) (InMember schema profiles item m place) old new (λ v this. Unknown given some none this) back g
      where
        back : (v : Violation) → InMember schema profiles item m place v → IsThis (at_name_below place m.name) code.AttributeUnknown [] v
        back v (Unknown is more nameless this) = this
        back v (Known other is found w) = absurd (none-some other (sym none ∙ found))

    pub gains_absent : is_null m.value ≡ true → Gains (InMember schema profiles item m place) old old
    gains_absent null = gains_nothing (InMember schema profiles item m place) old none
      where
        none : (v : Violation) → InMember schema profiles item m place v → ⊥
        none v (Unknown is some nameless this) = true≢false (sym null ∙ is)
        none v (Known other is found w) = true≢false (sym null ∙ is)

    pub gains_open : item.attrs ≡ [] → attribute_named item m.name ≡ None → Gains (InMember schema profiles item m place) old old
    gains_open open_item nameless = gains_nothing (InMember schema profiles item m place) old none
      where
        none : (v : Violation) → InMember schema profiles item m place v → ⊥
        none v (Unknown is some named this) = some open_item
        none v (Known other is found w) = none-some other (sym nameless ∙ found)

  -- ---- a value

  pub gains_single : (attr : Attr) (value : Tree) (place : List Step) → attr.is_array ≡ false
      → Gains (IsWithin schema profiles (of_element attr value) place) old new → Gains (IsWithin schema profiles (of_attribute attr value) place) old new
  gains_single attr value place one g = gains_alike (IsWithin schema profiles (of_element attr value) place) (IsWithin schema profiles (of_attribute attr value) place) old new
      (λ v w. single_back schema profiles attr value one place v w) (λ v w. single_there schema profiles attr value one place v w) g

  pub gains_items : (attr : Attr) (value : Tree) (place : List Step) (items : List Tree) → attr.is_array ≡ true → as_list value ≡ Some items
      → Gains (InItems schema profiles attr items place) old new → Gains (IsWithin schema profiles (of_attribute attr value) place) old new
  gains_items attr value place items array is g = gains_alike (InItems schema profiles attr items place) (IsWithin schema profiles (of_attribute attr value) place) old new
      (λ v w. from_items schema profiles attr value array items is place v w) (λ v w. to_items schema profiles attr value array items is place v w) g

  pub gains_no_list : (attr : Attr) (value : Tree) (place : List Step) → attr.is_array ≡ true → as_list value ≡ None
      → Gains (IsThis place code.WrongType (codes "array")) old new → Gains (IsWithin schema profiles (of_attribute attr value) place) old new
  gains_no_list attr value place array none g = gains_alike (IsThis place code.WrongType (codes "array")) (IsWithin schema profiles (of_attribute attr value) place) old new
      (λ v w. from_no_list schema profiles attr value array none place v w) (λ v w. to_no_list schema profiles attr value array none place v w) g

  pub gains_simple : (attr : Attr) (value : Tree) (place : List Step) → object_of schema attr.target ≡ None
      → Gains (IsWrongHere schema (of_element attr value) place) old new → Gains (IsWithin schema profiles (of_element attr value) place) old new
  gains_simple attr value place none g = gains_alike (IsWrongHere schema (of_element attr value) place) (IsWithin schema profiles (of_element attr value) place) old new
      (λ v w. from_simple schema profiles attr value place v w) (λ v w. to_simple schema profiles attr value place v none w) g

  pub gains_unfit : (attr : Attr) (value : Tree) (place : List Step) → WantsObject attr.target → IsUnfit schema attr.target value
      → Gains (IsThis place code.WrongType (codes "object_t")) old new → Gains (IsWithin schema profiles (of_element attr value) place) old new
  gains_unfit attr value place wants unfit g = gains_alike (IsThis place code.WrongType (codes "object_t")) (IsWithin schema profiles (of_element attr value) place) old new
      (λ v w. from_unfit schema profiles attr value wants unfit place v w) (λ v w. to_unfit schema profiles attr value wants unfit place v w) g

  pub gains_any : (attr : Attr) (value : Tree) (place : List Step) (members : List Member) → WantsObject attr.target → as_object value ≡ Some members → attr.target ≡ target.Anything
      → Gains (IsWithin schema profiles (of_element attr value) place) old old
  gains_any attr value place members wants is any = gains_nothing (IsWithin schema profiles (of_element attr value) place) old
      (λ v w. nothing_within schema profiles attr value wants members is place v any w)

  pub gains_judged : (attr : Attr) (value : Tree) (place : List Step) (members : List Member) (item : Item) → WantsObject attr.target → as_object value ≡ Some members → object_of schema attr.target ≡ Some item
      → Gains (InObject schema profiles (with_item item members) place) old new → Gains (IsWithin schema profiles (of_element attr value) place) old new
  gains_judged attr value place members item wants is judge g = gains_alike (InObject schema profiles (with_item item members) place) (IsWithin schema profiles (of_element attr value) place) old new
      (λ v w. from_judged schema profiles attr value wants members is item judge place v w) (λ v w. to_judged schema profiles attr value wants members is item judge place v w) g

  -- ---- an object

  pub gains_object : (item : Item) (members : List Member) (place : List Step) → IsValidMembers members → IsByName attr_name item.attrs
      → Gains (Parts schema profiles item members place) old new → Gains (InObject schema profiles (with_item item members) place) old new
  gains_object item members place valid ordered g = gains_alike (Parts schema profiles item members place) (InObject schema profiles (with_item item members) place) old new
      (λ v w. from_parts schema profiles item members place v valid ordered w) (λ v w. to_parts schema profiles item members place v w) g
