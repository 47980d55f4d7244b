-- What is wrong with an event, and the report that lists just that.
use Rattle.std.specs.Prelude.{◌≡◌, ◌≢◌, ◌↔◌, ℕ, ℤ, Bool, true, false, List, [], ◌∷◌, ◌++◌, codes, decimal, slice_get}
use Rattle.std.specs.Prelude.{Contains, AllPairs, Option, Some, None, unwrap_or, IsSome, IsSomeAnd, ◌⊎◌}
use Rattle.std.specs.Fmt.{signed_decimal}
use Rattle.std.specs.List.{join_with_byte}
use Rattle.std.specs.Option.{option_map, option_and_then}
use Rattle.std.specs.declared.cmp.Ordering.TheVariants.{Less}
use Rattle.ocsf_tree.specs.declared.tree.Tree.{Tree}
use Rattle.ocsf_tree.specs.declared.tree.Member.{Member}
use Rattle.ocsf_tree.specs.declared.place.Step.{Step}
use Rattle.ocsf_tree.specs.declared.place.Step.TheVariants.{At, Name}
use Rattle.ocsf_tree.specs.declared.attribute.Requirement.TheVariants.{Required}
use Rattle.ocsf_tree.specs.declared.attribute.Span.{Span}
use Rattle.ocsf_schema.specs.declared.records.Attr.{Attr}
use Rattle.ocsf_schema.specs.declared.records.Item.{Item}
use Rattle.ocsf_schema.specs.declared.records.Limit.{Limit}
use Rattle.ocsf_schema.specs.declared.records.Target.{Target}
use Rattle.ocsf_schema.specs.declared.records.Target.TheVariants as target
use Rattle.ocsf_schema.specs.declared.parts.SchemaParts.{SchemaParts}
use Rattle.ocsf_kind.specs.Accepted.{Meets}
use Rattle.ocsf_kind.specs.declared.accepted.Which.TheVariants.{MaxLen, Range, Values}
use Rattle.ocsf_event_rules.specs.Profiles.{as_list, as_text, profile_list, named_profiles, is_in_force, is_profile}
use Rattle.ocsf_event_rules.specs.EventClass.{as_object, value_of, whole_of, kind_named, item_named, attribute_named}
use Rattle.ocsf_event_rules.specs.EventClass.{class_of}
use Rattle.ocsf_event_rules.specs.Conditions.{IsOfBase, HasPattern, IsInstant, IsOfEnumeration, enum_key}
use Rattle.ocsf_event_rules.specs.Conditions.{listed_in_force, HasOneOrMore, HasJustOne, expected_type, DoNumbersAgree}
use Rattle.ocsf_event_rules.specs.Judged.{Judge, OfClass, OfAttribute, OfElement, Seen, ItemObject, single_attr}
use Rattle.ocsf_event_rules.specs.Judged.{object_seen, seen}
use Rattle.ocsf_event_rules.specs.Wrong.{class_unknown, attribute_unknown, profile_inactive, required_missing}
use Rattle.ocsf_event_rules.specs.Wrong.{wrong_type, too_long, out_of_range, pattern, not_an_instant, not_a_value}
use Rattle.ocsf_event_rules.specs.Wrong.{enum_unknown, at_least_one, just_one, number_mismatch, profile_unknown}
use Rattle.ocsf_event_rules.specs.Wrong.{Violation, violation_cmp}

-- ---- of a value

-- a single value isn't of the base, or isn't an object where one is wanted; nor is any value where the schema has no
-- kind of that name, or no object
abbrev pub IsWrongSingle : SchemaParts → Target → Tree → List ℕ → Type 0
IsWrongSingle schema (target.Simple name) value detail =
    (IsSomeAnd (kind_named schema name) (λ kind. IsOfBase kind.base value) → ⊥) × (detail ≡ name)
IsWrongSingle schema (target.Object name) value detail =
    ((item_named schema name ≡ None) ⊎ (as_object value ≡ None)) × (detail ≡ codes "object_t")
IsWrongSingle schema target.Anything value detail = (as_object value ≡ None) × (detail ≡ codes "object_t")

-- no list where one is wanted
abbrev pub IsWrongList : SchemaParts → Bool → Target → Tree → List ℕ → Type 0
IsWrongList schema true target value detail = (as_list value ≡ None) × (detail ≡ codes "array")
IsWrongList schema false target value detail = IsWrongSingle schema target value detail

abbrev pub IsWrongType : SchemaParts → Judge → Tree → List ℕ → Type 0
IsWrongType schema (OfClass class) value detail = ⊥
IsWrongType schema (OfAttribute attr) value detail = IsWrongList schema attr.is_array attr.target value detail
IsWrongType schema (OfElement attr) value detail = IsWrongSingle schema attr.target value detail

abbrev pub span_text : Span → List ℕ
span_text span = signed_decimal span.low ++ codes ".." ++ signed_decimal span.high

-- the value doesn't meet a part of a limit
pub data IsLimitBroken (limit : Limit) (value : Tree) : ℕ → List ℕ → Type 0 where
  TooLong : (most : ℕ) → limit.max_len ≡ Some most → (Meets MaxLen limit value → ⊥)
      → IsLimitBroken limit value too_long (decimal most)
  OutOfRange : (span : Span) → limit.range ≡ Some span → (Meets Range limit value → ⊥)
      → IsLimitBroken limit value out_of_range (span_text span)
  Pattern : (HasPattern limit value → ⊥) → IsLimitBroken limit value pattern limit.type_name
  NotAnInstant : (IsInstant limit value → ⊥) → IsLimitBroken limit value not_an_instant limit.type_name
  NotAValue : (Meets Values limit value → ⊥) → IsLimitBroken limit value not_a_value limit.type_name

-- a limit of the type is broken
abbrev pub BreaksLimit : SchemaParts → Target → Tree → ℕ → List ℕ → Type 0
BreaksLimit schema (target.Simple name) value code detail =
    IsSomeAnd (kind_named schema name) (λ kind.
    IsOfBase kind.base value × ((limit : Limit) × Contains kind.limits limit × IsLimitBroken limit value code detail))
BreaksLimit schema other value code detail = ⊥

-- a whole number or a text is no key of the enumeration
abbrev pub IsNoKey : SchemaParts → Attr → Tree → List ℕ → Type 0
IsNoKey schema attr value detail =
    (IsOfEnumeration attr.members value → ⊥)
    × (enum_key value ≡ Some detail)
    × ((wrong : List ℕ) → IsWrongSingle schema attr.target value wrong → ⊥)

-- the value isn't of the type, breaks a limit of it, or is no key of the enumeration
pub data IsWrongValue (schema : SchemaParts) (here : Seen) : ℕ → List ℕ → Type 0 where
  WrongType : (detail : List ℕ) → IsWrongType schema here.judge here.value detail
      → IsWrongValue schema here wrong_type detail
  BrokenLimit : (code : ℕ) (detail : List ℕ)
      → IsSomeAnd (single_attr here.judge) (λ attr. BreaksLimit schema attr.target here.value code detail)
      → IsWrongValue schema here code detail
  EnumUnknown : (detail : List ℕ)
      → IsSomeAnd (single_attr here.judge) (λ attr. IsNoKey schema attr here.value detail)
      → IsWrongValue schema here enum_unknown detail

-- ---- of an object

-- a member that is no attribute or isn't in force, and an absent one that is wanted
pub data IsWrongMember (profiles : List (List ℕ)) (object : ItemObject) (name : List ℕ) : ℕ → List ℕ → Type 0 where
  Unknown : object.item.attrs ≢ [] → IsSome (value_of name object.members) → attribute_named object.item name ≡ None
      → IsWrongMember profiles object name attribute_unknown []
  Inactive : (attr : Attr) (profile : List ℕ) → IsSome (value_of name object.members)
      → attribute_named object.item name ≡ Some attr → is_in_force profiles attr ≡ false → attr.profile ≡ Some profile
      → IsWrongMember profiles object name profile_inactive profile
  Missing : (attr : Attr) → value_of name object.members ≡ None
      → attribute_named object.item name ≡ Some attr → is_in_force profiles attr ≡ true → attr.requirement ≡ Required
      → IsWrongMember profiles object name required_missing []

abbrev pub comma : ℕ
comma = 44

-- too few or too many of some attributes are there; the list is told as it is written
pub data IsWrongObject (profiles : List (List ℕ)) (object : ItemObject) : ℕ → List ℕ → Type 0 where
  NoneOfThem : (HasOneOrMore object.members (listed_in_force profiles object.item object.item.at_least_one) → ⊥)
      → IsWrongObject profiles object at_least_one (join_with_byte comma object.item.at_least_one)
  NotJustOne : (HasJustOne object.members (listed_in_force profiles object.item object.item.just_one) → ⊥)
      → IsWrongObject profiles object just_one (join_with_byte comma object.item.just_one)

-- ---- of the event

abbrev pub whole_text : Option ℤ → List ℕ
whole_text whole = unwrap_or (option_map signed_decimal whole) []

abbrev pub profile_place : ℕ → List Step
profile_place position = Name (codes "metadata") ∷ Name (codes "profiles") ∷ At position ∷ []

-- of an event of a class with that number
pub data IsWrongEvent (schema : SchemaParts) (event : Tree) (class : ℕ) (members : List Member)
    : List Step → ℕ → List ℕ → Type 0 where
  NumberMismatch : (activity : ℤ) → whole_of (codes "activity_id") members ≡ Some activity
      → (DoNumbersAgree class members → ⊥)
      → IsWrongEvent schema event class members (Name (codes "type_uid") ∷ []) number_mismatch
      (signed_decimal (expected_type class activity))
  ProfileUnknown : (position : ℕ) (profile : List ℕ)
      → option_and_then as_text (slice_get (profile_list event) position) ≡ Some profile
      → is_profile schema profile ≡ false
      → IsWrongEvent schema event class members (profile_place position) profile_unknown profile

-- ---- all

-- that is wrong at the place of the event
pub data IsViolation (schema : SchemaParts) (event : Tree) : List Step → ℕ → List ℕ → Type 0 where
  -- the event is no object
  NoObject : as_object event ≡ None → IsViolation schema event [] wrong_type (codes "object_t")
  -- it is one of no class
  NoClass : (members : List Member) → as_object event ≡ Some members → class_of schema members ≡ None
      → IsViolation schema event (Name (codes "class_uid") ∷ []) class_unknown
      (whole_text (whole_of (codes "class_uid") members))
  AtValue : (place : List Step) (here : Seen) (code : ℕ) (detail : List ℕ) → seen schema event place ≡ Some here
      → IsWrongValue schema here code detail → IsViolation schema event place code detail
  AtMember : (place : List Step) (here : Seen) (object : ItemObject) (name : List ℕ) (code : ℕ) (detail : List ℕ)
      → seen schema event place ≡ Some here → object_seen schema here ≡ Some object
      → IsWrongMember (named_profiles event) object name code detail
      → IsViolation schema event (place ++ Name name ∷ []) code detail
  AtObject : (place : List Step) (here : Seen) (object : ItemObject) (code : ℕ) (detail : List ℕ)
      → seen schema event place ≡ Some here → object_seen schema here ≡ Some object
      → IsWrongObject (named_profiles event) object code detail → IsViolation schema event place code detail
  OnEvent : (members : List Member) (class : Item) (number : ℕ) (place : List Step) (code : ℕ) (detail : List ℕ)
      → as_object event ≡ Some members → class_of schema members ≡ Some class → class.class_uid ≡ Some number
      → IsWrongEvent schema event number members place code detail → IsViolation schema event place code detail

-- ---- the report

-- just what is wrong with the event, strictly in order
pub record IsReport (schema : SchemaParts) (event : Tree) (report : List Violation) : Type 0 where
  pub ordered : AllPairs (λ v w. violation_cmp v w ≡ Less) report
  pub listed : (v : Violation) → Contains report v ↔ IsViolation schema event v.place v.code v.detail
