-- For private clauses: what is wrong with a value and below it, step by step.
use Rattle.std.specs.Prelude.{◌≡◌, ◌≢◌, ℕ, ℤ, pos, negsuc, ◌<◌, ◌^◌, true, false, List, [], ◌∷◌, ◌++◌}
use Rattle.std.specs.Prelude.{Some, None, ⊤, ◌⊎◌, codes}
use Rattle.std.specs.Fmt.{signed_decimal}
use Rattle.ocsf_tree.specs.declared.tree.Tree.{Tree}
use Rattle.ocsf_tree.specs.declared.tree.Member.{Member}
use Rattle.ocsf_tree.specs.declared.place.Step.{Step}
use Rattle.ocsf_tree.specs.declared.place.Step.TheVariants.{At, Name}
use Rattle.ocsf_tree.specs.declared.attribute.EnumMember.{EnumMember}
use Rattle.ocsf_tree.specs.declared.attribute.Requirement.TheVariants.{Required}
use Rattle.ocsf_schema.specs.declared.records.Attr.{Attr}
use Rattle.ocsf_schema.specs.declared.records.Item.{Item}
use Rattle.ocsf_schema.specs.declared.records.Kind.{Kind}
use Rattle.ocsf_schema.specs.declared.records.Target.{Target}
use Rattle.ocsf_schema.specs.declared.records.Target.TheVariants as target
use Rattle.ocsf_schema.specs.declared.parts.SchemaParts.{SchemaParts}
use Rattle.ocsf_event.specs.declared.violation.Wrong.{Wrong}
use Rattle.ocsf_event.specs.declared.violation.Wrong.TheVariants.{AttributeUnknown, ProfileInactive, RequiredMissing}
use Rattle.ocsf_event.specs.declared.violation.Wrong.TheVariants.{EnumUnknown, AtLeastOne, JustOne, NumberMismatch}
use Rattle.ocsf_event.specs.declared.violation.Wrong.TheVariants.{ProfileUnknown}
use Rattle.ocsf_event.specs.declared.violation.Violation.{Violation}
use Rattle.ocsf_event_rules.specs.Profiles.{is_in_force, as_text, profile_list, is_profile}
use Rattle.ocsf_event_rules.specs.EventClass.{is_null, as_object, value_of, whole_of, item_named, attribute_named}
use Rattle.ocsf_schema.specs.declared.records.Limit.{Limit}
use Rattle.ocsf_event_rules.specs.Conditions.{IsOfEnumeration, enum_key, is_key, expected_type, DoNumbersAgree}
use Rattle.ocsf_event_rules.specs.Judged.{Seen, ItemObject, object_seen, member_seen, seen_at}
use Rattle.ocsf_event_rules.specs.Judged.{of_attribute, of_element}
use Rattle.ocsf_event_rules.specs.Violations.{IsViolation, profile_place}
use Rattle.ocsf_event.specs.Code.{rank}
use Rattle.ocsf_event.specs.ByCode.{IsWrongValue, IsWrongMember, IsWrongObject, IsLimitBroken}
use Rattle.ocsf_event.specs.Gains.{Each}

-- the place of a member
abbrev pub at_name_below : List Step → List ℕ → List Step
at_name_below place name = place ++ Name name ∷ []

abbrev pub at_position : List Step → ℕ → List Step
at_position place position = place ++ At position ∷ []

-- it is this one
pub record IsThis (place : List Step) (c : Wrong) (detail : List ℕ) (v : Violation) : Type 0 where
  pub where_it_is : v.place.steps ≡ place
  pub what_it_is : v.code ≡ c
  pub told_as : v.detail ≡ detail

module _ (schema : SchemaParts) (profiles : List (List ℕ)) where
  -- of a value that is seen at that place
  pub data IsWithin : Seen → List Step → Violation → Type 0 where
    Here : (here : Seen) (place : List Step) (v : Violation) → v.place.steps ≡ place
        → IsWrongValue schema here v.code v.detail → IsWithin here place v
    OfMember : (here : Seen) (place : List Step) (v : Violation) (object : ItemObject) (name : List ℕ)
        → object_seen schema here ≡ Some object
        → v.place.steps ≡ at_name_below place name → IsWrongMember profiles object name v.code v.detail
        → IsWithin here place v
    OfObject : (here : Seen) (place : List Step) (v : Violation) (object : ItemObject)
        → object_seen schema here ≡ Some object
        → v.place.steps ≡ place → IsWrongObject profiles object v.code v.detail → IsWithin here place v
    Deeper : (here : Seen) (place : List Step) (v : Violation) (step : Step) (next : Seen)
        → seen_at schema profiles step here ≡ Some next
        → IsWithin next (place ++ step ∷ []) v → IsWithin here place v

  -- of an object that an item judges
  pub data InObject (object : ItemObject) (place : List Step) (v : Violation) : Type 0 where
    AtMember : (name : List ℕ) → v.place.steps ≡ at_name_below place name
        → IsWrongMember profiles object name v.code v.detail → InObject object place v
    AtObject : v.place.steps ≡ place → IsWrongObject profiles object v.code v.detail → InObject object place v
    BelowMember : (name : List ℕ) (next : Seen) → member_seen profiles name object ≡ Some next
        → IsWithin next (at_name_below place name) v → InObject object place v

  -- of the value of an attribute
  pub data InKnown (attr : Attr) (value : Tree) (place : List Step) (v : Violation) : Type 0 where
    Off : (profile : List ℕ) → is_in_force profiles attr ≡ false → attr.profile ≡ Some profile
        → IsThis place ProfileInactive profile v → InKnown attr value place v
    On : is_in_force profiles attr ≡ true → IsWithin (of_attribute attr value) place v → InKnown attr value place v

  -- of one member
  pub data InMember (item : Item) (m : Member) (place : List Step) (v : Violation) : Type 0 where
    Unknown : is_null m.value ≡ false → item.attrs ≢ [] → attribute_named item m.name ≡ None
        → IsThis (at_name_below place m.name) AttributeUnknown [] v → InMember item m place v
    Known : (attr : Attr) → is_null m.value ≡ false → attribute_named item m.name ≡ Some attr
        → InKnown attr m.value (at_name_below place m.name) v → InMember item m place v

  abbrev pub InMembers : Item → List Member → List Step → Violation → Type 0
  InMembers item members place v = Each (λ i m. InMember item m place) members v

  -- of one item of a list
  abbrev pub InItem : Attr → List Step → ℕ → Tree → Violation → Type 0
  InItem attr place position one v = IsWithin (of_element attr one) (at_position place position) v

  abbrev pub InItems : Attr → List Tree → List Step → Violation → Type 0
  InItems attr items place v = Each (InItem attr place) items v

-- an attribute that has to be there and isn't
pub record IsMissing (profiles : List (List ℕ)) (members : List Member) (attr : Attr) (place : List Step)
    (v : Violation) : Type 0 where
  pub absent : value_of attr.name members ≡ None
  pub in_force : is_in_force profiles attr ≡ true
  pub required : attr.requirement ≡ Required
  pub this : IsThis (at_name_below place attr.name) RequiredMissing [] v

abbrev pub AreMissing : List (List ℕ) → Item → List Member → List Step → Violation → Type 0
AreMissing profiles item members place v = Each (λ i attr. IsMissing profiles members attr place) item.attrs v

-- too few or too many of some attributes are there
abbrev pub IsWrongWhole : List (List ℕ) → ItemObject → List Step → Violation → Type 0
IsWrongWhole profiles object place v = (v.place.steps ≡ place) × IsWrongObject profiles object v.code v.detail

-- an object is wanted
abbrev pub WantsObject : Target → Type 0
WantsObject (target.Simple name) = ⊥
WantsObject (target.Object name) = ⊤
WantsObject target.Anything = ⊤

-- no object is there, or the schema has none of that name
abbrev pub IsUnfit : SchemaParts → Target → Tree → Type 0
IsUnfit schema (target.Simple name) value = ⊥
IsUnfit schema (target.Object name) value = (item_named schema name ≡ None) ⊎ (as_object value ≡ None)
IsUnfit schema target.Anything value = as_object value ≡ None

-- the value itself is wrong
abbrev pub IsWrongHere : SchemaParts → Seen → List Step → Violation → Type 0
IsWrongHere schema here place v = (v.place.steps ≡ place) × IsWrongValue schema here v.code v.detail

-- a whole number of 64 bits
abbrev pub IsSmall : ℤ → Type 0
IsSmall (pos n) = n < 2 ^ 64
IsSmall (negsuc n) = n < 2 ^ 63

-- ---- of an event

abbrev pub IsWrong : SchemaParts → Tree → Violation → Type 0
IsWrong schema event v = IsViolation schema event v.place.steps (rank v.code) v.detail

-- the number of the event's type isn't that of its class and activity
pub record IsMismatch (number : ℕ) (members : List Member) (v : Violation) : Type 0 where
  pub activity : ℤ
  pub given : whole_of (codes "activity_id") members ≡ Some activity
  pub differ : DoNumbersAgree number members → ⊥
  pub this : IsThis (Name (codes "type_uid") ∷ []) NumberMismatch (signed_decimal (expected_type number activity)) v

-- an item of the list of profiles is a text and no profile of the schema
pub record IsNoProfile (schema : SchemaParts) (position : ℕ) (item : Tree) (v : Violation) : Type 0 where
  pub profile : List ℕ
  pub text : as_text item ≡ Some profile
  pub unknown : is_profile schema profile ≡ false
  pub this : IsThis (profile_place position) ProfileUnknown profile v

abbrev pub AreNoProfiles : SchemaParts → List Tree → Violation → Type 0
AreNoProfiles schema items v = Each (IsNoProfile schema) items v

-- of an event of a class with that number, as a whole
abbrev pub IsAmiss : SchemaParts → Tree → ℕ → List Member → Violation → Type 0
IsAmiss schema event number members v =
    IsMismatch number members v ⊎ AreNoProfiles schema (profile_list event) v

-- ---- of a value with a kind

-- one part of a limit is broken
abbrev pub IsBroken : Wrong → Limit → Tree → List Step → Violation → Type 0
IsBroken code limit value place v = (v.place.steps ≡ place) × (v.code ≡ code) × IsLimitBroken limit value code v.detail

abbrev pub InLimit : Limit → Tree → List Step → Violation → Type 0
InLimit limit value place v = (v.place.steps ≡ place) × IsLimitBroken limit value v.code v.detail

abbrev pub InLimits : List Limit → Tree → List Step → Violation → Type 0
InLimits limits value place v = Each (λ i limit. InLimit limit value place) limits v

-- it is none of the keys
pub record IsStrange (members : List EnumMember) (word : List ℕ) (place : List Step) (v : Violation) : Type 0 where
  pub strange : is_key members word ≡ false
  pub this : IsThis place EnumUnknown word v

abbrev pub IsNoKeyHere : Attr → Tree → List Step → Violation → Type 0
IsNoKeyHere attr value place v =
    (v.place.steps ≡ place) × (v.code ≡ EnumUnknown) × (IsOfEnumeration attr.members value → ⊥)
    × (enum_key value ≡ Some v.detail)

-- by the kind of whose base the value is, and by the enumeration
abbrev pub InKind : Kind → Attr → Tree → List Step → Violation → Type 0
InKind kind attr value place v = InLimits kind.limits value place v ⊎ IsNoKeyHere attr value place v

abbrev pub IsTooFew : List (List ℕ) → ItemObject → List Step → Violation → Type 0
IsTooFew profiles object place v = (v.place.steps ≡ place) × (v.code ≡ AtLeastOne)
    × IsWrongObject profiles object AtLeastOne v.detail

abbrev pub IsNotOne : List (List ℕ) → ItemObject → List Step → Violation → Type 0
IsNotOne profiles object place v = (v.place.steps ≡ place) × (v.code ≡ JustOne)
    × IsWrongObject profiles object JustOne v.detail
