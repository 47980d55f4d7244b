-- What is asked of a single value, of an object, and of an event as a whole.
use Rattle.std.specs.Prelude.{◌≡◌, ℕ, ℤ, pos, ◌+ℤ◌, ◌*◌, ◌==◌, ◌&&◌, Bool, true, false, List, [], ◌∷◌, map, filter}
use Rattle.std.specs.Prelude.{length, codes, Option, Some, None, is_some, is_ok, IfSome, IsSome, All, ⊤}
use Rattle.std.specs.Fmt.{signed_decimal}
use Rattle.jiff.specs.Words.{parse_timestamp}
use Rattle.ocsf_tree.specs.declared.tree.Tree.{Tree, out-Tree}
use Rattle.ocsf_tree.specs.declared.tree.Tree.TheOpen.{Tree-F}
use Rattle.ocsf_tree.specs.declared.tree.Member.{Member}
use Rattle.ocsf_tree.specs.declared.attribute.EnumMember.{EnumMember}
use Rattle.ocsf_tree.specs.declared.attribute.Requirement.TheVariants.{Required}
use Rattle.ocsf_schema.specs.declared.records.Attr.{Attr}
use Rattle.ocsf_schema.specs.declared.records.Base.{Base}
use Rattle.ocsf_schema.specs.declared.records.Item.{Item}
use Rattle.ocsf_schema.specs.declared.records.Kind.{Kind}
use Rattle.ocsf_schema.specs.declared.records.Limit.{Limit}
use Rattle.ocsf_schema.specs.declared.parts.SchemaParts.{SchemaParts}
use Rattle.ocsf_lists.specs.Among.{is_among}
use Rattle.ocsf_kind.specs.Accepted.{FitsBase, Meets}
use Rattle.ocsf_kind.specs.declared.accepted.Which.TheVariants.{MaxLen, Range, Values}
use Rattle.ocsf_pattern.specs.Matches.{is_found}
use Rattle.ocsf_event_rules.specs.Profiles.{is_in_force, is_profile, named_profiles}
use Rattle.ocsf_event_rules.specs.EventClass.{is_null, value_of, whole_of, attribute_named}

-- ---- of a single value

-- the value isn't `null`, and is of the base
abbrev pub IsOfBase : Base → Tree → Type 0
IsOfBase base value = (is_null value ≡ false) × FitsBase base value

abbrev pub IsFoundIn : Option (List ℕ) → Tree-F Tree Member → Type 0
IsFoundIn (Some pattern) (Tree-F.Words text) = is_found pattern text ≡ true
IsFoundIn pattern value = ⊤

-- the pattern, if there is one, is found in a text
abbrev pub HasPattern : Limit → Tree → Type 0
HasPattern limit value = IsFoundIn limit.pattern (out-Tree value)

abbrev pub IsInstantIn : Bool → Tree-F Tree Member → Type 0
IsInstantIn true (Tree-F.Words text) = is_ok (parse_timestamp text) ≡ true
IsInstantIn asked value = ⊤

-- a text is one that `jiff` reads as an instant, where that is asked
abbrev pub IsInstant : Limit → Tree → Type 0
IsInstant limit value = IsInstantIn limit.instant (out-Tree value)

pub record MeetsLimit (limit : Limit) (value : Tree) : Type 0 where
  pub length : Meets MaxLen limit value
  pub range : Meets Range limit value
  pub values : Meets Values limit value
  pub pattern : HasPattern limit value
  pub instant : IsInstant limit value

-- the value is of the base, and meets each limit
abbrev pub IsOfKind : Kind → Tree → Type 0
IsOfKind kind value = IsOfBase kind.base value × All (λ limit. MeetsLimit limit value) kind.limits

abbrev pub key_in : Tree-F Tree Member → Option (List ℕ)
key_in (Tree-F.Whole whole) = Some (signed_decimal whole)
key_in (Tree-F.Words text) = Some text
key_in _ = None

-- the key of an enumeration that the value is: a whole number by its decimal print, or a text
abbrev pub enum_key : Tree → Option (List ℕ)
enum_key value = key_in (out-Tree value)

abbrev pub is_key : List EnumMember → List ℕ → Bool
is_key members name = is_among name (map (λ member. member.key) members)

-- a whole number or a text under an enumeration is one of its keys; one without members is none
abbrev pub IsOfEnumeration : List EnumMember → Tree → Type 0
IsOfEnumeration [] value = ⊤
IsOfEnumeration (m ∷ ms) value = IfSome (enum_key value) (λ name. is_key (m ∷ ms) name ≡ true)

-- ---- of an object

abbrev pub is_present : List Member → Attr → Bool
is_present members attr = is_some (value_of attr.name members)

-- each required attribute that is in force is there
abbrev pub HasRequired : List (List ℕ) → Item → List Member → Type 0
HasRequired profiles item members =
    (name : List ℕ) (attr : Attr) → attribute_named item name ≡ Some attr → is_in_force profiles attr ≡ true
    → attr.requirement ≡ Required
    → IsSome (value_of name members)

-- the listed attributes that are in force, each once
abbrev pub listed_in_force : List (List ℕ) → Item → List (List ℕ) → List Attr
listed_in_force profiles item names = filter (λ attr. is_among attr.name names && is_in_force profiles attr) item.attrs

-- how many of these attributes are there
abbrev pub count_present : List Member → List Attr → ℕ
count_present members attrs = length (filter (is_present members) attrs)

-- of attributes of which one or more are asked for; of none nothing is
abbrev pub HasOneOrMore : List Member → List Attr → Type 0
HasOneOrMore members [] = ⊤
HasOneOrMore members (a ∷ rest) = (count_present members (a ∷ rest) == 0) ≡ false

-- of attributes of which exactly one is asked for
abbrev pub HasJustOne : List Member → List Attr → Type 0
HasJustOne members [] = ⊤
HasJustOne members (a ∷ rest) = (count_present members (a ∷ rest) == 1) ≡ true

-- ---- of an event

-- the number of the event's type, of that of its class and that of its activity
abbrev pub expected_type : ℕ → ℤ → ℤ
expected_type class activity = pos (class * 100) +ℤ activity

-- where both are whole numbers, `type_uid` agrees with the class and `activity_id`
abbrev pub DoNumbersAgree : ℕ → List Member → Type 0
DoNumbersAgree class members =
    IfSome (whole_of (codes "type_uid") members) (λ given.
    IfSome (whole_of (codes "activity_id") members) (λ activity. given ≡ expected_type class activity))

-- each profile of the event is one of the schema
abbrev pub AreProfilesKnown : SchemaParts → Tree → Type 0
AreProfilesKnown schema event = All (λ profile. is_profile schema profile ≡ true) (named_profiles event)
