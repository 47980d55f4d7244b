-- For private clauses: what is wrong, told by the code.
use Rattle.std.specs.Prelude.{◌≡◌, ◌≢◌, ℕ, true, false, List, [], decimal, Contains, Some, None, IsSome}
use Rattle.std.specs.Prelude.{IsSomeAnd}
use Rattle.std.specs.List.{join_with_byte}
use Rattle.std.specs.Option.{option_map}
use Rattle.ocsf_tree.specs.declared.tree.Tree.{Tree}
use Rattle.ocsf_tree.specs.declared.attribute.Requirement.TheVariants.{Required}
use Rattle.ocsf_schema.specs.declared.records.Limit.{Limit}
use Rattle.ocsf_schema.specs.declared.records.Target.{Target}
use Rattle.ocsf_schema.specs.declared.records.Target.TheVariants as target
use Rattle.ocsf_schema.specs.declared.parts.SchemaParts.{SchemaParts}
use Rattle.ocsf_kind.specs.Accepted.{Meets}
use Rattle.ocsf_kind.specs.declared.accepted.Which.TheVariants.{MaxLen, Range, Values}
use Rattle.ocsf_event_rules.specs.Profiles.{is_in_force}
use Rattle.ocsf_event_rules.specs.EventClass.{value_of, kind_named, attribute_named}
use Rattle.ocsf_event_rules.specs.Conditions.{IsOfBase, HasPattern, IsInstant, listed_in_force, HasOneOrMore}
use Rattle.ocsf_event_rules.specs.Conditions.{HasJustOne}
use Rattle.ocsf_event_rules.specs.Judged.{Seen, ItemObject, single_attr}
use Rattle.ocsf_event_rules.specs.Violations.{IsWrongType, IsNoKey, span_text, comma}
use Rattle.ocsf_event.specs.declared.violation.Wrong.{Wrong}
use Rattle.ocsf_event.specs.declared.violation.Wrong.TheVariants as code

-- ---- of a value

abbrev pub IsLimitBroken : Limit → Tree → Wrong → List ℕ → Type 0
IsLimitBroken limit value code.TooLong detail =
    (Meets MaxLen limit value → ⊥) × (option_map decimal limit.max_len ≡ Some detail)
IsLimitBroken limit value code.OutOfRange detail =
    (Meets Range limit value → ⊥) × (option_map span_text limit.range ≡ Some detail)
IsLimitBroken limit value code.Pattern detail = (HasPattern limit value → ⊥) × (detail ≡ limit.type_name)
IsLimitBroken limit value code.NotAnInstant detail = (IsInstant limit value → ⊥) × (detail ≡ limit.type_name)
IsLimitBroken limit value code.NotAValue detail = (Meets Values limit value → ⊥) × (detail ≡ limit.type_name)
IsLimitBroken limit value c detail = ⊥

abbrev pub BreaksLimit : SchemaParts → Target → Tree → Wrong → List ℕ → Type 0
BreaksLimit schema (target.Simple name) value c detail =
    IsSomeAnd (kind_named schema name) (λ kind.
    IsOfBase kind.base value × ((limit : Limit) × Contains kind.limits limit × IsLimitBroken limit value c detail))
BreaksLimit schema other value c detail = ⊥

abbrev pub IsWrongValue : SchemaParts → Seen → Wrong → List ℕ → Type 0
IsWrongValue schema here code.WrongType detail = IsWrongType schema here.judge here.value detail
IsWrongValue schema here code.EnumUnknown detail =
    IsSomeAnd (single_attr here.judge) (λ attr. IsNoKey schema attr here.value detail)
IsWrongValue schema here c detail =
    IsSomeAnd (single_attr here.judge) (λ attr. BreaksLimit schema attr.target here.value c detail)

-- ---- of an object

abbrev pub IsWrongMember : List (List ℕ) → ItemObject → List ℕ → Wrong → List ℕ → Type 0
IsWrongMember profiles object name code.AttributeUnknown detail =
    (object.item.attrs ≢ []) × IsSome (value_of name object.members)
    × (attribute_named object.item name ≡ None)
    × (detail ≡ [])
IsWrongMember profiles object name code.ProfileInactive detail =
    IsSome (value_of name object.members)
    × IsSomeAnd (attribute_named object.item name) (λ attr.
    (is_in_force profiles attr ≡ false) × (attr.profile ≡ Some detail))
IsWrongMember profiles object name code.RequiredMissing detail =
    (value_of name object.members ≡ None)
    × IsSomeAnd (attribute_named object.item name) (λ attr.
    (is_in_force profiles attr ≡ true) × (attr.requirement ≡ Required))
    × (detail ≡ [])
IsWrongMember profiles object name c detail = ⊥

abbrev pub IsWrongObject : List (List ℕ) → ItemObject → Wrong → List ℕ → Type 0
IsWrongObject profiles object code.AtLeastOne detail =
    (HasOneOrMore object.members (listed_in_force profiles object.item object.item.at_least_one) → ⊥)
    × (detail ≡ join_with_byte comma object.item.at_least_one)
IsWrongObject profiles object code.JustOne detail =
    (HasJustOne object.members (listed_in_force profiles object.item object.item.just_one) → ⊥)
    × (detail ≡ join_with_byte comma object.item.just_one)
IsWrongObject profiles object c detail = ⊥
