-- What is asked of values and objects can be decided.
use Rattle.std.proofs.Common.{◌≡◌, ℕ, ◌≤◌, List, [], ◌∷◌, Bool, true, false, true≢false, Option, Some, None}
use Rattle.std.proofs.Common.{inl, inr, refl, sym, ◌∙◌, ap, arith}
use Rattle.std.specs.Prelude.{T, ℤ, ◌≤ℤ◌, ◌==◌, leb, codes, Contains, ⊤}
use Rattle.std.specs.Ordering.{int_eq}
use Rattle.std.specs.Int.Signed.{le_z}
use Rattle.std.proofs.lemmas.Bool.{leb-true, le-leb}
use Rattle.std.proofs.lemmas.Bool.Decides.{Decides-int_eq}
use Rattle.ocsf_tree.specs.declared.tree.Tree.{Tree, out-Tree}
use Rattle.ocsf_tree.specs.declared.tree.Tree.TheOpen.{Tree-F}
use Rattle.ocsf_tree.specs.declared.tree.Member.{Member}
use Rattle.ocsf_tree.specs.declared.attribute.Requirement.{Requirement}
use Rattle.ocsf_tree.specs.declared.attribute.Requirement.TheVariants.{Required, Recommended, Optional}
use Rattle.ocsf_tree.specs.declared.attribute.Span.{Span}
use Rattle.ocsf_tree.specs.declared.attribute.EnumMember.{EnumMember}
use Rattle.ocsf_tree.specs.Data.{data_of}
use Rattle.ocsf_tree.specs.Valid.{IsValid}
use Rattle.ocsf_tree.specs.Equality.{same}
use Rattle.ocsf_tree.proofs.Compared.{same_is, same_itself}
use Rattle.ocsf_tree.proofs.Same.{trees_by_data}
use Rattle.ocsf_schema.specs.declared.records.Attr.{Attr}
use Rattle.ocsf_schema.specs.declared.records.Base.{Base}
use Rattle.ocsf_schema.specs.declared.records.Base.TheVariants as base
use Rattle.ocsf_kind.specs.Accepted.{IsSigned64, Takes, IsWithinLength, IsWithinRange, IsListed}
use Rattle.ocsf_event_rules.specs.EventClass.{is_null, whole_of}
use Rattle.ocsf_event_rules.specs.Conditions.{IsOfBase, IsFoundIn, IsInstantIn, IsOfEnumeration, enum_key, is_key}
use Rattle.ocsf_event_rules.specs.Conditions.{count_present, HasOneOrMore, HasJustOne, expected_type, DoNumbersAgree}
use Rattle.ocsf_event_rules.proofs.Listed.{Decided, both, same_test, if_some, contains_none, later, first_or_later}

nothing : Decided ⊥
nothing = inr (λ x. x)

anything : Decided ⊤
anything = inl tt

passed : (b : Bool) → Decided (T b)
passed true = anything
passed false = nothing

at_most : (m n : ℕ) → Decided (m ≤ n)
at_most m n = by_test (leb m n) refl
  where
    by_test : (b : Bool) → leb m n ≡ b → Decided (m ≤ n)
    by_test true is = inl (leb-true m n is)
    by_test false is = inr (λ le. true≢false (sym (le-leb m n le) ∙ is))

at_most_ℤ : (y z : ℤ) → Decided (y ≤ℤ z)
at_most_ℤ y z = of_test (passed (le_z y z))
  where
    of_test : Decided (T (le_z y z)) → Decided (y ≤ℤ z)
    of_test (inl le) = inl (record { le = le })
    of_test (inr not) = inr (λ o. not o.le)

signed_64 : (z : ℤ) → Decided (IsSigned64 z)
signed_64 z = both (at_most_ℤ _ z) (at_most_ℤ z _)

takes : (b : Base) (x : Tree-F Tree Member) → Decided (Takes b x)
takes base.Boolean (Tree-F.Flag b) = anything
takes base.Boolean Tree-F.Null = nothing
takes base.Boolean (Tree-F.Whole z) = nothing
takes base.Boolean (Tree-F.Words t) = nothing
takes base.Boolean (Tree-F.List ts) = nothing
takes base.Boolean (Tree-F.Members ms) = nothing
takes base.Words (Tree-F.Words t) = anything
takes base.Words Tree-F.Null = nothing
takes base.Words (Tree-F.Flag b) = nothing
takes base.Words (Tree-F.Whole z) = nothing
takes base.Words (Tree-F.List ts) = nothing
takes base.Words (Tree-F.Members ms) = nothing
takes base.Integer (Tree-F.Whole z) = signed_64 z
takes base.Integer Tree-F.Null = nothing
takes base.Integer (Tree-F.Flag b) = nothing
takes base.Integer (Tree-F.Words t) = nothing
takes base.Integer (Tree-F.List ts) = nothing
takes base.Integer (Tree-F.Members ms) = nothing
takes base.Long (Tree-F.Whole z) = signed_64 z
takes base.Long Tree-F.Null = nothing
takes base.Long (Tree-F.Flag b) = nothing
takes base.Long (Tree-F.Words t) = nothing
takes base.Long (Tree-F.List ts) = nothing
takes base.Long (Tree-F.Members ms) = nothing
takes base.Float (Tree-F.Whole z) = anything
takes base.Float Tree-F.Null = nothing
takes base.Float (Tree-F.Flag b) = nothing
takes base.Float (Tree-F.Words t) = nothing
takes base.Float (Tree-F.List ts) = nothing
takes base.Float (Tree-F.Members ms) = nothing
takes base.Json x = anything

pub of_base : (b : Base) (value : Tree) → Decided (IsOfBase b value)
of_base b value = both (same_test (is_null value) false) (takes b (out-Tree value))

pub within_length : (most : Option ℕ) (x : Tree-F Tree Member) → Decided (IsWithinLength most x)
within_length (Some most) (Tree-F.Words t) = at_most _ most
within_length (Some most) Tree-F.Null = anything
within_length (Some most) (Tree-F.Flag b) = anything
within_length (Some most) (Tree-F.Whole z) = anything
within_length (Some most) (Tree-F.List ts) = anything
within_length (Some most) (Tree-F.Members ms) = anything
within_length None x = anything

pub within_range : (range : Option Span) (x : Tree-F Tree Member) → Decided (IsWithinRange range x)
within_range (Some span) (Tree-F.Whole z) = both (at_most_ℤ span.low z) (at_most_ℤ z span.high)
within_range (Some span) (Tree-F.Words t) = anything
within_range (Some span) Tree-F.Null = anything
within_range (Some span) (Tree-F.Flag b) = anything
within_range (Some span) (Tree-F.List ts) = anything
within_range (Some span) (Tree-F.Members ms) = anything
within_range None x = anything

pub found : (pattern : Option (List ℕ)) (x : Tree-F Tree Member) → Decided (IsFoundIn pattern x)
found (Some pattern) (Tree-F.Words t) = same_test _ true
found (Some pattern) (Tree-F.Whole z) = anything
found (Some pattern) Tree-F.Null = anything
found (Some pattern) (Tree-F.Flag b) = anything
found (Some pattern) (Tree-F.List ts) = anything
found (Some pattern) (Tree-F.Members ms) = anything
found None x = anything

pub instant : (asked : Bool) (x : Tree-F Tree Member) → Decided (IsInstantIn asked x)
instant true (Tree-F.Words t) = same_test _ true
instant true (Tree-F.Whole z) = anything
instant true Tree-F.Null = anything
instant true (Tree-F.Flag b) = anything
instant true (Tree-F.List ts) = anything
instant true (Tree-F.Members ms) = anything
instant false x = anything

-- ---- listed values

contained : (values : List Tree) (value : Tree) → IsValid value → Decided (Contains values value)
contained [] value valid = inr (λ c. contains_none value c)
contained (v ∷ vs) value valid = by_test (contained vs value valid) (same (data_of v) (data_of value)) refl
  where
    by_test : Decided (Contains vs value) → (b : Bool) → same (data_of v) (data_of value) ≡ b
        → Decided (Contains (v ∷ vs) value)
    by_test rest true e = inl (0, omega arith, trees_by_data v value (same_is (data_of v) (data_of value) e))
    by_test (inl c) false e = inl (later v vs value c)
    by_test (inr not) false e = inr (λ c. elim (first_or_later v vs value c) [
      | inl is ↦ true≢false
          (sym (ap (λ t. same (data_of t) (data_of value)) is ∙ same_itself (data_of value) valid) ∙ e)
      | inr rest ↦ not rest
    ])

pub listed : (values : Option (List Tree)) (value : Tree) → IsValid value → Decided (IsListed values value)
listed None value valid = anything
listed (Some values) value valid = contained values value valid

-- ---- enumerations and constraints

pub of_enumeration : (members : List EnumMember) (value : Tree) → Decided (IsOfEnumeration members value)
of_enumeration [] value = anything
of_enumeration (m ∷ ms) value =
    if_some (λ name. is_key (m ∷ ms) name ≡ true) (enum_key value) (λ name. same_test (is_key (m ∷ ms) name) true)

pub required : (requirement : Requirement) → Decided (requirement ≡ Required)
required Required = inl refl
required Recommended = inr (λ e. cc)
required Optional = inr (λ e. cc)

pub one_or_more : (members : List Member) (attrs : List Attr) → Decided (HasOneOrMore members attrs)
one_or_more members [] = anything
one_or_more members (a ∷ rest) = same_test (count_present members (a ∷ rest) == 0) false

pub just_one : (members : List Member) (attrs : List Attr) → Decided (HasJustOne members attrs)
just_one members [] = anything
just_one members (a ∷ rest) = same_test (count_present members (a ∷ rest) == 1) true

-- ---- numbers

pub same_whole : (y z : ℤ) → Decided (y ≡ z)
same_whole y z = by_test (int_eq y z) refl
  where
    by_test : (b : Bool) → int_eq y z ≡ b → Decided (y ≡ z)
    by_test true is = inl ((Decides-int_eq y z).0 is)
    by_test false is = inr (λ e. true≢false (sym ((Decides-int_eq y z).1 e) ∙ is))

pub numbers_agree : (class : ℕ) (members : List Member) → Decided (DoNumbersAgree class members)
numbers_agree class members =
    if_some _ (whole_of (codes "type_uid") members) (λ given.
    if_some (λ activity. given ≡ expected_type class activity) (whole_of (codes "activity_id") members)
    (λ activity. same_whole given (expected_type class activity)))
