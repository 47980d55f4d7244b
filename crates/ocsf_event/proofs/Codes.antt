-- What is wrong, told by the code and told by its rank, is the same.
use Rattle.std.proofs.Common.{◌≡◌, ℕ, List, [], true, false, refl, sym, ◌∙◌, ap, subst, inl, inr}
use Rattle.std.specs.Prelude.{Option, Some, None, IsSomeAnd, decimal, slice_get}
use Rattle.std.specs.Option.{option_map, option_and_then}
use Rattle.std.proofs.lemmas.Option.{none-some, same_Some}
use Rattle.ocsf_tree.specs.declared.tree.Tree.{Tree}
use Rattle.ocsf_tree.specs.declared.tree.Member.{Member}
use Rattle.ocsf_tree.specs.declared.place.Step.{Step}
use Rattle.ocsf_tree.specs.declared.attribute.Requirement.TheVariants.{Required}
use Rattle.ocsf_schema.specs.declared.records.Limit.{Limit}
use Rattle.ocsf_schema.specs.declared.records.Target.{Target}
use Rattle.ocsf_schema.specs.declared.records.Target.TheVariants as target
use Rattle.ocsf_schema.specs.declared.parts.SchemaParts.{SchemaParts}
use Rattle.ocsf_event_rules.specs.Profiles.{is_in_force, as_text, profile_list}
use Rattle.ocsf_event_rules.specs.EventClass.{kind_named, attribute_named}
use Rattle.ocsf_event_rules.specs.Judged.{Seen, ItemObject, single_attr}
use Rattle.ocsf_event_rules.specs.Violations as rules
use Rattle.ocsf_event_rules.specs.Violations.{span_text, profile_place}
use Rattle.ocsf_event.specs.declared.violation.Wrong.{Wrong}
use Rattle.ocsf_event.specs.declared.violation.Wrong.TheVariants as code
use Rattle.ocsf_event.specs.declared.violation.Violation.{Violation}
use Rattle.ocsf_event.specs.Code.{rank}
use Rattle.ocsf_event.specs.ByCode.{IsLimitBroken, BreaksLimit, IsWrongValue, IsWrongMember, IsWrongObject}
use Rattle.ocsf_event.specs.Walk.{IsThis, IsAmiss}
use Rattle.ocsf_event.proofs.OneOrder.{same_rank}

-- what holds of the code of that rank
pub record OfRank (n : ℕ) (P : Wrong → Type 0) : Type 0 where
  pub told : Wrong
  pub ranked : rank told ≡ n
  pub holds : P told

of_code : (c : Wrong) (P : Wrong → Type 0) → P c → OfRank (rank c) P
of_code c P holds = record { told = c; ranked = refl; holds = holds }

-- and the code of the rank is this one
pub of_rank : {n : ℕ} (P : Wrong → Type 0) (c : Wrong) → n ≡ rank c → OfRank n P → P c
of_rank P c e o = subst P (same_rank o.told c (o.ranked ∙ e)) o.holds

mapped : {X Y : Type 0} (f : X → Y) (o : Option X) (y : Y) → option_map f o ≡ Some y → (x : X) × (o ≡ Some x) × (f x ≡ y)
mapped f None y e = absurd (none-some y e)
mapped f (Some x) y e = (x, refl, same_Some (f x) y e)

and_some : {X : Type 0} (o : Option X) (P : X → Type 0) → IsSomeAnd o P → (x : X) × (o ≡ Some x) × P x
and_some None P w = absurd w
and_some (Some x) P w = (x, refl, w)

with_some : {X : Type 0} (o : Option X) (x : X) (P : X → Type 0) → o ≡ Some x → P x → IsSomeAnd o P
with_some o x P e p = subst (λ q. IsSomeAnd q P) (sym e) p

-- ---- a limit

-- the codes of limits
abbrev OfLimits : Wrong → Type 0
OfLimits code.TooLong = Unit {0}
OfLimits code.OutOfRange = Unit {0}
OfLimits code.Pattern = Unit {0}
OfLimits code.NotAnInstant = Unit {0}
OfLimits code.NotAValue = Unit {0}
OfLimits c = ⊥

module _ (limit : Limit) (value : Tree) where
  abbrev Broken : List ℕ → Wrong → Type 0
  Broken detail c = OfLimits c × IsLimitBroken limit value c detail

  limit_by : {n : ℕ} {detail : List ℕ} → rules.IsLimitBroken limit value n detail → OfRank n (Broken detail)
  limit_by (rules.TooLong most is apart) =
      of_code code.TooLong (Broken (decimal most)) (tt, (apart, ap (option_map decimal) is))
  limit_by (rules.OutOfRange span is apart) =
      of_code code.OutOfRange (Broken (span_text span)) (tt, (apart, ap (option_map span_text) is))
  limit_by (rules.Pattern apart) = of_code code.Pattern (Broken limit.type_name) (tt, (apart, refl))
  limit_by (rules.NotAnInstant apart) = of_code code.NotAnInstant (Broken limit.type_name) (tt, (apart, refl))
  limit_by (rules.NotAValue apart) = of_code code.NotAValue (Broken limit.type_name) (tt, (apart, refl))

  named_so : (n : ℕ) (detail : List ℕ) → detail ≡ limit.type_name → rules.IsLimitBroken limit value n limit.type_name
      → rules.IsLimitBroken limit value n detail
  named_so n detail e w = subst (rules.IsLimitBroken limit value n) (sym e) w

  limit_told : (c : Wrong) (detail : List ℕ) → IsLimitBroken limit value c detail
      → rules.IsLimitBroken limit value (rank c) detail
  limit_told code.TooLong detail w =
      let most = mapped decimal limit.max_len detail w.1 in
      subst (rules.IsLimitBroken limit value (rank code.TooLong)) most.2 (rules.TooLong most.0 most.1 w.0)
  limit_told code.OutOfRange detail w =
      let span = mapped span_text limit.range detail w.1 in
      subst (rules.IsLimitBroken limit value (rank code.OutOfRange)) span.2 (rules.OutOfRange span.0 span.1 w.0)
  limit_told code.Pattern detail w = named_so (rank code.Pattern) detail w.1 (rules.Pattern w.0)
  limit_told code.NotAnInstant detail w = named_so (rank code.NotAnInstant) detail w.1 (rules.NotAnInstant w.0)
  limit_told code.NotAValue detail w = named_so (rank code.NotAValue) detail w.1 (rules.NotAValue w.0)
  limit_told c detail w = absurd w

-- ---- a value

module _ (schema : SchemaParts) where
  abbrev Breaks : Tree → Target → List ℕ → Wrong → Type 0
  Breaks value t detail c = OfLimits c × BreaksLimit schema t value c detail

  breaks_by : (t : Target) (value : Tree) (n : ℕ) (detail : List ℕ) → rules.BreaksLimit schema t value n detail
      → OfRank n (Breaks value t detail)
  breaks_by (target.Simple name) value n detail w =
      let kind = and_some (kind_named schema name) _ w in
      let limit = kind.2.1 in
      let by = limit_by limit.0 value limit.2 in
      record {
        told = by.told;
        ranked = by.ranked;
        holds = (
          by.holds.0,
          with_some (kind_named schema name) kind.0 _ kind.1
              (kind.2.0, (limit.0, limit.1, by.holds.1)),
        );
      }
  breaks_by (target.Object name) value n detail w = absurd w
  breaks_by target.Anything value n detail w = absurd w

  breaks_told : (t : Target) (value : Tree) (c : Wrong) (detail : List ℕ) → BreaksLimit schema t value c detail
      → rules.BreaksLimit schema t value (rank c) detail
  breaks_told (target.Simple name) value c detail w =
      let kind = and_some (kind_named schema name) _ w in
      let limit = kind.2.1 in
      with_some (kind_named schema name) kind.0 _ kind.1
      (kind.2.0, (limit.0, limit.1, limit_told limit.0 value c detail limit.2))
  breaks_told (target.Object name) value c detail w = absurd w
  breaks_told target.Anything value c detail w = absurd w

  value_of_limit : (here : Seen) (c : Wrong) (detail : List ℕ) → OfLimits c
      → IsSomeAnd (single_attr here.judge) (λ attr. BreaksLimit schema attr.target here.value c detail)
      → IsWrongValue schema here c detail
  value_of_limit here code.WrongType detail of w = absurd of
  value_of_limit here code.EnumUnknown detail of w = absurd of
  value_of_limit here c detail of w = w

  abbrev Value_wrong : Seen → List ℕ → Wrong → Type 0
  Value_wrong here detail c = IsWrongValue schema here c detail

  broken_by : (here : Seen) (n : ℕ) (detail : List ℕ)
      → IsSomeAnd (single_attr here.judge) (λ attr. rules.BreaksLimit schema attr.target here.value n detail)
      → OfRank n (Value_wrong here detail)
  broken_by here n detail w =
      let attr = and_some (single_attr here.judge) _ w in
      let by = breaks_by attr.0.target here.value n detail attr.2 in
      record {
        told = by.told;
        ranked = by.ranked;
        holds = value_of_limit here by.told detail by.holds.0
            (with_some (single_attr here.judge) attr.0 _ attr.1 by.holds.1);
      }

  broken_told : (here : Seen) (c : Wrong) (detail : List ℕ)
      → IsSomeAnd (single_attr here.judge) (λ attr. BreaksLimit schema attr.target here.value c detail)
      → rules.IsWrongValue schema here (rank c) detail
  broken_told here c detail w =
      let attr = and_some (single_attr here.judge) _ w in
      rules.BrokenLimit (rank c) detail
      (with_some (single_attr here.judge) attr.0 _ attr.1 (breaks_told attr.0.target here.value c detail attr.2))

  pub value_by : {here : Seen} {n : ℕ} {detail : List ℕ} → rules.IsWrongValue schema here n detail
      → OfRank n (Value_wrong here detail)
  value_by {here} (rules.WrongType detail w) = of_code code.WrongType (Value_wrong here detail) w
  value_by {here} (rules.BrokenLimit n detail w) = broken_by here n detail w
  value_by {here} (rules.EnumUnknown detail w) = of_code code.EnumUnknown (Value_wrong here detail) w

  pub value_told : (here : Seen) (c : Wrong) (detail : List ℕ) → IsWrongValue schema here c detail
      → rules.IsWrongValue schema here (rank c) detail
  value_told here code.WrongType detail w = rules.WrongType detail w
  value_told here code.EnumUnknown detail w = rules.EnumUnknown detail w
  value_told here c detail w = broken_told here c detail w

-- ---- a member, and an object

module _ (profiles : List (List ℕ)) (object : ItemObject) where
  abbrev Member_wrong : List ℕ → List ℕ → Wrong → Type 0
  Member_wrong name detail c = IsWrongMember profiles object name c detail

  pub member_by : {name : List ℕ} {n : ℕ} {detail : List ℕ} → rules.IsWrongMember profiles object name n detail
      → OfRank n (Member_wrong name detail)
  member_by {name} (rules.Unknown some given nameless) =
      of_code code.AttributeUnknown (Member_wrong name []) (some, given, nameless, refl)
  member_by {name} (rules.Inactive attr profile given named off marked) =
      of_code code.ProfileInactive (Member_wrong name profile)
      (given, with_some (attribute_named object.item name) attr _ named (off, marked))
  member_by {name} (rules.Missing attr absent named force wanted) =
      of_code code.RequiredMissing (Member_wrong name [])
      (absent, with_some (attribute_named object.item name) attr _ named (force, wanted), refl)

  pub member_told : (name : List ℕ) (c : Wrong) (detail : List ℕ) → IsWrongMember profiles object name c detail
      → rules.IsWrongMember profiles object name (rank c) detail
  member_told name code.AttributeUnknown detail w =
      subst (rules.IsWrongMember profiles object name (rank code.AttributeUnknown)) (sym w.3)
      (rules.Unknown w.0 w.1 w.2)
  member_told name code.ProfileInactive detail w =
      let known =
      and_some (attribute_named object.item name)
      (λ attr. (is_in_force profiles attr ≡ false) × (attr.profile ≡ Some detail)) w.1 in
      rules.Inactive known.0 detail w.0 known.1 known.2.0 known.2.1
  member_told name code.RequiredMissing detail w =
      let known =
      and_some (attribute_named object.item name)
      (λ attr. (is_in_force profiles attr ≡ true) × (attr.requirement ≡ Required)) w.1 in
      subst (rules.IsWrongMember profiles object name (rank code.RequiredMissing)) (sym w.2)
      (rules.Missing known.0 w.0 known.1 known.2.0 known.2.1)
  member_told name c detail w = absurd w

  abbrev Object_wrong : List ℕ → Wrong → Type 0
  Object_wrong detail c = IsWrongObject profiles object c detail

  pub object_by : {n : ℕ} {detail : List ℕ} → rules.IsWrongObject profiles object n detail
      → OfRank n (Object_wrong detail)
  object_by (rules.NoneOfThem few) = of_code code.AtLeastOne (Object_wrong _) (few, refl)
  object_by (rules.NotJustOne many) = of_code code.JustOne (Object_wrong _) (many, refl)

  pub object_told : (c : Wrong) (detail : List ℕ) → IsWrongObject profiles object c detail
      → rules.IsWrongObject profiles object (rank c) detail
  object_told code.AtLeastOne detail w =
      subst (rules.IsWrongObject profiles object (rank code.AtLeastOne)) (sym w.1) (rules.NoneOfThem w.0)
  object_told code.JustOne detail w =
      subst (rules.IsWrongObject profiles object (rank code.JustOne)) (sym w.1) (rules.NotJustOne w.0)
  object_told c detail w = absurd w

-- ---- an event

-- it is the violation at that place, of that rank, with that detail
pub record IsAt (place : List Step) (n : ℕ) (detail : List ℕ) (v : Violation) : Type 0 where
  pub placed : place ≡ v.place.steps
  pub ranked : n ≡ rank v.code
  pub detailed : detail ≡ v.detail

this_of : {place : List Step} {detail : List ℕ} {v : Violation} (c : Wrong) → IsAt place (rank c) detail v
    → IsThis place c detail v
this_of {v = v} c at = record {
  where_it_is = sym at.placed;
  what_it_is = same_rank v.code c (sym at.ranked);
  told_as = sym at.detailed;
}

module _ (schema : SchemaParts) (event : Tree) (number : ℕ) (members : List Member) where
  abbrev Event_wrong : List Step → ℕ → List ℕ → Type 0
  Event_wrong = rules.IsWrongEvent schema event number members

  picked : (o : Option Tree) (profile : List ℕ) → option_and_then as_text o ≡ Some profile
      → (one : Tree) × (o ≡ Some one) × (as_text one ≡ Some profile)
  picked None profile e = absurd (none-some profile e)
  picked (Some one) profile e = (one, refl, e)

  pub event_by : {place : List Step} {n : ℕ} {detail : List ℕ} (v : Violation) → IsAt place n detail v
      → Event_wrong place n detail → IsAmiss schema event number members v
  event_by v at (rules.NumberMismatch activity given differ) = inl (record {
    activity = activity;
    given = given;
    differ = differ;
    this = this_of code.NumberMismatch at;
  })
  event_by v at (rules.ProfileUnknown position profile text unknown) =
      let one = picked (slice_get (profile_list event) position) profile text in
      inr (record {
        at = position;
        item = one.0;
        found = one.1;
        holds = record {
          profile = profile;
          text = one.2;
          unknown = unknown;
          this = this_of code.ProfileUnknown at;
        };
      })

  told_so : {place : List Step} {c : Wrong} {detail : List ℕ} {v : Violation} → IsThis place c detail v
      → Event_wrong place (rank c) detail → Event_wrong v.place.steps (rank v.code) v.detail
  told_so {place} {c} {detail} {v} this w =
      subst (λ p. Event_wrong p (rank v.code) v.detail) (sym this.where_it_is)
      (subst (λ k. Event_wrong place (rank k) v.detail) (sym this.what_it_is)
      (subst (λ d. Event_wrong place (rank c) d) (sym this.told_as) w))

  pub event_told : (v : Violation) → IsAmiss schema event number members v
      → Event_wrong v.place.steps (rank v.code) v.detail
  event_told v (inl w) = told_so w.this (rules.NumberMismatch w.activity w.given w.differ)
  event_told v (inr e) = told_so e.holds.this
      (rules.ProfileUnknown e.at e.holds.profile (ap (option_and_then as_text) e.found ∙ e.holds.text) e.holds.unknown)

  pub event_ranked : {place : List Step} {n : ℕ} {detail : List ℕ} → Event_wrong place n detail
      → OfRank n (λ c. Unit {0})
  event_ranked (rules.NumberMismatch activity given differ) = of_code code.NumberMismatch _ tt
  event_ranked (rules.ProfileUnknown position profile text unknown) = of_code code.ProfileUnknown _ tt

-- each rank of a violation is that of a code
pub coded : {schema : SchemaParts} {event : Tree} {place : List Step} {n : ℕ} {detail : List ℕ}
    → rules.IsViolation schema event place n detail → (c : Wrong) × (rank c ≡ n)
coded (rules.NoObject none) = (code.WrongType, refl)
coded (rules.NoClass members object none) = (code.ClassUnknown, refl)
coded {schema} (rules.AtValue place here n detail seen w) = let by = value_by schema w in (by.told, by.ranked)
coded (rules.AtMember place here object name n detail seen found w) = let by = member_by _ object w in (by.told, by.ranked)
coded (rules.AtObject place here object n detail seen found w) = let by = object_by _ object w in (by.told, by.ranked)
coded {schema} {event} (rules.OnEvent members class number place n detail object known numbered w) =
    let by = event_ranked schema event number members w in (by.told, by.ranked)
