-- What is wrong within an object, from what is wrong with each member and with the object as a whole.
use Rattle.std.proofs.Common.{◌≡◌, ℕ, List, [], Bool, true, false, true≢false, Option, Some, None, ◌⊎◌, inl, inr, refl, sym, ◌∙◌, ap, subst, if◌then◌else◌}
use Rattle.std.specs.Prelude.{slice_get, IsSomeAnd, is_some}
use Rattle.std.specs.Option.{option_map, option_and_then}
use Rattle.std.proofs.lemmas.Option.{none-some, same_Some}
use Rattle.ocsf_tree.specs.declared.tree.Tree.{Tree}
use Rattle.ocsf_tree.specs.declared.tree.Member.{Member}
use Rattle.ocsf_tree.specs.declared.place.Step.{Step}
use Rattle.ocsf_tree.specs.declared.attribute.Requirement.TheVariants.{Required}
use Rattle.ocsf_lists.specs.ByName.{IsByName}
use Rattle.ocsf_tree.specs.Valid.{IsValidMembers}
use Rattle.ocsf_schema.specs.declared.records.Attr.{Attr}
use Rattle.ocsf_schema.specs.declared.records.Item.{Item}
use Rattle.ocsf_schema.specs.declared.parts.SchemaParts.{SchemaParts}
use Rattle.ocsf_event.specs.declared.violation.Wrong.{Wrong}
use Rattle.ocsf_event.specs.declared.violation.Wrong.TheVariants as code
use Rattle.ocsf_event.specs.declared.violation.Violation.{Violation}
use Rattle.ocsf_event_rules.specs.Profiles.{is_in_force}
use Rattle.ocsf_event_rules.specs.EventClass.{value_of, attribute_named}
use Rattle.ocsf_event_rules.specs.Judged.{Seen, ItemObject, with_item, attribute_in_force, of_attribute}
use Rattle.ocsf_event.specs.ByCode.{IsWrongMember}
use Rattle.ocsf_event.specs.Walk.{IsThis, IsWithin, InObject, AtMember, AtObject, BelowMember, InMember, Unknown, Known, Off, On, InMembers, IsMissing, AreMissing, IsWrongWhole, at_name_below}
use Rattle.ocsf_event.proofs.MemberValues.{member_there, there_is, named_there, named_at}

abbrev pub attr_name : Attr → List ℕ
attr_name attr = attr.name

some_and : {X : Type 0} (o : Option X) (P : X → Type 0) → IsSomeAnd o P → (x : X) × (o ≡ Some x) × P x
some_and None P w = absurd w
some_and (Some x) P w = (x, refl, w)

some_is_there : {X : Type 0} (o : Option X) → is_some o ≡ true → (x : X) × (o ≡ Some x)
some_is_there None e = absurd (true≢false (sym e))
some_is_there (Some x) e = (x, refl)

some_of : {X : Type 0} (o : Option X) (x : X) (P : X → Type 0) → o ≡ Some x → P x → IsSomeAnd o P
some_of o x P e p = subst (λ o. IsSomeAnd o P) (sym e) p

module _ (schema : SchemaParts) (profiles : List (List ℕ)) (item : Item) (members : List Member) (place : List Step) (v : Violation) where
  abbrev pub object : ItemObject
  object = with_item item members

  abbrev pub Parts : Type 0
  Parts = InMembers schema profiles item members place v ⊎ (AreMissing profiles item members place v ⊎ IsWrongWhole profiles object place v)

  if_in_force : (b : Bool) (attr next : Attr) → is_in_force profiles attr ≡ b → (if b then Some attr else None) ≡ Some next → (is_in_force profiles next ≡ true) × (attr ≡ next)
  if_in_force true attr next is e = let same = same_Some attr next e in (subst (λ a. is_in_force profiles a ≡ true) same is, same)
  if_in_force false attr next is e = absurd (none-some next e)

  force_of : (o : Option Attr) (attr : Attr) → option_and_then (λ a. if is_in_force profiles a then Some a else None) o ≡ Some attr → (o ≡ Some attr) × (is_in_force profiles attr ≡ true)
  force_of None attr e = absurd (none-some attr e)
  force_of (Some a) attr e = let parts = if_in_force (is_in_force profiles a) a attr refl e in (ap Some parts.1, parts.0)

  -- a member that is there and is judged
  below : (name : List ℕ) (attr : Attr) (value : Tree) → attribute_in_force profiles item name ≡ Some attr → value_of name members ≡ Some value
      → IsWithin schema profiles (of_attribute attr value) (at_name_below place name) v → Parts
  below name attr value force is w =
      let there = member_there members name value is in
      let parts = force_of (attribute_named item name) attr force in
      inl (record {
        at = there.at;
        item = there.member;
        found = there.found;
        holds = Known attr there.given (ap (attribute_named item) there.named ∙ parts.0) (On parts.1
            (subst (λ n. IsWithin schema profiles (of_attribute attr there.member.value) (at_name_below place n) v) (sym there.named)
            (subst (λ t. IsWithin schema profiles (of_attribute attr t) (at_name_below place name) v) (sym there.valued) w)));
      })

  seen_below : (name : List ℕ) (next : Seen) (attr : Option Attr) (value : Option Tree) → attribute_in_force profiles item name ≡ attr → value_of name members ≡ value
      → option_and_then (λ a. option_map (of_attribute a) value) attr ≡ Some next → IsWithin schema profiles next (at_name_below place name) v → Parts
  seen_below name next None value force is e w = absurd (none-some next e)
  seen_below name next (Some attr) None force is e w = absurd (none-some next e)
  seen_below name next (Some attr) (Some value) force is e w =
      below name attr value force is (subst (λ n. IsWithin schema profiles n (at_name_below place name) v) (sym (same_Some (of_attribute attr value) next e)) w)

  at_member : (name : List ℕ) (c : Wrong) → v.code ≡ c → v.place.steps ≡ at_name_below place name → IsWrongMember profiles object name c v.detail → Parts
  at_member name code.AttributeUnknown coded at w =
      let some = some_is_there (value_of name members) w.1 in
      let there = member_there members name some.0 some.1 in
      inl (record {
        at = there.at;
        item = there.member;
        found = there.found;
        holds = Unknown there.given w.0 (ap (attribute_named item) there.named ∙ w.2)
            (record { where_it_is = at ∙ ap (at_name_below place) (sym there.named); what_it_is = coded; told_as = w.3 });
      })
  at_member name code.ProfileInactive coded at w =
      let some = some_is_there (value_of name members) w.0 in
      let there = member_there members name some.0 some.1 in
      let known = some_and (attribute_named item name) (λ attr. (is_in_force profiles attr ≡ false) × (attr.profile ≡ Some v.detail)) w.1 in
      inl (record {
        at = there.at;
        item = there.member;
        found = there.found;
        holds = Known known.0 there.given (ap (attribute_named item) there.named ∙ known.1) (Off v.detail known.2.0 known.2.1
            (record { where_it_is = at ∙ ap (at_name_below place) (sym there.named); what_it_is = coded; told_as = refl }));
      })
  at_member name code.RequiredMissing coded at w =
      let known = some_and (attribute_named item name) (λ attr. (is_in_force profiles attr ≡ true) × (attr.requirement ≡ Required)) w.1 in
      let named = named_there attr_name item.attrs name known.0 known.1 in
      inr (inl (record {
        at = named.at;
        item = known.0;
        found = named.found;
        holds = record {
          absent = ap (λ n. value_of n members) named.named ∙ w.0;
          in_force = known.2.0;
          required = known.2.1;
          this = record { where_it_is = at ∙ ap (at_name_below place) (sym named.named); what_it_is = coded; told_as = w.2 };
        };
      }))
  at_member name c coded at w = absurd w

  pub to_parts : InObject schema profiles object place v → Parts
  to_parts (AtMember name at w) = at_member name v.code refl at w
  to_parts (AtObject at w) = inr (inr (at, w))
  to_parts (BelowMember name next seen w) = seen_below name next (attribute_in_force profiles item name) (value_of name members) refl refl seen w

  module _ (valid : IsValidMembers members) (ordered : IsByName attr_name item.attrs) where
    this_at : (name : List ℕ) (c : Wrong) (detail : List ℕ) → IsThis (at_name_below place name) c detail v
        → IsWrongMember profiles object name c detail → InObject schema profiles object place v
    this_at name c detail this w = AtMember name this.where_it_is
        (subst (λ k. IsWrongMember profiles object name k v.detail) (sym this.what_it_is)
        (subst (λ d. IsWrongMember profiles object name c d) (sym this.told_as) w))

    from_member : (i : ℕ) (m : Member) → slice_get members i ≡ Some m → InMember schema profiles item m place v → InObject schema profiles object place v
    from_member i m found (Unknown given some none this) =
        this_at m.name code.AttributeUnknown [] this (some, ap is_some (there_is members i m valid found given), none, refl)
    from_member i m found (Known attr given named (Off profile off marked this)) =
        this_at m.name code.ProfileInactive profile this
        (ap is_some (there_is members i m valid found given), some_of (attribute_named item m.name) attr (λ a. (is_in_force profiles a ≡ false) × (a.profile ≡ Some profile)) named (off, marked))
    from_member i m found (Known attr given named (On force w)) =
        BelowMember m.name (of_attribute attr m.value)
        (ap (option_and_then (λ a. option_map (of_attribute a) (value_of m.name members)))
        (ap (option_and_then (λ a. if is_in_force profiles a then Some a else None)) named ∙ ap (λ b. if b then Some attr else None) force)
        ∙ ap (option_map (of_attribute attr)) (there_is members i m valid found given))
        w

    from_missing : (i : ℕ) (attr : Attr) → slice_get item.attrs i ≡ Some attr → IsMissing profiles members attr place v → InObject schema profiles object place v
    from_missing i attr found missing =
        this_at attr.name code.RequiredMissing [] missing.this
        (missing.absent, some_of (attribute_named item attr.name) attr (λ a. (is_in_force profiles a ≡ true) × (a.requirement ≡ Required)) (named_at attr_name item.attrs i attr ordered found) (missing.in_force, missing.required), refl)

    pub from_parts : Parts → InObject schema profiles object place v
    from_parts (inl e) = from_member e.at e.item e.found e.holds
    from_parts (inr (inl e)) = from_missing e.at e.item e.found e.holds
    from_parts (inr (inr w)) = AtObject w.0 w.1
