-- Every event has a report: what is wrong with it can be listed, case by case, and put in order.
use Rattle.std.proofs.Common.{◌≡◌, ℕ, List, [], ◌∷◌, ◌++◌, Bool, true, false, true≢false, Option, Some, None}
use Rattle.std.proofs.Common.{◌⊎◌, inl, inr, refl, sym, ◌∙◌, ap, subst, cond}
use Rattle.std.specs.Prelude.{◌≢◌, ℤ, codes, decimal, Contains, IsSome, IsSomeAnd, slice_get, is_some}
use Rattle.std.specs.Ordering.{is_eq}
use Rattle.std.specs.Fmt.{signed_decimal}
use Rattle.std.specs.List.{join_with_byte}
use Rattle.std.specs.Option.{option_and_then}
use Rattle.std.specs.declared.cmp.Ordering.{Ordering}
use Rattle.std.specs.declared.cmp.Ordering.TheVariants.{Less, Equal, Greater}
use Rattle.std.proofs.lemmas.Option.{none-some, same_Some, option_and_then_some}
use Rattle.ocsf_lists.specs.ByName.{at_name, text_cmp}
use Rattle.ocsf_lists.proofs.NameLists.{same_text}
use Rattle.ocsf_tree.specs.declared.tree.Tree.{Tree, out-Tree}
use Rattle.ocsf_tree.specs.declared.tree.Member.{Member}
use Rattle.ocsf_tree.specs.declared.place.Step.{Step}
use Rattle.ocsf_tree.specs.declared.place.Step.TheVariants.{Name}
use Rattle.ocsf_tree.specs.declared.attribute.Requirement.TheVariants.{Required}
use Rattle.ocsf_tree.specs.declared.attribute.Span.{Span}
use Rattle.ocsf_tree.specs.Lookup.{member_in}
use Rattle.ocsf_tree.specs.Valid.{IsValid}
use Rattle.ocsf_schema.specs.declared.records.Attr.{Attr}
use Rattle.ocsf_schema.specs.declared.records.Item.{Item}
use Rattle.ocsf_schema.specs.declared.records.Limit.{Limit}
use Rattle.ocsf_schema.specs.declared.records.Target.{Target}
use Rattle.ocsf_schema.specs.declared.records.Target.TheVariants as target
use Rattle.ocsf_schema.specs.declared.parts.SchemaParts.{SchemaParts}
use Rattle.ocsf_kind.specs.Accepted.{Meets}
use Rattle.ocsf_kind.specs.declared.accepted.Which.TheVariants.{MaxLen, Range, Values}
use Rattle.ocsf_event_rules.specs.Profiles.{as_list, as_text, profile_list, named_profiles, is_in_force, is_profile}
use Rattle.ocsf_event_rules.specs.EventClass.{as_object, value_of, whole_of, item_named, kind_named, attribute_named}
use Rattle.ocsf_event_rules.specs.EventClass.{unless_null, class_of}
use Rattle.ocsf_event_rules.specs.Conditions.{IsOfBase, HasPattern, IsInstant, IsOfEnumeration, enum_key}
use Rattle.ocsf_event_rules.specs.Conditions.{listed_in_force, HasOneOrMore, HasJustOne, expected_type, DoNumbersAgree}
use Rattle.ocsf_event_rules.specs.Judged.{Judge, OfClass, OfAttribute, OfElement, Seen, ItemObject, single_attr}
use Rattle.ocsf_event_rules.specs.Judged.{object_seen}
use Rattle.ocsf_event_rules.specs.Wrong.{class_unknown, attribute_unknown, profile_inactive, required_missing}
use Rattle.ocsf_event_rules.specs.Wrong.{wrong_type, too_long, out_of_range, pattern, not_an_instant, not_a_value}
use Rattle.ocsf_event_rules.specs.Wrong.{enum_unknown, at_least_one, just_one, number_mismatch, profile_unknown}
use Rattle.ocsf_event_rules.specs.Wrong.{Violation}
use Rattle.ocsf_event_rules.specs.Violations.{IsWrongSingle, IsWrongList, IsWrongType, span_text, IsLimitBroken}
use Rattle.ocsf_event_rules.specs.Violations.{TooLong, OutOfRange, Pattern, NotAnInstant, NotAValue, BreaksLimit}
use Rattle.ocsf_event_rules.specs.Violations.{IsNoKey, IsWrongValue, WrongType, BrokenLimit, EnumUnknown}
use Rattle.ocsf_event_rules.specs.Violations.{IsWrongMember, Unknown, Inactive, Missing, comma, IsWrongObject}
use Rattle.ocsf_event_rules.specs.Violations.{NoneOfThem, NotJustOne, whole_text, profile_place, IsWrongEvent}
use Rattle.ocsf_event_rules.specs.Violations.{NumberMismatch, ProfileUnknown, IsViolation, NoObject, NoClass, AtValue}
use Rattle.ocsf_event_rules.specs.Violations.{AtMember, AtObject, OnEvent}
use Rattle.ocsf_event_rules.specs.EventLaws.{HasSomeReport}
use Rattle.ocsf_event_rules.proofs.Listed.{Decided, both, either_one, refuted, same_test, is_none, is_nil, some_and}
use Rattle.ocsf_event_rules.proofs.Listed.{here, later, Listed, nothing, alike, only, either, with_fact, each}
use Rattle.ocsf_event_rules.proofs.Listed.{each_at, of_some, of_some_and, along, mapped, none_of}
use Rattle.ocsf_event_rules.proofs.Decided as decided
use Rattle.ocsf_event_rules.proofs.Children.{member_there}
use Rattle.ocsf_event_rules.proofs.Seen.{IsSeen, all_seen, is_valid_seen}
use Rattle.ocsf_event_rules.proofs.InOrder.{in_order, in_order_ordered, in_order_there, in_order_back}

-- a code and a detail
abbrev Finding : Type 0
Finding = ℕ × List ℕ

abbrev found_at : List Step → Finding → Violation
found_at place f = record { place = place; code = f.0; detail = f.1 }

-- ---- of a limit

module _ (limit : Limit) (value : Tree) (valid : IsValid value) where
  abbrev IsTooLong : Finding → Type 0
  IsTooLong f =
      (most : ℕ) × (limit.max_len ≡ Some most)
      × ((Meets MaxLen limit value → ⊥) × (f ≡ (too_long, decimal most)))

  abbrev IsOutOfRange : Finding → Type 0
  IsOutOfRange f =
      (span : Span) × (limit.range ≡ Some span)
      × ((Meets Range limit value → ⊥) × (f ≡ (out_of_range, span_text span)))

  abbrev OfItsName : Type 0 → ℕ → Finding → Type 0
  OfItsName A code f = (A → ⊥) × (f ≡ (code, limit.type_name))

  abbrev IsUnmet : Finding → Type 0
  IsUnmet f =
      IsTooLong f
      ⊎ (IsOutOfRange f
      ⊎ (OfItsName (HasPattern limit value) pattern f
      ⊎ (OfItsName (IsInstant limit value) not_an_instant f
      ⊎ OfItsName (Meets Values limit value) not_a_value f)))

  abbrev IsBroken : Finding → Type 0
  IsBroken f = IsLimitBroken limit value f.0 f.1

  broken : (f : Finding) → IsUnmet f → IsBroken f
  broken f (inl b) = let c = b.2 in subst IsBroken (sym c.1) (TooLong b.0 b.1 c.0)
  broken f (inr (inl b)) = let c = b.2 in subst IsBroken (sym c.1) (OutOfRange b.0 b.1 c.0)
  broken f (inr (inr (inl b))) = subst IsBroken (sym b.1) (Pattern b.0)
  broken f (inr (inr (inr (inl b)))) = subst IsBroken (sym b.1) (NotAnInstant b.0)
  broken f (inr (inr (inr (inr b)))) = subst IsBroken (sym b.1) (NotAValue b.0)

  unmet : {code : ℕ} {detail : List ℕ} → IsLimitBroken limit value code detail → IsUnmet (code, detail)
  unmet (TooLong most is not) = inl (most, is, (not, refl))
  unmet (OutOfRange span is not) = inr (inl (span, is, (not, refl)))
  unmet (Pattern not) = inr (inr (inl (not, refl)))
  unmet (NotAnInstant not) = inr (inr (inr (inl (not, refl))))
  unmet (NotAValue not) = inr (inr (inr (inr (not, refl))))

  named_so : (A : Type 0) (code : ℕ) → Decided A → Listed (OfItsName A code)
  named_so A code d = only (A → ⊥) (code, limit.type_name) (refuted d)

  of_limit : Listed IsBroken
  of_limit =
      alike IsUnmet IsBroken broken (λ f b. unmet b)
      (either IsTooLong _
      (of_some (λ most f. (Meets MaxLen limit value → ⊥) × (f ≡ (too_long, decimal most))) limit.max_len
      (λ most is. only _ (too_long, decimal most) (refuted (decided.within_length limit.max_len (out-Tree value)))))
      (either IsOutOfRange _
      (of_some (λ span f. (Meets Range limit value → ⊥) × (f ≡ (out_of_range, span_text span))) limit.range
      (λ span is. only _ (out_of_range, span_text span)
      (refuted (decided.within_range limit.range (out-Tree value)))))
      (either (OfItsName (HasPattern limit value) pattern) _
      (named_so (HasPattern limit value) pattern (decided.found limit.pattern (out-Tree value)))
      (either (OfItsName (IsInstant limit value) not_an_instant) (OfItsName (Meets Values limit value) not_a_value)
      (named_so (IsInstant limit value) not_an_instant (decided.instant limit.instant (out-Tree value)))
      (named_so (Meets Values limit value) not_a_value (decided.listed limit.values value valid))))))

-- ---- of a value

module _ (schema : SchemaParts) where
  of_single : (t : Target) (value : Tree) → Listed (IsWrongSingle schema t value)
  of_single (target.Simple name) value =
      only _ name
      (refuted (some_and (λ kind. IsOfBase kind.base value) (kind_named schema name)
      (λ kind. decided.of_base kind.base value)))
  of_single (target.Object name) value =
      only _ (codes "object_t") (either_one (is_none (item_named schema name)) (is_none (as_object value)))
  of_single target.Anything value = only _ (codes "object_t") (is_none (as_object value))

  of_list : (array : Bool) (t : Target) (value : Tree) → Listed (IsWrongList schema array t value)
  of_list true t value = only _ (codes "array") (is_none (as_list value))
  of_list false t value = of_single t value

  of_type : (judge : Judge) (value : Tree) → Listed (IsWrongType schema judge value)
  of_type (OfClass class) value = nothing (λ detail. ⊥) (λ detail w. w)
  of_type (OfAttribute attr) value = of_list attr.is_array attr.target value
  of_type (OfElement attr) value = of_single attr.target value

  breaking : (t : Target) (value : Tree) → IsValid value → Listed (λ (f : Finding). BreaksLimit schema t value f.0 f.1)
  breaking (target.Simple name) value valid =
      of_some_and
      (λ kind f. IsOfBase kind.base value
      × ((limit : Limit) × Contains kind.limits limit × IsLimitBroken limit value f.0 f.1))
      (kind_named schema name)
      (λ kind. with_fact (IsOfBase kind.base value) _ (decided.of_base kind.base value)
      (each (λ limit f. IsLimitBroken limit value f.0 f.1) kind.limits (λ limit c. of_limit limit value valid)))
  breaking (target.Object name) value valid = nothing (λ f. ⊥) (λ f w. w)
  breaking target.Anything value valid = nothing (λ f. ⊥) (λ f w. w)

  abbrev IsOfNone : Attr → Tree → Type 0
  IsOfNone attr value =
      (IsOfEnumeration attr.members value → ⊥)
      × ((wrong : List ℕ) → IsWrongSingle schema attr.target value wrong → ⊥)

  no_key : (attr : Attr) (value : Tree) → Listed (IsNoKey schema attr value)
  no_key attr value = by_key (enum_key value) refl
    where
      by_key : (key : Option (List ℕ)) → enum_key value ≡ key → Listed (IsNoKey schema attr value)
      by_key None is = nothing (IsNoKey schema attr value) (λ detail p. none-some detail (sym is ∙ p.1))
      by_key (Some key) is =
          alike (λ detail. IsOfNone attr value × (detail ≡ key)) (IsNoKey schema attr value)
          (λ detail p. (p.0.0, is ∙ ap Some (sym p.1), p.0.1))
          (λ detail p. ((p.0, p.2), same_Some detail key (sym p.1 ∙ is)))
          (only (IsOfNone attr value) key
          (both (refuted (decided.of_enumeration attr.members value)) (none_of _ (of_single attr.target value))))

  module _ (here : Seen) (valid : IsValid here.value) where
    abbrev IsOfWrongType : Finding → Type 0
    IsOfWrongType f =
        (detail : List ℕ) × IsWrongType schema here.judge here.value detail × (f ≡ (wrong_type, detail))

    abbrev IsBreaking : Finding → Type 0
    IsBreaking f = IsSomeAnd (single_attr here.judge) (λ attr. BreaksLimit schema attr.target here.value f.0 f.1)

    abbrev HasNoKey : List ℕ → Type 0
    HasNoKey detail = IsSomeAnd (single_attr here.judge) (λ attr. IsNoKey schema attr here.value detail)

    abbrev IsUnknownKey : Finding → Type 0
    IsUnknownKey f = (detail : List ℕ) × HasNoKey detail × (f ≡ (enum_unknown, detail))

    abbrev IsWrongThere : Finding → Type 0
    IsWrongThere f = IsWrongValue schema here f.0 f.1

    wrong_value : (f : Finding) → IsOfWrongType f ⊎ (IsBreaking f ⊎ IsUnknownKey f) → IsWrongThere f
    wrong_value f (inl w) = subst IsWrongThere (sym w.2) (WrongType w.0 w.1)
    wrong_value f (inr (inl w)) = BrokenLimit f.0 f.1 w
    wrong_value f (inr (inr w)) = subst IsWrongThere (sym w.2) (EnumUnknown w.0 w.1)

    value_parts : {code : ℕ} {detail : List ℕ} → IsWrongValue schema here code detail
        → IsOfWrongType (code, detail) ⊎ (IsBreaking (code, detail) ⊎ IsUnknownKey (code, detail))
    value_parts (WrongType detail w) = inl (detail, w, refl)
    value_parts (BrokenLimit code detail w) = inr (inl w)
    value_parts (EnumUnknown detail w) = inr (inr (detail, w, refl))

    of_value : Listed IsWrongThere
    of_value =
        alike (λ f. IsOfWrongType f ⊎ (IsBreaking f ⊎ IsUnknownKey f)) IsWrongThere wrong_value (λ f w. value_parts w)
        (either IsOfWrongType (λ f. IsBreaking f ⊎ IsUnknownKey f)
        (mapped _ (λ detail. (wrong_type, detail)) (of_type here.judge here.value))
        (either IsBreaking IsUnknownKey
        (of_some_and (λ attr f. BreaksLimit schema attr.target here.value f.0 f.1) (single_attr here.judge)
        (λ attr. breaking attr.target here.value valid))
        (mapped HasNoKey (λ detail. (enum_unknown, detail))
        (of_some_and (λ attr detail. IsNoKey schema attr here.value detail) (single_attr here.judge)
        (λ attr. no_key attr here.value)))))

-- ---- names that are found

value_there : (ms : List Member) (name : List ℕ) (o : Option Tree) → member_in name ms ≡ o
    → is_some (option_and_then unless_null o) ≡ true → (child : Tree) × (member_in name ms ≡ Some child)
value_there ms name None is there = absurd (true≢false (sym there))
value_there ms name (Some child) is there = (child, is)

attribute_there : (name : List ℕ) (attrs : List Attr) (attr : Attr) → at_name (λ a. a.name) name attrs ≡ Some attr
    → Contains attrs attr × (attr.name ≡ name)
attribute_there name [] attr e = absurd (none-some attr e)
attribute_there name (a ∷ rest) attr e =
    by_order (text_cmp name a.name) refl (λ e. attribute_there name rest attr e) e
  where
    further : (at_name (λ a. a.name) name rest ≡ Some attr → Contains rest attr × (attr.name ≡ name))
        → at_name (λ a. a.name) name rest ≡ Some attr → Contains (a ∷ rest) attr × (attr.name ≡ name)
    further more e = let at = more e in (later a rest attr at.0, at.1)

    by_order : (r : Ordering) → text_cmp name a.name ≡ r
        → (at_name (λ a. a.name) name rest ≡ Some attr → Contains rest attr × (attr.name ≡ name))
        → cond (is_eq r) (Some a) (at_name (λ a. a.name) name rest) ≡ Some attr
        → Contains (a ∷ rest) attr × (attr.name ≡ name)
    by_order Less is more e = further more e
    by_order Greater is more e = further more e
    by_order Equal is more e =
        let same = same_Some a attr e in (
          subst (Contains (a ∷ rest)) same (here a rest),
          ap (λ (b : Attr). b.name) (sym same) ∙ sym (same_text name a.name is),
        )

-- ---- of an object

module _ (profiles : List (List ℕ)) (object : ItemObject) where
  module _ (name : List ℕ) where
    abbrev IsThere : Type 0
    IsThere = IsSome (value_of name object.members)

    abbrev IsUnknown : Type 0
    IsUnknown = (object.item.attrs ≢ []) × IsThere × (attribute_named object.item name ≡ None)

    abbrev IsInactive : Attr → Finding → Type 0
    IsInactive attr f =
        (profile : List ℕ) × (attr.profile ≡ Some profile)
        × ((IsThere × (is_in_force profiles attr ≡ false)) × (f ≡ (profile_inactive, profile)))

    abbrev IsMissing : Attr → Type 0
    IsMissing attr =
        (value_of name object.members ≡ None) × ((is_in_force profiles attr ≡ true) × (attr.requirement ≡ Required))

    abbrev OfAttr : Attr → Finding → Type 0
    OfAttr attr f = IsInactive attr f ⊎ (IsMissing attr × (f ≡ (required_missing, [])))

    abbrev MemberParts : Finding → Type 0
    MemberParts f =
        (IsUnknown × (f ≡ (attribute_unknown, [])))
        ⊎ ((attr : Attr) × (attribute_named object.item name ≡ Some attr) × OfAttr attr f)

    abbrev IsWrongNamed : Finding → Type 0
    IsWrongNamed f = IsWrongMember profiles object name f.0 f.1

    wrong_attr : (f : Finding) (attr : Attr) → attribute_named object.item name ≡ Some attr → OfAttr attr f
        → IsWrongNamed f
    wrong_attr f attr named (inl w) =
        let x = w.2 in subst IsWrongNamed (sym x.1) (Inactive attr w.0 x.0.0 named x.0.1 w.1)
    wrong_attr f attr named (inr w) =
        let m = w.0 in let n = m.1 in subst IsWrongNamed (sym w.1) (Missing attr m.0 named n.0 n.1)

    wrong_member : (f : Finding) → MemberParts f → IsWrongNamed f
    wrong_member f (inl w) = let u = w.0 in subst IsWrongNamed (sym w.1) (Unknown u.0 u.1 u.2)
    wrong_member f (inr w) = wrong_attr f w.0 w.1 w.2

    member_parts : {code : ℕ} {detail : List ℕ} → IsWrongMember profiles object name code detail
        → MemberParts (code, detail)
    member_parts (Unknown some there unknown) = inl ((some, there, unknown), refl)
    member_parts (Inactive attr profile there named off is) =
        inr (attr, named, inl (profile, is, ((there, off), refl)))
    member_parts (Missing attr absent named force wanted) = inr (attr, named, inr ((absent, (force, wanted)), refl))

    is_there : Decided IsThere
    is_there = same_test (is_some (value_of name object.members)) true

    grouped : Decided ((object.item.attrs ≢ []) × (IsThere × (attribute_named object.item name ≡ None)))
        → Decided IsUnknown
    grouped (inl p) = let q = p.1 in inl (p.0, q.0, q.1)
    grouped (inr not) = inr (λ u. not (u.0, (u.1, u.2)))

    is_unknown : Decided IsUnknown
    is_unknown =
        grouped
        (both (refuted (is_nil object.item.attrs)) (both is_there (is_none (attribute_named object.item name))))

    of_attr : (attr : Attr) → Listed (OfAttr attr)
    of_attr attr =
        either (IsInactive attr) (λ f. IsMissing attr × (f ≡ (required_missing, [])))
        (of_some
        (λ profile f. (IsThere × (is_in_force profiles attr ≡ false)) × (f ≡ (profile_inactive, profile)))
        attr.profile
        (λ profile is. only _ (profile_inactive, profile)
        (both is_there (same_test (is_in_force profiles attr) false))))
        (only (IsMissing attr) (required_missing, [])
        (both (is_none (value_of name object.members))
        (both (same_test (is_in_force profiles attr) true) (decided.required attr.requirement))))

    of_member : Listed IsWrongNamed
    of_member =
        alike MemberParts IsWrongNamed wrong_member (λ f w. member_parts w)
        (either (λ f. IsUnknown × (f ≡ (attribute_unknown, []))) _
        (only IsUnknown (attribute_unknown, []) is_unknown)
        (of_some OfAttr (attribute_named object.item name) (λ attr is. of_attr attr)))

  abbrev IsUnmetWhole : Finding → Type 0
  IsUnmetWhole f =
      ((HasOneOrMore object.members (listed_in_force profiles object.item object.item.at_least_one) → ⊥)
      × (f ≡ (at_least_one, join_with_byte comma object.item.at_least_one)))
      ⊎ ((HasJustOne object.members (listed_in_force profiles object.item object.item.just_one) → ⊥)
      × (f ≡ (just_one, join_with_byte comma object.item.just_one)))

  abbrev IsWrongWhole : Finding → Type 0
  IsWrongWhole f = IsWrongObject profiles object f.0 f.1

  wrong_whole : (f : Finding) → IsUnmetWhole f → IsWrongWhole f
  wrong_whole f (inl w) = subst IsWrongWhole (sym w.1) (NoneOfThem w.0)
  wrong_whole f (inr w) = subst IsWrongWhole (sym w.1) (NotJustOne w.0)

  whole_parts : {code : ℕ} {detail : List ℕ} → IsWrongObject profiles object code detail
      → IsUnmetWhole (code, detail)
  whole_parts (NoneOfThem not) = inl (not, refl)
  whole_parts (NotJustOne not) = inr (not, refl)

  of_whole : Listed IsWrongWhole
  of_whole =
      alike IsUnmetWhole IsWrongWhole wrong_whole (λ f w. whole_parts w)
      (either _ _
      (only _ (at_least_one, join_with_byte comma object.item.at_least_one)
      (refuted
      (decided.one_or_more object.members (listed_in_force profiles object.item object.item.at_least_one))))
      (only _ (just_one, join_with_byte comma object.item.just_one)
      (refuted (decided.just_one object.members (listed_in_force profiles object.item object.item.just_one)))))

  -- ---- at each name that a member or an attribute has

  abbrev IsMisnamed : List ℕ × Finding → Type 0
  IsMisnamed n = IsWrongMember profiles object n.0 n.1.0 n.1.1

  abbrev OfName : List ℕ → List ℕ × Finding → Type 0
  OfName name n = (f : Finding) × IsWrongNamed name f × (n ≡ (name, f))

  abbrev OfNames : List ℕ × Finding → Type 0
  OfNames n =
      ((m : Member) × Contains object.members m × OfName m.name n)
      ⊎ ((attr : Attr) × Contains object.item.attrs attr × OfName attr.name n)

  misnamed : (n : List ℕ × Finding) → OfNames n → IsMisnamed n
  misnamed n (inl w) = let f = w.2 in subst IsMisnamed (sym f.2) f.1
  misnamed n (inr w) = let f = w.2 in subst IsMisnamed (sym f.2) f.1

  of_own_name : (own name : List ℕ) (f : Finding) → own ≡ name → IsWrongNamed name f → OfName own (name, f)
  of_own_name own name f same w = (f, subst (λ n. IsWrongNamed n f) (sym same) w, ap (λ n. (n, f)) (sym same))

  of_there : (name : List ℕ) (f : Finding) → IsThere name → IsWrongNamed name f → OfNames (name, f)
  of_there name f there w =
      let child = value_there object.members name (member_in name object.members) refl there in
      let m = member_there object.members name child.0 child.1 in
      inl (m.0, m.1, of_own_name m.0.name name f m.2 w)

  of_attribute : (name : List ℕ) (f : Finding) (attr : Attr) → attribute_named object.item name ≡ Some attr
      → IsWrongNamed name f → OfNames (name, f)
  of_attribute name f attr named w =
      let at = attribute_there name object.item.attrs attr named in
      inr (attr, at.0, of_own_name attr.name name f at.1 w)

  named_parts : (name : List ℕ) {code : ℕ} {detail : List ℕ} → IsWrongMember profiles object name code detail
      → OfNames (name, (code, detail))
  named_parts name (Unknown some there unknown) =
      of_there name (attribute_unknown, []) there (Unknown some there unknown)
  named_parts name (Inactive attr profile there named off is) =
      of_there name (profile_inactive, profile) there (Inactive attr profile there named off is)
  named_parts name (Missing attr absent named force wanted) =
      of_attribute name (required_missing, []) attr named (Missing attr absent named force wanted)

  of_name : (name : List ℕ) → Listed (OfName name)
  of_name name = mapped (IsWrongNamed name) (λ f. (name, f)) (of_member name)

  of_names : Listed IsMisnamed
  of_names =
      alike OfNames IsMisnamed misnamed (λ n w. named_parts n.0 w)
      (either _ _ (each (λ m n. OfName m.name n) object.members (λ m c. of_name m.name))
      (each (λ attr n. OfName attr.name n) object.item.attrs (λ attr c. of_name attr.name)))

-- ---- of the event

module _ (schema : SchemaParts) (event : Tree) (class : ℕ) (members : List Member) where
  abbrev IsWrongHere : Violation → Type 0
  IsWrongHere v = IsWrongEvent schema event class members v.place v.code v.detail

  abbrev mismatch : ℤ → Violation
  mismatch activity =
      found_at (Name (codes "type_uid") ∷ []) (number_mismatch, signed_decimal (expected_type class activity))

  abbrev IsMismatch : Violation → Type 0
  IsMismatch v =
      (activity : ℤ) × (whole_of (codes "activity_id") members ≡ Some activity)
      × ((DoNumbersAgree class members → ⊥) × (v ≡ mismatch activity))

  abbrev stranger : ℕ → List ℕ → Violation
  stranger position profile = found_at (profile_place position) (profile_unknown, profile)

  abbrev IsStranger : ℕ → Tree → Violation → Type 0
  IsStranger position item v =
      (profile : List ℕ) × (as_text item ≡ Some profile)
      × ((is_profile schema profile ≡ false) × (v ≡ stranger position profile))

  abbrev HasStranger : Violation → Type 0
  HasStranger v =
      (position : ℕ) × (item : Tree) × (slice_get (profile_list event) position ≡ Some item)
      × IsStranger position item v

  wrong_event : (v : Violation) → IsMismatch v ⊎ HasStranger v → IsWrongHere v
  wrong_event v (inl w) = let m = w.2 in subst IsWrongHere (sym m.1) (NumberMismatch w.0 w.1 m.0)
  wrong_event v (inr w) =
      let p = w.3 in let q = p.2 in
      subst IsWrongHere (sym q.1) (ProfileUnknown w.0 p.0 (ap (option_and_then as_text) w.2 ∙ p.1) q.0)

  event_parts : {place : List Step} {code : ℕ} {detail : List ℕ}
      → IsWrongEvent schema event class members place code detail
      → IsMismatch (found_at place (code, detail)) ⊎ HasStranger (found_at place (code, detail))
  event_parts (NumberMismatch activity is not) = inl (activity, is, (not, refl))
  event_parts (ProfileUnknown position profile is unknown) =
      option_and_then_some as_text (slice_get (profile_list event) position) profile is
      (λ item found text. inr (position, item, found, (profile, text, (unknown, refl))))

  of_event : Listed IsWrongHere
  of_event =
      alike (λ v. IsMismatch v ⊎ HasStranger v) IsWrongHere wrong_event (λ v w. event_parts w)
      (either IsMismatch HasStranger
      (of_some (λ activity v. (DoNumbersAgree class members → ⊥) × (v ≡ mismatch activity))
      (whole_of (codes "activity_id") members)
      (λ activity is. only _ (mismatch activity) (refuted (decided.numbers_agree class members))))
      (each_at IsStranger (profile_list event) (λ position item found. of_some
      (λ profile v. (is_profile schema profile ≡ false) × (v ≡ stranger position profile)) (as_text item)
      (λ profile is. only _ (stranger position profile) (same_test (is_profile schema profile) false)))))

-- ---- all

module _ (schema : SchemaParts) (event : Tree) (valid : IsValid event) where
  abbrev ps : List (List ℕ)
  ps = named_profiles event

  abbrev Spot : Type 0
  Spot = List Step × Seen

  abbrev IsWrong : Violation → Type 0
  IsWrong v = IsViolation schema event v.place v.code v.detail

  abbrev IsNoObject : Violation → Type 0
  IsNoObject v = (as_object event ≡ None) × (v ≡ found_at [] (wrong_type, codes "object_t"))

  abbrev no_class : List Member → Violation
  no_class members =
      found_at (Name (codes "class_uid") ∷ []) (class_unknown, whole_text (whole_of (codes "class_uid") members))

  abbrev OfMembers : List Member → Violation → Type 0
  OfMembers members v =
      ((class_of schema members ≡ None) × (v ≡ no_class members))
      ⊎ ((class : Item) × (class_of schema members ≡ Some class)
      × ((number : ℕ) × (class.class_uid ≡ Some number) × IsWrongHere schema event number members v))

  abbrev AtRoot : Violation → Type 0
  AtRoot v = (members : List Member) × (as_object event ≡ Some members) × OfMembers members v

  abbrev OfObject : List Step → ItemObject → Violation → Type 0
  OfObject place object v =
      ((n : List ℕ × Finding) × IsMisnamed ps object n × (v ≡ found_at (place ++ Name n.0 ∷ []) n.1))
      ⊎ ((f : Finding) × IsWrongWhole ps object f × (v ≡ found_at place f))

  abbrev OfSpot : Spot → Violation → Type 0
  OfSpot spot v =
      ((f : Finding) × IsWrongValue schema spot.1 f.0 f.1 × (v ≡ found_at spot.0 f))
      ⊎ ((object : ItemObject) × (object_seen schema spot.1 ≡ Some object) × OfObject spot.0 object v)

  abbrev AtSpot : Violation → Type 0
  AtSpot v = (spot : Spot) × IsSeen schema event spot × OfSpot spot v

  abbrev Parts : Violation → Type 0
  Parts v = IsNoObject v ⊎ (AtRoot v ⊎ AtSpot v)

  -- ---- each part is a violation

  of_root : (v : Violation) (members : List Member) → as_object event ≡ Some members → OfMembers members v → IsWrong v
  of_root v members is (inl w) = subst IsWrong (sym w.1) (NoClass members is w.0)
  of_root v members is (inr w) =
      let n = w.2 in OnEvent members w.0 n.0 v.place v.code v.detail is w.1 n.1 n.2

  of_object : (v : Violation) (spot : Spot) → IsSeen schema event spot → (object : ItemObject)
      → object_seen schema spot.1 ≡ Some object → OfObject spot.0 object v → IsWrong v
  of_object v spot is object found (inl w) =
      let n = w.0 in
      subst IsWrong (sym w.2) (AtMember spot.0 spot.1 object n.0 n.1.0 n.1.1 is found w.1)
  of_object v spot is object found (inr w) =
      let f = w.0 in subst IsWrong (sym w.2) (AtObject spot.0 spot.1 object f.0 f.1 is found w.1)

  of_spot : (v : Violation) (spot : Spot) → IsSeen schema event spot → OfSpot spot v → IsWrong v
  of_spot v spot is (inl w) = let f = w.0 in subst IsWrong (sym w.2) (AtValue spot.0 spot.1 f.0 f.1 is w.1)
  of_spot v spot is (inr w) = of_object v spot is w.0 w.1 w.2

  violation : (v : Violation) → Parts v → IsWrong v
  violation v (inl w) = subst IsWrong (sym w.1) (NoObject w.0)
  violation v (inr (inl w)) = of_root v w.0 w.1 w.2
  violation v (inr (inr w)) = of_spot v w.0 w.1 w.2

  -- ---- each violation is a part

  parts : {place : List Step} {code : ℕ} {detail : List ℕ} → IsViolation schema event place code detail
      → Parts (found_at place (code, detail))
  parts (NoObject none) = inl (none, refl)
  parts (NoClass members object none) = inr (inl (members, object, inl (none, refl)))
  parts (AtValue place here code detail is wrong) =
      inr (inr ((place, here), is, inl ((code, detail), wrong, refl)))
  parts (AtMember place here object name code detail is found wrong) =
      inr (inr ((place, here), is, inr (object, found, inl ((name, (code, detail)), wrong, refl))))
  parts (AtObject place here object code detail is found wrong) =
      inr (inr ((place, here), is, inr (object, found, inr ((code, detail), wrong, refl))))
  parts (OnEvent members class number place code detail object known numbered wrong) =
      inr (inl (members, object, inr (class, known, (number, numbered, wrong))))

  -- ---- each part can be listed

  root_listed : Listed AtRoot
  root_listed =
      of_some OfMembers (as_object event) (λ members is. either _ _
      (only _ (no_class members) (is_none (class_of schema members)))
      (of_some (λ class v. (number : ℕ) × (class.class_uid ≡ Some number) × IsWrongHere schema event number members v)
      (class_of schema members)
      (λ class known. of_some (λ number. IsWrongHere schema event number members) class.class_uid
      (λ number numbered. of_event schema event number members))))

  object_listed : (place : List Step) (object : ItemObject) → Listed (OfObject place object)
  object_listed place object =
      either _ _
      (mapped (IsMisnamed ps object) (λ n. found_at (place ++ Name n.0 ∷ []) n.1) (of_names ps object))
      (mapped (IsWrongWhole ps object) (found_at place) (of_whole ps object))

  spot_listed : (spot : Spot) → IsSeen schema event spot → Listed (OfSpot spot)
  spot_listed spot is =
      either _ _
      (mapped (λ f. IsWrongValue schema spot.1 f.0 f.1) (found_at spot.0)
      (of_value schema spot.1 (is_valid_seen schema event valid spot.0 spot.1 is)))
      (of_some (OfObject spot.0) (object_seen schema spot.1) (λ object found. object_listed spot.0 object))

  all_wrong : Listed IsWrong
  all_wrong =
      alike Parts IsWrong violation (λ v w. parts w)
      (either IsNoObject (λ v. AtRoot v ⊎ AtSpot v)
      (only _ (found_at [] (wrong_type, codes "object_t")) (is_none (as_object event)))
      (either AtRoot AtSpot root_listed
      (along (IsSeen schema event) OfSpot (all_seen schema event valid) spot_listed)))

pub some_report : HasSomeReport
some_report schema event valid =
    let wrong = all_wrong schema event valid in (
      in_order wrong.0,
      record {
        ordered = in_order_ordered wrong.0;
        listed = λ v. (
          λ c. (wrong.1 v).0 (in_order_back wrong.0 v c),
          λ w. in_order_there wrong.0 v ((wrong.1 v).1 w),
        );
      },
    )
