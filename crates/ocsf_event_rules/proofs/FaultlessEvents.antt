-- An event with which nothing is wrong is allowed.
use Rattle.std.proofs.Common.{◌≡◌, ℕ, suc, ◌<◌, List, [], ◌∷◌, ◌++◌, length, Bool, true, false, true≢false}
use Rattle.std.proofs.Common.{Option, Some, None, ◌⊎◌, inl, inr, refl, sym, ◌∙◌, ap, ap₂, subst, if◌then◌else◌}
use Rattle.std.specs.List.{AllByRecursion, cons_option}
use Rattle.ocsf_event_rules.specs.EventLaws.{FaultlessIsAllowed}
use Rattle.std.specs.Prelude.{ℤ, filter_map, Contains, IfSome, IsSome, IsSomeAnd, slice_get, slice_index_or}
use Rattle.std.specs.Prelude.{is_some, codes}
use Rattle.std.specs.Option.{option_map, option_and_then, option_map_or}
use Rattle.std.proofs.lemmas.Option.{slice_get-get_or}
use Rattle.std.proofs.lemmas.List.Elements.{Contains-get_or, All-from_recursion}
use Rattle.ocsf_tree.specs.declared.tree.Tree.{Tree, out-Tree}
use Rattle.ocsf_tree.specs.declared.tree.Member.{Member}
use Rattle.ocsf_tree.specs.Valid.{IsValid}
use Rattle.ocsf_tree.specs.declared.place.Step.{Step}
use Rattle.ocsf_tree.specs.declared.place.Step.TheVariants.{At, Name}
use Rattle.ocsf_tree.specs.declared.attribute.Requirement.TheVariants.{Required}
use Rattle.ocsf_tree.specs.declared.attribute.Span.{Span}
use Rattle.ocsf_tree.specs.declared.attribute.EnumMember.{EnumMember}
use Rattle.ocsf_kind.specs.Accepted.{IsWithinLength, IsWithinRange, Meets}
use Rattle.ocsf_kind.specs.declared.accepted.Which.TheVariants.{MaxLen, Range}
use Rattle.ocsf_schema.specs.declared.records.Attr.{Attr}
use Rattle.ocsf_schema.specs.declared.records.Item.{Item}
use Rattle.ocsf_schema.specs.declared.records.Kind.{Kind}
use Rattle.ocsf_schema.specs.declared.records.Limit.{Limit}
use Rattle.ocsf_schema.specs.declared.records.Target.{Target}
use Rattle.ocsf_schema.specs.declared.records.Target.TheVariants as target
use Rattle.ocsf_schema.specs.declared.parts.SchemaParts.{SchemaParts}
use Rattle.ocsf_lists.specs.Among.{is_among}
use Rattle.ocsf_event_rules.specs.Profiles.{as_list, as_text, profile_list, is_in_force, is_profile, named_profiles}
use Rattle.ocsf_event_rules.specs.EventClass.{as_object, value_of, item_named, kind_named}
use Rattle.ocsf_event_rules.specs.EventClass.{attribute_named, class_of, class_of_event, whole_of}
use Rattle.ocsf_event_rules.proofs.Classes.{class_has_number}
use Rattle.ocsf_event_rules.specs.Allowed.{Fits, Open, Closed, FitsMember, Member_of, Accepts, Single, Each}
use Rattle.ocsf_event_rules.specs.Allowed.{AcceptsSingle, OfKind, OfObject, OfAnything, IsAllowed}
use Rattle.ocsf_event_rules.specs.Conditions.{IsOfBase, IsOfKind, MeetsLimit, IsOfEnumeration, enum_key, is_key}
use Rattle.ocsf_event_rules.specs.Conditions.{listed_in_force, DoNumbersAgree, AreProfilesKnown, expected_type}
use Rattle.ocsf_event_rules.specs.Wrong.{class_unknown, attribute_unknown, profile_inactive, required_missing}
use Rattle.ocsf_event_rules.specs.Wrong.{wrong_type, enum_unknown, at_least_one, just_one}
use Rattle.ocsf_event_rules.specs.Violations.{IsWrongSingle, IsWrongList, IsWrongType, IsLimitBroken, BreaksLimit}
use Rattle.ocsf_event_rules.specs.Violations.{IsNoKey, IsWrongEvent, TooLong, OutOfRange, Pattern, NotAnInstant}
use Rattle.ocsf_event_rules.specs.Violations.{NotAValue, WrongType, BrokenLimit, EnumUnknown, Unknown, Inactive}
use Rattle.ocsf_event_rules.specs.Violations.{Missing, NoneOfThem, NotJustOne, NumberMismatch, ProfileUnknown}
use Rattle.ocsf_event_rules.specs.Violations.{IsViolation, NoObject, NoClass, AtValue, AtMember, AtObject, OnEvent}
use Rattle.ocsf_event_rules.specs.Judged.{Judge, OfClass, OfAttribute, OfElement, Seen, ItemObject, with_item}
use Rattle.ocsf_event_rules.specs.Judged.{object_of, item_of, single_attr, object_seen, of_attribute, of_element}
use Rattle.ocsf_event_rules.specs.Judged.{member_seen, seen_at, seen_from, of_class}
use Rattle.ocsf_event_rules.specs.Judged.{seen}
use Rattle.ocsf_event_rules.proofs.Listed.{holds}
use Rattle.ocsf_event_rules.proofs.Decided as decided
use Rattle.ocsf_event_rules.proofs.Children.{IsChild, by_children}
use Rattle.ocsf_event_rules.proofs.Seen.{at, child_of}
use Rattle.ocsf_event_rules.proofs.AllowedEvents.{none_is_some, some_is, IsGood, IsGoodSeen, picked, if_in_force}
use Rattle.ocsf_event_rules.proofs.AllowedEvents.{if_array}

slice_get_at : {X : Type 0} (xs : List X) (k : ℕ) (x : X) → k < length xs → slice_index_or xs k x ≡ x
    → slice_get xs k ≡ Some x
slice_get_at xs k x lt e = slice_get-get_or xs k x lt ∙ ap Some e

module _ (schema : SchemaParts) (event : Tree)
    (fine : (place : List Step) (code : ℕ) (detail : List ℕ) → IsViolation schema event place code detail → ⊥) where
  abbrev ps : List (List ℕ)
  ps = named_profiles event

  -- whatever is seen one step further is good
  abbrev IsGoodBelow : Seen → Type 0
  IsGoodBelow here = (step : Step) (next : Seen) → seen_at schema ps step here ≡ Some next → IsGoodSeen schema ps next

  -- ---- an object fits

  module _ (place : List Step) (here : Seen) (object : ItemObject) (is_seen : seen schema event place ≡ Some here)
      (is_object : object_seen schema here ≡ Some object) (below : IsGoodBelow here) where
    in_force_seen : (name : List ℕ) (value : Tree) (attr : Attr) → value_of name object.members ≡ Some value
        → attribute_named object.item name ≡ Some attr
        → is_in_force ps attr ≡ true → seen_at schema ps (Name name) here ≡ Some (of_attribute attr value)
    in_force_seen name value attr there named force =
        ap (option_and_then (member_seen ps name)) is_object
        ∙ ap₂ (picked schema ps)
        (ap (option_and_then (λ a. if_in_force schema ps (is_in_force ps a) a)) named
        ∙ ap (λ b. if_in_force schema ps b attr) force) there

    active : (name : List ℕ) (value : Tree) (attr : Attr) (profile : Option (List ℕ)) → attr.profile ≡ profile
        → value_of name object.members ≡ Some value
        → attribute_named object.item name ≡ Some attr → is_in_force ps attr ≡ false → ⊥
    active name value attr None is there named force =
        true≢false (sym (ap (λ o. option_map_or (λ p. is_among p ps) o true) is) ∙ force)
    active name value attr (Some profile) is there named force =
        fine (place ++ Name name ∷ []) profile_inactive profile
        (AtMember place here object name profile_inactive profile is_seen is_object
        (Inactive attr profile (ap is_some there) named force is))

    of_force : (name : List ℕ) (value : Tree) (attr : Attr) (force : Bool) → is_in_force ps attr ≡ force
        → value_of name object.members ≡ Some value
        → attribute_named object.item name ≡ Some attr → FitsMember schema ps object.item name value
    of_force name value attr true force there named =
        Member_of object.item name value attr named force
        (below (Name name) (of_attribute attr value) (in_force_seen name value attr there named force))
    of_force name value attr false force there named =
        absurd (active name value attr attr.profile refl there named force)

    of_member : (name : List ℕ) (value : Tree) (attr : Option Attr) → (object.item.attrs ≡ [] → ⊥)
        → attribute_named object.item name ≡ attr
        → value_of name object.members ≡ Some value → FitsMember schema ps object.item name value
    of_member name value None some named there =
        absurd (fine (place ++ Name name ∷ []) attribute_unknown []
        (AtMember place here object name attribute_unknown [] is_seen is_object
        (Unknown some (ap is_some there) named)))
    of_member name value (Some attr) some named there = of_force name value attr (is_in_force ps attr) refl there named

    required : (name : List ℕ) (attr : Attr) (value : Option Tree) → value_of name object.members ≡ value
        → attribute_named object.item name ≡ Some attr
        → is_in_force ps attr ≡ true → attr.requirement ≡ Required → IsSome (value_of name object.members)
    required name attr (Some value) there named force wanted = ap is_some there
    required name attr None there named force wanted =
        absurd (fine (place ++ Name name ∷ []) required_missing []
        (AtMember place here object name required_missing [] is_seen is_object (Missing attr there named force wanted)))

    by_attrs : (attrs : List Attr) → object.item.attrs ≡ attrs → Fits schema ps object.item object.members
    by_attrs [] is = Open object.item object.members is
    by_attrs (a ∷ rest) is =
        Closed object.item object.members
        (λ name value there. of_member name value (attribute_named object.item name) (λ e. no_list (sym is ∙ e)) refl
        there)
        (λ name attr named force wanted. required name attr (value_of name object.members) refl named force wanted)
        (holds (decided.one_or_more object.members (listed_in_force ps object.item object.item.at_least_one))
        (λ not. fine place at_least_one _
        (AtObject place here object at_least_one _ is_seen is_object (NoneOfThem not))))
        (holds (decided.just_one object.members (listed_in_force ps object.item object.item.just_one))
        (λ not. fine place just_one _ (AtObject place here object just_one _ is_seen is_object (NotJustOne not))))
      where
        no_list : a ∷ rest ≡ [] → ⊥
        no_list e = cc

    object_fits : Fits schema ps object.item object.members
    object_fits = by_attrs object.item.attrs refl

  -- ---- a single value is accepted

  module _ (place : List Step) (here : Seen) (attr : Attr) (is_seen : seen schema event place ≡ Some here)
      (single : single_attr here.judge ≡ Some attr)
      (as_type : (detail : List ℕ) → IsWrongSingle schema attr.target here.value detail
      → IsWrongType schema here.judge here.value detail)
      (as_item : item_of schema here.judge ≡ object_of schema attr.target)
      (valid : IsValid here.value) (below : IsGoodBelow here) where
    abbrev own : Tree
    own = here.value

    not_wrong : (detail : List ℕ) → IsWrongSingle schema attr.target own detail → ⊥
    not_wrong detail wrong =
        fine place wrong_type detail
        (AtValue place here wrong_type detail is_seen (WrongType detail (as_type detail wrong)))

    alone : (P : Attr → Type 0) → P attr → IsSomeAnd (single_attr here.judge) P
    alone P p = subst (λ o. IsSomeAnd o P) (sym single) p

    module _ (name : List ℕ) (is_simple : attr.target ≡ target.Simple name) (kind : Kind)
        (is_kind : kind_named schema name ≡ Some kind)
        (is_base : IsOfBase kind.base own) (limit : Limit) (is_limit : Contains kind.limits limit) where
      unbroken : {code : ℕ} {detail : List ℕ} → IsLimitBroken limit own code detail → ⊥
      unbroken {code} {detail} wrong =
          fine place code detail
          (AtValue place here code detail is_seen
          (BrokenLimit code detail
          (alone (λ a. BreaksLimit schema a.target own code detail)
          (subst (λ t. BreaksLimit schema t own code detail) (sym is_simple)
          (subst (λ o. IsSomeAnd o
          (λ k. IsOfBase k.base own × ((l : Limit) × Contains k.limits l × IsLimitBroken l own code detail)))
          (sym is_kind)
          (is_base, (limit, is_limit, wrong)))))))

      within_length : (most : Option ℕ) → limit.max_len ≡ most → (Meets MaxLen limit own → ⊥) → ⊥
      within_length None is not = not (subst (λ o. IsWithinLength o (out-Tree own)) (sym is) tt)
      within_length (Some most) is not = unbroken (TooLong most is not)

      within_range : (range : Option Span) → limit.range ≡ range → (Meets Range limit own → ⊥) → ⊥
      within_range None is not = not (subst (λ o. IsWithinRange o (out-Tree own)) (sym is) tt)
      within_range (Some span) is not = unbroken (OutOfRange span is not)

      meets : MeetsLimit limit own
      meets = record {
        length = holds (decided.within_length limit.max_len (out-Tree own)) (within_length limit.max_len refl);
        range = holds (decided.within_range limit.range (out-Tree own)) (within_range limit.range refl);
        values = holds (decided.listed limit.values own valid) (λ not. unbroken (NotAValue not));
        pattern = holds (decided.found limit.pattern (out-Tree own)) (λ not. unbroken (Pattern not));
        instant = holds (decided.instant limit.instant (out-Tree own)) (λ not. unbroken (NotAnInstant not));
      }

    abbrev IsOfBaseOf : Option Kind → Type 0
    IsOfBaseOf kind = IsSomeAnd kind (λ k. IsOfBase k.base own)

    has_base : (name : List ℕ) → attr.target ≡ target.Simple name → (kind : Option Kind) → kind_named schema name ≡ kind
        → (IsOfBaseOf kind → ⊥) → ⊥
    has_base name is_simple kind is not =
        not_wrong name (subst (λ t. IsWrongSingle schema t own name) (sym is_simple)
        (subst (λ o. IsOfBaseOf o → ⊥) (sym is) not, refl))

    of_kind : (name : List ℕ) → attr.target ≡ target.Simple name → (kind : Kind) → kind_named schema name ≡ Some kind
        → IsOfKind kind own
    of_kind name is_simple kind is =
        let base = holds (decided.of_base kind.base own) (λ not. has_base name is_simple (Some kind) is not) in (
          base,
          λ k d lt. meets name is_simple kind is base (slice_index_or kind.limits k d)
              (Contains-get_or kind.limits k d lt),
        )

    of_key : (key : Option (List ℕ)) → enum_key own ≡ key → (IsOfEnumeration attr.members own → ⊥) → ⊥
    of_key (Some detail) is not =
        fine place enum_unknown detail
        (AtValue place here enum_unknown detail is_seen
        (EnumUnknown detail (alone (λ a. IsNoKey schema a own detail) (not, is, not_wrong))))
    of_key None is not = not (no_key attr.members)
      where
        no_key : (members : List EnumMember) → IsOfEnumeration members own
        no_key [] = tt
        no_key (m ∷ ms) = subst (λ o. IfSome o (λ name. is_key (m ∷ ms) name ≡ true)) (sym is) tt

    of_simple : (name : List ℕ) → attr.target ≡ target.Simple name → (kind : Option Kind)
        → kind_named schema name ≡ kind → AcceptsSingle schema ps attr own
    of_simple name is None none = absurd (has_base name is None none (λ x. x))
    of_simple name is (Some kind) is_kind =
        OfKind attr own name kind is is_kind (of_kind name is kind is_kind)
        (holds (decided.of_enumeration attr.members own) (of_key (enum_key own) refl))

    no_object : (name : List ℕ) → attr.target ≡ target.Object name
        → (item_named schema name ≡ None) ⊎ (as_object own ≡ None) → ⊥
    no_object name is none =
        not_wrong (codes "object_t") (subst (λ t. IsWrongSingle schema t own (codes "object_t")) (sym is) (none, refl))

    of_object : (name : List ℕ) → attr.target ≡ target.Object name → (item : Option Item)
        → item_named schema name ≡ item → (members : Option (List Member)) → as_object own ≡ members
        → AcceptsSingle schema ps attr own
    of_object name is None no_item members is_members = absurd (no_object name is (inl no_item))
    of_object name is (Some item) is_item None no_members = absurd (no_object name is (inr no_members))
    of_object name is (Some item) is_item (Some members) is_members =
        OfObject attr own name item members is is_item is_members
        (object_fits place here (with_item item members) is_seen
        (ap₂ (λ i o. option_and_then (λ item. option_map (with_item item) o) i)
        (as_item ∙ ap (object_of schema) is ∙ is_item) is_members)
        below)

    of_anything : attr.target ≡ target.Anything → (members : Option (List Member)) → as_object own ≡ members
        → AcceptsSingle schema ps attr own
    of_anything is None none =
        absurd (not_wrong (codes "object_t")
        (subst (λ t. IsWrongSingle schema t own (codes "object_t")) (sym is) (none, refl)))
    of_anything is (Some members) is_members = OfAnything attr own is (ap is_some is_members)

    by_target : (t : Target) → attr.target ≡ t → AcceptsSingle schema ps attr own
    by_target (target.Simple name) is = of_simple name is (kind_named schema name) refl
    by_target (target.Object name) is = of_object name is (item_named schema name) refl (as_object own) refl
    by_target target.Anything is = of_anything is (as_object own) refl

    accepts_single : AcceptsSingle schema ps attr own
    accepts_single = by_target attr.target refl

  -- ---- whatever is seen is good

  accepts_list : (place : List Step) (attr : Attr) (value : Tree)
      → seen schema event place ≡ Some (of_attribute attr value) → attr.is_array ≡ true
      → IsGoodBelow (of_attribute attr value) → (values : Option (List Tree)) → as_list value ≡ values
      → Accepts schema ps attr value
  accepts_list place attr value is_seen array below None is =
      absurd (fine place wrong_type (codes "array")
      (AtValue place (of_attribute attr value) wrong_type (codes "array") is_seen
      (WrongType (codes "array")
      (subst (λ b. IsWrongList schema b attr.target value (codes "array")) (sym array) (is, refl)))))
  accepts_list place attr value is_seen array below (Some values) is =
      Each attr value values array is (λ one c. below (At c.0) (of_element attr one)
      (ap₂ (λ b o. if_array schema ps b c.0 attr o) array is
      ∙ ap (option_map (of_element attr)) (slice_get_at values c.0 one c.1 c.2)))

  accepts : (place : List Step) (attr : Attr) (value : Tree) → seen schema event place ≡ Some (of_attribute attr value)
      → IsValid value
      → IsGoodBelow (of_attribute attr value) → (array : Bool) → attr.is_array ≡ array → Accepts schema ps attr value
  accepts place attr value is_seen valid below true array =
      accepts_list place attr value is_seen array below (as_list value) refl
  accepts place attr value is_seen valid below false array =
      let one : single_attr (OfAttribute attr) ≡ Some attr = ap (λ b. if b then None else Some attr) array in
      Single attr value array
      (accepts_single place (of_attribute attr value) attr is_seen one
      (λ detail wrong. subst (λ b. IsWrongList schema b attr.target value detail) (sym array) wrong)
      (ap (option_and_then (λ a. object_of schema a.target)) one) valid below)

  good_here : (place : List Step) (judge : Judge) (value : Tree) → seen schema event place ≡ Some (at judge value)
      → IsValid value
      → IsGoodBelow (at judge value) → IsGood schema ps judge value
  good_here place (OfClass class) value is_seen valid below =
      λ members is. object_fits place (at (OfClass class) value) (with_item class members) is_seen
      (ap (option_map (with_item class)) is) below
  good_here place (OfAttribute attr) value is_seen valid below =
      accepts place attr value is_seen valid below attr.is_array refl
  good_here place (OfElement attr) value is_seen valid below =
      accepts_single place (at (OfElement attr) value) attr is_seen refl (λ detail wrong. wrong) refl valid below

  -- ---- further down

  from_snoc : (place : List Step) (step : Step) (start here next : Seen) → seen_from schema ps start place ≡ Some here
      → seen_at schema ps step here ≡ Some next
      → seen_from schema ps start (place ++ step ∷ []) ≡ Some next
  from_snoc [] step start here next is e =
      ap (option_and_then (λ n. seen_from schema ps n []))
      (subst (λ s. seen_at schema ps step s ≡ Some next) (sym (some_is start here is)) e)
  from_snoc (first ∷ place) step start here next is e =
      further (seen_at schema ps first start) (λ n is. from_snoc place step n here next is e) is
    where
      further : (o : Option Seen)
          → ((n : Seen) → seen_from schema ps n place ≡ Some here
          → seen_from schema ps n (place ++ step ∷ []) ≡ Some next)
          → option_and_then (λ n. seen_from schema ps n place) o ≡ Some here
          → option_and_then (λ n. seen_from schema ps n (place ++ step ∷ [])) o ≡ Some next
      further None rest is = absurd (none_is_some here is)
      further (Some n) rest is = rest n is

  seen_snoc : (place : List Step) (step : Step) (here next : Seen) → seen schema event place ≡ Some here
      → seen_at schema ps step here ≡ Some next
      → seen schema event (place ++ step ∷ []) ≡ Some next
  seen_snoc place step here next is e = from_class (class_of_event schema event) is
    where
      from_class : (class : Option Item)
          → option_and_then (λ c. seen_from schema ps (of_class event c) place) class ≡ Some here
          → option_and_then (λ c. seen_from schema ps (of_class event c) (place ++ step ∷ [])) class ≡ Some next
      from_class None is = absurd (none_is_some here is)
      from_class (Some c) is = from_snoc place step (of_class event c) here next is e

  -- ---- all the way down

  abbrev IsGoodAnywhere : Tree → Type 0
  IsGoodAnywhere value =
      IsValid value → (place : List Step) (judge : Judge) → seen schema event place ≡ Some (at judge value)
      → IsGood schema ps judge value

  from_children : (value : Tree)
      → ((step : Step) (child : Tree) → IsValid value → IsChild value step child
      → IsValid child × IsGoodAnywhere child) → IsGoodAnywhere value
  from_children value children valid place judge is_seen =
      good_here place judge value is_seen valid (λ step next e.
      let child = children step next.value valid (child_of schema ps step (at judge value) next e) in
      child.1 child.0 (place ++ step ∷ []) next.judge (seen_snoc place step (at judge value) next is_seen e))

  good_value : (value : Tree) → IsGoodAnywhere value
  good_value = by_children IsGoodAnywhere from_children

  -- ---- the event

  module _ (members : List Member) (class : Item) (number : ℕ) (is_object : as_object event ≡ Some members)
      (known : class_of schema members ≡ Some class)
      (is_number : class.class_uid ≡ Some number) (valid : IsValid event) where
    class_is : class_of_event schema event ≡ Some class
    class_is = ap (option_and_then (class_of schema)) is_object ∙ known

    fits : Fits schema ps class members
    fits =
        good_value event valid [] (OfClass class)
        (ap (option_and_then (λ c. seen_from schema ps (of_class event c) [])) class_is) members is_object

    of_event : {place : List Step} {code : ℕ} {detail : List ℕ}
        → IsWrongEvent schema event number members place code detail → ⊥
    of_event {place} {code} {detail} wrong =
        fine place code detail (OnEvent members class number place code detail is_object known is_number wrong)

    agrees : DoNumbersAgree number members
    agrees =
        holds (decided.numbers_agree number members)
        (λ not. by_activity (whole_of (codes "activity_id") members) refl not)
      where
        by_activity : (activity : Option ℤ) → whole_of (codes "activity_id") members ≡ activity
            → (DoNumbersAgree number members → ⊥) → ⊥
        by_activity (Some activity) is not = of_event (NumberMismatch activity is not)
        by_activity None is not = not (none_given (whole_of (codes "type_uid") members))
          where
            none_given : (given : Option ℤ)
                → IfSome given (λ g. IfSome (whole_of (codes "activity_id") members) (λ a. g ≡ expected_type number a))
            none_given None = tt
            none_given (Some g) = subst (λ o. IfSome o (λ a. g ≡ expected_type number a)) (sym is) tt

    each_named : (P : List ℕ → Type 0) (items : List Tree)
        → ((k : ℕ) (text : List ℕ) → option_and_then as_text (slice_get items k) ≡ Some text → P text)
        → AllByRecursion P (filter_map as_text items)
    each_named P [] all = tt
    each_named P (t ∷ ts) all =
        first (as_text t) (λ text e. all 0 text e) (each_named P ts (λ k text e. all (suc k) text e))
      where
        first : (o : Option (List ℕ)) → ((text : List ℕ) → o ≡ Some text → P text)
            → AllByRecursion P (filter_map as_text ts) → AllByRecursion P (cons_option o (filter_map as_text ts))
        first None p rest = rest
        first (Some x) p rest = (p x refl, rest)

    known_profile : (k : ℕ) (text : List ℕ) (is : Bool) → is_profile schema text ≡ is
        → option_and_then as_text (slice_get (profile_list event) k) ≡ Some text → is_profile schema text ≡ true
    known_profile k text true is e = is
    known_profile k text false is e = absurd (of_event (ProfileUnknown k text e is))

    profiles_known : AreProfilesKnown schema event
    profiles_known =
        All-from_recursion (λ p. is_profile schema p ≡ true) (named_profiles event)
        (each_named (λ p. is_profile schema p ≡ true) (profile_list event)
        (λ k text e. known_profile k text (is_profile schema text) refl e))

    allowed_with : IsAllowed schema event
    allowed_with = record {
      members = members;
      class = class;
      number = number;
      object = is_object;
      known = known;
      numbered = is_number;
      fits = fits;
      agrees = agrees;
      profiles = profiles_known;
    }

  allowed : IsValid event → IsAllowed schema event
  allowed valid = by_object (as_object event) refl
    where
      by_number : (members : List Member) (class : Item) (number : Option ℕ) → as_object event ≡ Some members
          → class_of schema members ≡ Some class
          → class.class_uid ≡ number → IsAllowed schema event
      by_number members class None is known n = absurd (class_has_number schema members class known n)
      by_number members class (Some number) is known n = allowed_with members class number is known n valid

      by_class : (members : List Member) (class : Option Item) → as_object event ≡ Some members
          → class_of schema members ≡ class → IsAllowed schema event
      by_class members None is known =
          absurd (fine (Name (codes "class_uid") ∷ []) class_unknown _ (NoClass members is known))
      by_class members (Some class) is known = by_number members class class.class_uid is known refl

      by_object : (members : Option (List Member)) → as_object event ≡ members → IsAllowed schema event
      by_object None is = absurd (fine [] wrong_type (codes "object_t") (NoObject is))
      by_object (Some members) is = by_class members (class_of schema members) is refl

pub faultless_is_allowed : FaultlessIsAllowed
faultless_is_allowed schema event valid fine = allowed schema event fine valid
