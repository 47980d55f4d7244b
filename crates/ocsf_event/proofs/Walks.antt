-- What is wrong within a value, from what is wrong with its parts.
use Rattle.std.proofs.Common.{◌≡◌, ℕ, List, Bool, true, false, Option, Some, None, inl, inr, refl, sym, ◌∙◌, ap, subst, if◌then◌else◌}
use Rattle.std.specs.Prelude.{slice_get, IsSomeAnd, codes}
use Rattle.std.specs.Option.{option_map, option_and_then}
use Rattle.std.proofs.lemmas.Option.{none-some, same_Some}
use Rattle.ocsf_tree.specs.declared.tree.Tree.{Tree, out-Tree}
use Rattle.ocsf_tree.specs.declared.tree.Tree.TheOpen.{Tree-F}
use Rattle.ocsf_tree.specs.declared.tree.Member.{Member}
use Rattle.ocsf_tree.specs.declared.place.Step.{Step}
use Rattle.ocsf_tree.specs.declared.place.Step.TheVariants.{At, Name}
use Rattle.ocsf_schema.specs.declared.records.Attr.{Attr}
use Rattle.ocsf_schema.specs.declared.records.Item.{Item}
use Rattle.ocsf_schema.specs.declared.records.Target.{Target}
use Rattle.ocsf_schema.specs.declared.records.Target.TheVariants as target
use Rattle.ocsf_schema.specs.declared.parts.SchemaParts.{SchemaParts}
use Rattle.ocsf_event.specs.declared.violation.Wrong.{Wrong}
use Rattle.ocsf_event.specs.declared.violation.Wrong.TheVariants as code
use Rattle.ocsf_event.specs.declared.violation.Violation.{Violation}
use Rattle.ocsf_event_rules.specs.Profiles.{as_list}
use Rattle.ocsf_event_rules.specs.Conditions.{key_in, enum_key}
use Rattle.ocsf_event_rules.specs.EventClass.{as_object, item_named}
use Rattle.ocsf_tree.specs.Lookup.{members_of}
use Rattle.ocsf_event_rules.specs.Judged.{OfAttribute, Seen, ItemObject, with_item, object_of, single_attr, object_seen, member_seen, element_seen, seen_at, of_attribute, of_element, of_class}
use Rattle.ocsf_event_rules.specs.Violations.{IsWrongSingle, IsWrongList, IsNoKey}
use Rattle.ocsf_event.specs.ByCode.{BreaksLimit, IsWrongValue, IsWrongMember, IsWrongObject}
use Rattle.ocsf_event.specs.Walk.{IsThis, IsWithin, Here, OfMember, OfObject, Deeper, InObject, AtMember, AtObject, BelowMember, InItems, at_position, WantsObject, IsUnfit}

-- an object is no key
no_key_in : (x : Tree-F Tree Member) (detail : List ℕ) (ms : List Member) → key_in x ≡ Some detail → members_of x ≡ Some ms → ⊥
no_key_in Tree-F.Null detail ms e h = none-some ms h
no_key_in (Tree-F.Flag b) detail ms e h = none-some ms h
no_key_in (Tree-F.Whole z) detail ms e h = none-some ms h
no_key_in (Tree-F.Words t) detail ms e h = none-some ms h
no_key_in (Tree-F.List ts) detail ms e h = none-some ms h
no_key_in (Tree-F.Members ns) detail ms e h = none-some detail e

no_key : (value : Tree) (detail : List ℕ) (ms : List Member) → enum_key value ≡ Some detail → as_object value ≡ Some ms → ⊥
no_key value detail ms e h = no_key_in (out-Tree value) detail ms e h

module _ (schema : SchemaParts) (profiles : List (List ℕ)) where
  abbrev Within : Seen → List Step → Violation → Type 0
  Within = IsWithin schema profiles

  -- only what it is, what it has and what is wrong with it as a value counts
  pub within_alike : {here : Seen} {place : List Step} {v : Violation} (there : Seen)
      → ((c : Wrong) (detail : List ℕ) → IsWrongValue schema here c detail → IsWrongValue schema there c detail)
      → object_seen schema here ≡ object_seen schema there
      → ((step : Step) → seen_at schema profiles step here ≡ seen_at schema profiles step there)
      → Within here place v → Within there place v
  within_alike there values objects steps (Here here place v is w) = Here there place v is (values v.code v.detail w)
  within_alike there values objects steps (OfMember here place v object name seen is w) = OfMember there place v object name (sym objects ∙ seen) is w
  within_alike there values objects steps (OfObject here place v object seen is w) = OfObject there place v object (sym objects ∙ seen) is w
  within_alike there values objects steps (Deeper here place v step next seen w) = Deeper there place v step next (sym (steps step) ∙ seen) w

  -- ---- an object that is judged

  pub from_object : (here : Seen) (place : List Step) (v : Violation) (object : ItemObject) → object_seen schema here ≡ Some object
      → InObject schema profiles object place v → Within here place v
  from_object here place v object seen (AtMember name is w) = OfMember here place v object name seen is w
  from_object here place v object seen (AtObject is w) = OfObject here place v object seen is w
  from_object here place v object seen (BelowMember name next is w) =
      Deeper here place v (Name name) next (ap (option_and_then (member_seen profiles name)) seen ∙ is) w

  pub to_object : {here : Seen} {place : List Step} {v : Violation} (object : ItemObject) → object_seen schema here ≡ Some object
      → ((c : Wrong) (detail : List ℕ) → IsWrongValue schema here c detail → ⊥)
      → ((position : ℕ) → element_seen position here ≡ None)
      → Within here place v → InObject schema profiles object place v
  to_object object seen values elements (Here here place v is w) = absurd (values v.code v.detail w)
  to_object object seen values elements (OfMember here place v other name found is w) =
      let same : other ≡ object = same_Some other object (sym found ∙ seen) in
      AtMember name is (subst (λ o. IsWrongMember profiles o name v.code v.detail) same w)
  to_object object seen values elements (OfObject here place v other found is w) =
      let same : other ≡ object = same_Some other object (sym found ∙ seen) in
      AtObject is (subst (λ o. IsWrongObject profiles o v.code v.detail) same w)
  to_object object seen values elements (Deeper here place v (Name name) next found w) =
      BelowMember name next (sym (ap (option_and_then (member_seen profiles name)) seen) ∙ found) w
  to_object object seen values elements (Deeper here place v (At position) next found w) =
      absurd (none-some next (sym (elements position) ∙ found))

  -- ---- the class of the event

  class_right : (event : Tree) (class : Item) (c : Wrong) (detail : List ℕ) → IsWrongValue schema (of_class event class) c detail → ⊥
  class_right event class code.WrongType detail w = w
  class_right event class code.EnumUnknown detail w = w
  class_right event class c detail w = w

  pub class_seen : (event : Tree) (class : Item) (members : List Member) → as_object event ≡ Some members
      → object_seen schema (of_class event class) ≡ Some (with_item class members)
  class_seen event class members is = ap (option_map (with_item class)) is

  pub within_class : (event : Tree) (class : Item) (members : List Member) (place : List Step) (v : Violation) → as_object event ≡ Some members
      → Within (of_class event class) place v → InObject schema profiles (with_item class members) place v
  within_class event class members place v is w =
      to_object (with_item class members) (class_seen event class members is) (class_right event class) (λ position. refl) w

  -- ---- a value that no item judges

  pub to_leaf : {here : Seen} {place : List Step} {v : Violation} → object_seen schema here ≡ None
      → ((position : ℕ) → element_seen position here ≡ None)
      → Within here place v → (v.place.steps ≡ place) × IsWrongValue schema here v.code v.detail
  to_leaf none elements (Here here place v is w) = (is, w)
  to_leaf none elements (OfMember here place v object name found is w) = absurd (none-some object (sym none ∙ found))
  to_leaf none elements (OfObject here place v object found is w) = absurd (none-some object (sym none ∙ found))
  to_leaf none elements (Deeper here place v (Name name) next found w) =
      absurd (none-some next (sym (ap (option_and_then (member_seen profiles name)) none) ∙ found))
  to_leaf none elements (Deeper here place v (At position) next found w) =
      absurd (none-some next (sym (elements position) ∙ found))

  -- ---- an attribute that isn't an array takes a single value

  module _ (attr : Attr) (value : Tree) (one : attr.is_array ≡ false) where
    abbrev single_if : Bool → Option Attr
    single_if array = if array then None else Some attr

    single : single_attr (OfAttribute attr) ≡ Some attr
    single = ap single_if one

    object_alike : object_seen schema (of_attribute attr value) ≡ object_seen schema (of_element attr value)
    object_alike = ap (λ o. option_and_then (λ item. option_map (with_item item) (as_object value)) (option_and_then (λ a. object_of schema a.target) o)) single

    no_elements : (position : ℕ) → element_seen position (of_attribute attr value) ≡ None
    no_elements position = ap (λ b. if b then option_map (of_element attr) (option_and_then (λ values. slice_get values position) (as_list value)) else None) one

    step_alike : (step : Step) → seen_at schema profiles step (of_attribute attr value) ≡ seen_at schema profiles step (of_element attr value)
    step_alike (Name name) = ap (option_and_then (member_seen profiles name)) object_alike
    step_alike (At position) = no_elements position

    value_there : (c : Wrong) (detail : List ℕ) → IsWrongValue schema (of_attribute attr value) c detail → IsWrongValue schema (of_element attr value) c detail
    value_there code.WrongType detail w = subst (λ b. IsWrongList schema b attr.target value detail) one w
    value_there code.EnumUnknown detail w = subst (λ o. IsSomeAnd o (λ a. IsNoKey schema a value detail)) single w
    value_there c detail w = subst (λ o. IsSomeAnd o (λ a. BreaksLimit schema a.target value c detail)) single w

    value_back : (c : Wrong) (detail : List ℕ) → IsWrongValue schema (of_element attr value) c detail → IsWrongValue schema (of_attribute attr value) c detail
    value_back code.WrongType detail w = subst (λ b. IsWrongList schema b attr.target value detail) (sym one) w
    value_back code.EnumUnknown detail w = subst (λ o. IsSomeAnd o (λ a. IsNoKey schema a value detail)) (sym single) w
    value_back c detail w = subst (λ o. IsSomeAnd o (λ a. BreaksLimit schema a.target value c detail)) (sym single) w

    pub single_there : (place : List Step) (v : Violation) → Within (of_attribute attr value) place v → Within (of_element attr value) place v
    single_there place v w = within_alike (of_element attr value) value_there object_alike step_alike w

    pub single_back : (place : List Step) (v : Violation) → Within (of_element attr value) place v → Within (of_attribute attr value) place v
    single_back place v w = within_alike (of_attribute attr value) value_back (sym object_alike) (λ step. sym (step_alike step)) w

  -- ---- an attribute that is an array takes a list

  module _ (attr : Attr) (value : Tree) (array : attr.is_array ≡ true) where
    abbrev element_if : Bool → ℕ → Option Seen
    element_if b position = if b then option_map (of_element attr) (option_and_then (λ values. slice_get values position) (as_list value)) else None

    no_single : single_attr (OfAttribute attr) ≡ None
    no_single = ap (λ b. if b then None else Some attr) array

    no_object : object_seen schema (of_attribute attr value) ≡ None
    no_object = ap (λ o. option_and_then (λ item. option_map (with_item item) (as_object value)) (option_and_then (λ a. object_of schema a.target) o)) no_single

    list_wrong : (c : Wrong) (detail : List ℕ) → IsWrongValue schema (of_attribute attr value) c detail
        → (as_list value ≡ None) × (c ≡ code.WrongType) × (detail ≡ codes "array")
    list_wrong code.WrongType detail w = let parts = subst (λ b. IsWrongList schema b attr.target value detail) array w in (parts.0, refl, parts.1)
    list_wrong code.EnumUnknown detail w = absurd (subst (λ o. IsSomeAnd o (λ a. IsNoKey schema a value detail)) no_single w)
    list_wrong c detail w = absurd (subst (λ o. IsSomeAnd o (λ a. BreaksLimit schema a.target value c detail)) no_single w)

    picked : (o : Option Tree) (next : Seen) (P : Seen → Type 0) → option_map (of_element attr) o ≡ Some next → P next → (one : Tree) × (o ≡ Some one) × P (of_element attr one)
    picked None next P e p = absurd (none-some next e)
    picked (Some one) next P e p = (one, refl, subst P (sym (same_Some (of_element attr one) next e)) p)

    module _ (items : List Tree) (is : as_list value ≡ Some items) where
      element_is : (position : ℕ) → element_seen position (of_attribute attr value) ≡ option_map (of_element attr) (slice_get items position)
      element_is position = ap (λ b. element_if b position) array ∙ ap (λ o. option_map (of_element attr) (option_and_then (λ values. slice_get values position) o)) is

      to_items_of : {here : Seen} {place : List Step} {v : Violation} → here ≡ of_attribute attr value → Within here place v → InItems schema profiles attr items place v
      to_items_of same (Here here place v at w) =
          absurd (none-some items (sym (list_wrong v.code v.detail (subst (λ h. IsWrongValue schema h v.code v.detail) same w)).0 ∙ is))
      to_items_of same (OfMember here place v object name found at w) = absurd (none-some object (sym no_object ∙ sym (ap (object_seen schema) same) ∙ found))
      to_items_of same (OfObject here place v object found at w) = absurd (none-some object (sym no_object ∙ sym (ap (object_seen schema) same) ∙ found))
      to_items_of same (Deeper here place v (Name name) next found w) =
          absurd (none-some next (sym (ap (option_and_then (member_seen profiles name)) (ap (object_seen schema) same ∙ no_object)) ∙ found))
      to_items_of same (Deeper here place v (At position) next found w) =
          let parts = picked (slice_get items position) next (λ n. Within n (at_position place position) v) (sym (element_is position) ∙ sym (ap (element_seen position) same) ∙ found) w in
          record { at = position; item = parts.0; found = parts.1; holds = parts.2 }

      pub to_items : (place : List Step) (v : Violation) → Within (of_attribute attr value) place v → InItems schema profiles attr items place v
      to_items place v w = to_items_of refl w

      pub from_items : (place : List Step) (v : Violation) → InItems schema profiles attr items place v → Within (of_attribute attr value) place v
      from_items place v e = Deeper (of_attribute attr value) place v (At e.at) (of_element attr e.item) (element_is e.at ∙ ap (option_map (of_element attr)) e.found) e.holds

    module _ (none : as_list value ≡ None) where
      no_element : (position : ℕ) → element_seen position (of_attribute attr value) ≡ None
      no_element position = ap (λ b. element_if b position) array ∙ ap (λ o. option_map (of_element attr) (option_and_then (λ values. slice_get values position) o)) none

      pub to_no_list : (place : List Step) (v : Violation) → Within (of_attribute attr value) place v → IsThis place code.WrongType (codes "array") v
      to_no_list place v w =
          let leaf = to_leaf no_object no_element w in
          let parts = list_wrong v.code v.detail leaf.1 in
          record { where_it_is = leaf.0; what_it_is = parts.1; told_as = parts.2 }

      pub from_no_list : (place : List Step) (v : Violation) → IsThis place code.WrongType (codes "array") v → Within (of_attribute attr value) place v
      from_no_list place v this = Here (of_attribute attr value) place v this.where_it_is
          (subst (λ c. IsWrongValue schema (of_attribute attr value) c v.detail) (sym this.what_it_is)
          (subst (λ b. IsWrongList schema b attr.target value v.detail) (sym array) (none, this.told_as)))

  -- ---- a single value

  pub to_simple : (attr : Attr) (value : Tree) (place : List Step) (v : Violation) → object_of schema attr.target ≡ None
      → Within (of_element attr value) place v → (v.place.steps ≡ place) × IsWrongValue schema (of_element attr value) v.code v.detail
  to_simple attr value place v none w =
      to_leaf (ap (option_and_then (λ item. option_map (with_item item) (as_object value))) none) (λ position. refl) w

  pub from_simple : (attr : Attr) (value : Tree) (place : List Step) (v : Violation)
      → (v.place.steps ≡ place) × IsWrongValue schema (of_element attr value) v.code v.detail → Within (of_element attr value) place v
  from_simple attr value place v w = Here (of_element attr value) place v w.0 w.1

  single_there_of : (t : Target) (value : Tree) (detail : List ℕ) → WantsObject t → IsWrongSingle schema t value detail → IsUnfit schema t value × (detail ≡ codes "object_t")
  single_there_of (target.Simple name) value detail wants w = absurd wants
  single_there_of (target.Object name) value detail wants w = w
  single_there_of target.Anything value detail wants w = w

  single_back_of : (t : Target) (value : Tree) (detail : List ℕ) → WantsObject t → IsUnfit schema t value × (detail ≡ codes "object_t") → IsWrongSingle schema t value detail
  single_back_of (target.Simple name) value detail wants w = absurd wants
  single_back_of (target.Object name) value detail wants w = w
  single_back_of target.Anything value detail wants w = w

  -- what is no object is unfit wherever one is wanted
  pub unfit_none : (t : Target) (value : Tree) → WantsObject t → as_object value ≡ None → IsUnfit schema t value
  unfit_none (target.Simple name) value wants none = absurd wants
  unfit_none (target.Object name) value wants none = inr none
  unfit_none target.Anything value wants none = none

  -- nor is any value fit where the schema has no object of that name
  pub unfit_unnamed : (t : Target) (value : Tree) (name : List ℕ) → t ≡ target.Object name → object_of schema t ≡ None → IsUnfit schema t value
  unfit_unnamed t value name is none = subst (λ u. IsUnfit schema u value) (sym is) (inl (ap (object_of schema) (sym is) ∙ none))

  -- an object with an item to judge it is fit
  fit : (t : Target) (value : Tree) (item : Item) (members : List Member) → object_of schema t ≡ Some item → as_object value ≡ Some members → IsUnfit schema t value → ⊥
  fit (target.Simple name) value item members judge is unfit = unfit
  fit (target.Object name) value item members judge is (inl none) = none-some item (sym none ∙ judge)
  fit (target.Object name) value item members judge is (inr none) = none-some members (sym none ∙ is)
  fit target.Anything value item members judge is none = none-some members (sym none ∙ is)

  unseen : (value : Tree) (o : Option Item) → as_object value ≡ None → option_and_then (λ item. option_map (with_item item) (as_object value)) o ≡ None
  unseen value None none = refl
  unseen value (Some item) none = ap (option_map (with_item item)) none

  unfit_unseen : (t : Target) (value : Tree) → IsUnfit schema t value → option_and_then (λ item. option_map (with_item item) (as_object value)) (object_of schema t) ≡ None
  unfit_unseen (target.Simple name) value unfit = absurd unfit
  unfit_unseen (target.Object name) value (inl none) = ap (option_and_then (λ item. option_map (with_item item) (as_object value))) none
  unfit_unseen (target.Object name) value (inr none) = unseen value (item_named schema name) none
  unfit_unseen target.Anything value none = refl

  no_limit : (t : Target) (value : Tree) (c : Wrong) (detail : List ℕ) → WantsObject t → BreaksLimit schema t value c detail → ⊥
  no_limit (target.Simple name) value c detail wants w = wants
  no_limit (target.Object name) value c detail wants w = w
  no_limit target.Anything value c detail wants w = w

  module _ (attr : Attr) (value : Tree) (wants : WantsObject attr.target) where
    no_limit_here : (c : Wrong) (detail : List ℕ) → BreaksLimit schema attr.target value c detail → ⊥
    no_limit_here c detail w = no_limit attr.target value c detail wants w

    wrong_object : (c : Wrong) (detail : List ℕ) → IsWrongValue schema (of_element attr value) c detail
        → IsUnfit schema attr.target value × (c ≡ code.WrongType) × (detail ≡ codes "object_t")
    wrong_object code.WrongType detail w = let parts = single_there_of attr.target value detail wants w in (parts.0, refl, parts.1)
    wrong_object code.EnumUnknown detail w = absurd (by_object (as_object value) refl w)
      where
        by_object : (o : Option (List Member)) → as_object value ≡ o → IsNoKey schema attr value detail → ⊥
        by_object None is w = w.2 (codes "object_t") (single_back_of attr.target value (codes "object_t") wants (unfit_none attr.target value wants is, refl))
        by_object (Some ms) is w = no_key value detail ms w.1 is
    wrong_object c detail w = absurd (no_limit_here c detail w)

    module _ (unfit : IsUnfit schema attr.target value) where
      pub to_unfit : (place : List Step) (v : Violation) → Within (of_element attr value) place v → IsThis place code.WrongType (codes "object_t") v
      to_unfit place v w =
          let leaf = to_leaf (unfit_unseen attr.target value unfit) (λ position. refl) w in
          let parts = wrong_object v.code v.detail leaf.1 in
          record { where_it_is = leaf.0; what_it_is = parts.1; told_as = parts.2 }

      pub from_unfit : (place : List Step) (v : Violation) → IsThis place code.WrongType (codes "object_t") v → Within (of_element attr value) place v
      from_unfit place v this = Here (of_element attr value) place v this.where_it_is
          (subst (λ c. IsWrongValue schema (of_element attr value) c v.detail) (sym this.what_it_is)
          (single_back_of attr.target value v.detail wants (unfit, this.told_as)))

    module _ (members : List Member) (is : as_object value ≡ Some members) where
      -- where anything may be, its members are judged by no item
      pub nothing_within : (place : List Step) (v : Violation) → attr.target ≡ target.Anything → Within (of_element attr value) place v → ⊥
      nothing_within place v any w =
          let none : object_of schema attr.target ≡ None = ap (object_of schema) any in
          let leaf = to_leaf (ap (option_and_then (λ item. option_map (with_item item) (as_object value))) none) (λ position. refl) w in
          none-some members (sym (subst (λ t. IsUnfit schema t value) any (wrong_object v.code v.detail leaf.1).0) ∙ is)

      module _ (item : Item) (judge : object_of schema attr.target ≡ Some item) where
        object_is : object_seen schema (of_element attr value) ≡ Some (with_item item members)
        object_is = ap (option_and_then (λ i. option_map (with_item i) (as_object value))) judge ∙ ap (option_map (with_item item)) is

        pub to_judged : (place : List Step) (v : Violation) → Within (of_element attr value) place v → InObject schema profiles (with_item item members) place v
        to_judged place v w = to_judged_of refl w
          where
            to_judged_of : {here : Seen} {p : List Step} {u : Violation} → here ≡ of_element attr value → Within here p u → InObject schema profiles (with_item item members) p u
            to_judged_of same (Here here p u at w) =
                absurd (fit attr.target value item members judge is (wrong_object u.code u.detail (subst (λ h. IsWrongValue schema h u.code u.detail) same w)).0)
            to_judged_of same (OfMember here p u o name found at w) =
                let one : o ≡ with_item item members = same_Some o (with_item item members) (sym found ∙ ap (object_seen schema) same ∙ object_is) in
                AtMember name at (subst (λ x. IsWrongMember profiles x name u.code u.detail) one w)
            to_judged_of same (OfObject here p u o found at w) =
                let one : o ≡ with_item item members = same_Some o (with_item item members) (sym found ∙ ap (object_seen schema) same ∙ object_is) in
                AtObject at (subst (λ x. IsWrongObject profiles x u.code u.detail) one w)
            to_judged_of same (Deeper here p u (Name name) next found w) =
                BelowMember name next (sym (ap (option_and_then (member_seen profiles name)) (ap (object_seen schema) same ∙ object_is)) ∙ found) w
            to_judged_of same (Deeper here p u (At position) next found w) = absurd (none-some next (sym (ap (element_seen position) same) ∙ found))

        pub from_judged : (place : List Step) (v : Violation) → InObject schema profiles (with_item item members) place v → Within (of_element attr value) place v
        from_judged place v e = from_object (of_element attr value) place v (with_item item members) object_is e
