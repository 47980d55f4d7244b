-- Nothing is wrong with an event that is allowed.
use Rattle.std.proofs.Common.{◌≡◌, ℕ, List, [], ◌∷◌, Bool, true, false, true≢false, Option, Some, None, refl, sym, ◌∙◌}
use Rattle.std.proofs.Common.{ap, subst, if◌then◌else◌}
use Rattle.std.proofs.Common.{suc, zero, inl, inr}
use Rattle.std.specs.List.{AllByRecursion, cons_option}
use Rattle.std.specs.Prelude.{◌&&◌, filter, filter_map, Contains, IsSomeAnd, slice_get, is_some}
use Rattle.std.specs.Option.{option_map, option_and_then}
use Rattle.std.proofs.lemmas.Option.{slice_get_within, get_or_from_slice_get}
use Rattle.std.proofs.lemmas.List.Elements.{All-contains, recursion_from_All}
use Rattle.ocsf_tree.specs.declared.tree.Tree.{Tree, out-Tree}
use Rattle.ocsf_tree.specs.declared.tree.Tree.TheOpen.{Tree-F}
use Rattle.ocsf_tree.specs.declared.tree.Member.{Member}
use Rattle.ocsf_lists.specs.ByName.{at_name}
use Rattle.ocsf_tree.specs.declared.place.Step.{Step}
use Rattle.ocsf_tree.specs.declared.place.Step.TheVariants.{At, Name}
use Rattle.ocsf_tree.specs.declared.attribute.Requirement.TheVariants.{Required}
use Rattle.ocsf_lists.specs.Among.{is_among}
use Rattle.ocsf_tree.specs.Lookup.{members_of}
use Rattle.ocsf_event_rules.specs.EventLaws.{AllowedIsFaultless}
use Rattle.ocsf_schema.specs.declared.records.Attr.{Attr}
use Rattle.ocsf_schema.specs.declared.records.Item.{Item}
use Rattle.ocsf_schema.specs.declared.records.Kind.{Kind}
use Rattle.ocsf_schema.specs.declared.records.Limit.{Limit}
use Rattle.ocsf_schema.specs.declared.parts.SchemaParts.{SchemaParts}
use Rattle.ocsf_event_rules.specs.Profiles.{as_list, as_text, profile_list, is_in_force, is_profile, named_profiles}
use Rattle.ocsf_event_rules.specs.EventClass.{as_object, value_of, item_named, attribute_named, class_of}
use Rattle.ocsf_event_rules.specs.EventClass.{class_of_event}
use Rattle.ocsf_event_rules.specs.Allowed.{Fits, Open, Closed, FitsMember, Member_of, Accepts, Single, Each}
use Rattle.ocsf_event_rules.specs.Allowed.{AcceptsSingle, OfKind, OfObject, OfAnything, IsAllowed}
use Rattle.ocsf_event_rules.specs.Conditions.{IsOfBase, IsOfKind, MeetsLimit, key_in, listed_in_force, HasOneOrMore}
use Rattle.ocsf_event_rules.specs.Conditions.{HasJustOne}
use Rattle.ocsf_event_rules.specs.Violations.{IsWrongSingle, IsWrongList, IsWrongType, IsLimitBroken, BreaksLimit}
use Rattle.ocsf_event_rules.specs.Violations.{IsNoKey, IsWrongValue, IsWrongMember, IsWrongObject, IsWrongEvent}
use Rattle.ocsf_event_rules.specs.Violations.{TooLong, OutOfRange, Pattern, NotAnInstant, NotAValue, WrongType}
use Rattle.ocsf_event_rules.specs.Violations.{BrokenLimit, EnumUnknown, Unknown, Inactive, Missing, NoneOfThem}
use Rattle.ocsf_event_rules.specs.Violations.{NotJustOne, NumberMismatch, ProfileUnknown, IsViolation, NoObject}
use Rattle.ocsf_event_rules.specs.Violations.{NoClass, AtValue, AtMember, AtObject, OnEvent}
use Rattle.ocsf_event_rules.specs.Judged.{Judge, OfClass, OfAttribute, OfElement, Seen, ItemObject, with_item}
use Rattle.ocsf_event_rules.specs.Judged.{object_of, item_of, single_attr, object_seen, of_attribute, of_element}
use Rattle.ocsf_event_rules.specs.Judged.{attribute_in_force, member_seen, element_of, element_seen, seen_at, seen_from}
use Rattle.ocsf_event_rules.specs.Judged.{of_class, seen}

pub none_is_some : {X : Type 0} (x : X) → None ≡ Some x → ⊥
none_is_some x e = cc

pub some_is : {X : Type 0} (x y : X) → Some x ≡ Some y → x ≡ y
some_is x y e = cc

contained : {X : Type 0} (xs : List X) (k : ℕ) (x : X) → slice_get xs k ≡ Some x → Contains xs x
contained xs k x e = (k, slice_get_within xs k x e, get_or_from_slice_get xs k x x e)

module _ (schema : SchemaParts) (profiles : List (List ℕ)) where
  abbrev pub IsGood : Judge → Tree → Type 0
  IsGood (OfClass class) value =
      (members : List Member) → as_object value ≡ Some members → Fits schema profiles class members
  IsGood (OfAttribute attr) value = Accepts schema profiles attr value
  IsGood (OfElement attr) value = AcceptsSingle schema profiles attr value

  single_of : {attr : Attr} {value : Tree} → Accepts schema profiles attr value → attr.is_array ≡ false
      → AcceptsSingle schema profiles attr value
  single_of (Single attr value array one) e = one
  single_of (Each attr value values array list each) e = absurd (true≢false (sym array ∙ e))

  -- the object that a value is, if it is judged by an item
  abbrev judged : Option Item → Tree → Option ItemObject
  judged item value = option_and_then (λ item. option_map (with_item item) (as_object value)) item

  of_single : {attr : Attr} {value : Tree} (object : ItemObject) → AcceptsSingle schema profiles attr value
      → judged (object_of schema attr.target) value ≡ Some object → Fits schema profiles object.item object.members
  of_single object (OfKind attr value name kind named is_kind takes key) e =
      absurd (none_is_some object (subst (λ t. judged (object_of schema t) value ≡ Some object) named e))
  of_single object (OfAnything attr value named some) e =
      absurd (none_is_some object (subst (λ t. judged (object_of schema t) value ≡ Some object) named e))
  of_single object (OfObject attr value name item members named is_item is fits) e =
      subst (λ (o : ItemObject). Fits schema profiles o.item o.members)
      (some_is (with_item item members) object
      (subst (λ i. option_and_then (λ item. option_map (with_item item) (Some members)) i ≡ Some object) is_item
      (subst (λ o. option_and_then (λ item. option_map (with_item item) o) (item_named schema name) ≡ Some object) is
      (subst (λ t. judged (object_of schema t) value ≡ Some object) named e))))
      fits

  of_list : (attr : Attr) (value : Tree) (object : ItemObject) (array : Bool) → attr.is_array ≡ array
      → judged (option_and_then (λ a. object_of schema a.target) (if array then None else Some attr)) value
      ≡ Some object
      → Accepts schema profiles attr value → Fits schema profiles object.item object.members
  of_list attr value object true array e good = absurd (none_is_some object e)
  of_list attr value object false array e good = of_single object (single_of good array) e

  of_root : (class : Item) (members : Option (List Member)) (object : ItemObject)
      → option_map (with_item class) members ≡ Some object
      → ((ms : List Member) → members ≡ Some ms → Fits schema profiles class ms)
      → Fits schema profiles object.item object.members
  of_root class None object e fits = absurd (none_is_some object e)
  of_root class (Some ms) object e fits =
      subst (λ (o : ItemObject). Fits schema profiles o.item o.members) (some_is (with_item class ms) object e)
      (fits ms refl)

  -- an object that an item judges fits it
  good_object : (judge : Judge) (value : Tree) (object : ItemObject) → IsGood judge value
      → judged (item_of schema judge) value ≡ Some object
      → Fits schema profiles object.item object.members
  good_object (OfClass class) value object good e = of_root class (as_object value) object e good
  good_object (OfAttribute attr) value object good e = of_list attr value object attr.is_array refl e good
  good_object (OfElement attr) value object good e = of_single object good e

  -- ---- one step

  abbrev pub picked : Option Attr → Option Tree → Option Seen
  picked attr value = option_and_then (λ attr. option_map (of_attribute attr) value) attr

  abbrev pub if_in_force : Bool → Attr → Option Attr
  if_in_force force attr = if force then Some attr else None

  nothing_picked : (attr : Option Attr) (next : Seen) → picked attr None ≡ Some next → ⊥
  nothing_picked None next e = none_is_some next e
  nothing_picked (Some attr) next e = none_is_some next e

  abbrev pub IsGoodSeen : Seen → Type 0
  IsGoodSeen here = IsGood here.judge here.value

  good_member : {item : Item} {name : List ℕ} {value : Tree} (next : Seen) → FitsMember schema profiles item name value
      → picked (attribute_in_force profiles item name) (Some value) ≡ Some next → IsGoodSeen next
  good_member next (Member_of item name value attr named force accepts) e =
      subst IsGoodSeen
      (some_is (of_attribute attr value) next
      (subst (λ b. picked (if_in_force b attr) (Some value) ≡ Some next) force
      (subst (λ a. picked (option_and_then (λ attr. if_in_force (is_in_force profiles attr) attr) a) (Some value)
      ≡ Some next) named e)))
      accepts

  good_closed : (item : Item) (name : List ℕ) (value : Option Tree) (next : Seen)
      → ((one : Tree) → value ≡ Some one → FitsMember schema profiles item name one)
      → picked (attribute_in_force profiles item name) value ≡ Some next → IsGoodSeen next
  good_closed item name None next fits e = absurd (nothing_picked (attribute_in_force profiles item name) next e)
  good_closed item name (Some one) next fits e = good_member next (fits one refl) e

  good_below : {item : Item} {members : List Member} (name : List ℕ) (next : Seen) → Fits schema profiles item members
      → picked (attribute_in_force profiles item name) (value_of name members) ≡ Some next → IsGoodSeen next
  good_below name next (Open item members none) e =
      absurd (none_is_some next
      (subst (λ attrs. picked (option_and_then (λ attr. if_in_force (is_in_force profiles attr) attr)
      (at_name (λ (a : Attr). a.name) name attrs)) (value_of name members) ≡ Some next) none e))
  good_below name next (Closed item members each required more one) e =
      good_closed item name (value_of name members) next (each name) e

  of_element_good : (attr : Attr) (element : Option Tree) (next : Seen)
      → ((one : Tree) → element ≡ Some one → AcceptsSingle schema profiles attr one)
      → option_map (of_element attr) element ≡ Some next → IsGoodSeen next
  of_element_good attr None next good e = absurd (none_is_some next e)
  of_element_good attr (Some one) next good e = subst IsGoodSeen (some_is (of_element attr one) next e) (good one refl)

  abbrev pub if_array : Bool → ℕ → Attr → Option (List Tree) → Option Seen
  if_array array position attr values =
      if array then option_map (of_element attr) (option_and_then (λ values. slice_get values position) values)
      else None

  good_element : {attr : Attr} {value : Tree} (position : ℕ) (next : Seen) → Accepts schema profiles attr value
      → element_of position attr value ≡ Some next → IsGoodSeen next
  good_element position next (Single attr value array one) e =
      absurd (none_is_some next (subst (λ b. if_array b position attr (as_list value) ≡ Some next) array e))
  good_element position next (Each attr value values array list each) e =
      of_element_good attr (slice_get values position) next (λ one is. each one (contained values position one is))
      (subst (λ o. if_array true position attr o ≡ Some next) list
      (subst (λ b. if_array b position attr (as_list value) ≡ Some next) array e))

  good_object_below : (name : List ℕ) (object : Option ItemObject) (next : Seen)
      → ((o : ItemObject) → object ≡ Some o → Fits schema profiles o.item o.members)
      → option_and_then (member_seen profiles name) object ≡ Some next → IsGoodSeen next
  good_object_below name None next fits e = absurd (none_is_some next e)
  good_object_below name (Some o) next fits e = good_below name next (fits o refl) e

  good_step : (step : Step) (here next : Seen) → IsGoodSeen here → seen_at schema profiles step here ≡ Some next
      → IsGoodSeen next
  good_step (Name name) here next good e =
      good_object_below name (object_seen schema here) next (λ o is. good_object here.judge here.value o good is) e
  good_step (At position) here next good e = good_place here.judge here.value good e
    where
      good_place : (judge : Judge) (value : Tree) → IsGood judge value
          → element_seen position (record { judge = judge; value = value }) ≡ Some next → IsGoodSeen next
      good_place (OfClass class) value good e = absurd (none_is_some next e)
      good_place (OfElement attr) value good e = absurd (none_is_some next e)
      good_place (OfAttribute attr) value good e = good_element position next good e

  -- what is seen from there is good
  good_from : (place : List Step) (here next : Seen) → IsGoodSeen here
      → seen_from schema profiles here place ≡ Some next → IsGoodSeen next
  good_from [] here next good e = subst IsGoodSeen (some_is here next e) good
  good_from (step ∷ place) here next good e =
      further (seen_at schema profiles step here) (λ n is. good_step step here n good is)
      (λ n is e. good_from place n next is e) e
    where
      further : (o : Option Seen) → ((n : Seen) → o ≡ Some n → IsGoodSeen n)
          → ((n : Seen) → IsGoodSeen n → seen_from schema profiles n place ≡ Some next → IsGoodSeen next)
          → option_and_then (λ n. seen_from schema profiles n place) o ≡ Some next → IsGoodSeen next
      further None fits rest e = absurd (none_is_some next e)
      further (Some n) fits rest e = rest n (fits n refl) e

  -- ---- nothing is wrong with a value that is good

  none_some : {X : Type 0} (o : Option X) (x : X) → o ≡ Some x → o ≡ None → ⊥
  none_some o x e n = none_is_some x (sym n ∙ e)

  none_there : {X : Type 0} (o : Option X) → is_some o ≡ true → o ≡ None → ⊥
  none_there o e n = true≢false (sym e ∙ ap is_some n)

  not_wrong_single : {attr : Attr} {value : Tree} (detail : List ℕ) → AcceptsSingle schema profiles attr value
      → IsWrongSingle schema attr.target value detail → ⊥
  not_wrong_single detail (OfKind attr value name kind named is_kind takes key) wrong =
      (subst (λ t. IsWrongSingle schema t value detail) named wrong).0
      (subst (λ o. IsSomeAnd o (λ k. IsOfBase k.base value)) (sym is_kind) takes.0)
  not_wrong_single detail (OfObject attr value name item members named is_item is fits) wrong =
      elim (subst (λ t. IsWrongSingle schema t value detail) named wrong).0 [
        | inl no_item ↦ none_some (item_named schema name) item is_item no_item
        | inr no_object ↦ none_some (as_object value) members is no_object
      ]
  not_wrong_single detail (OfAnything attr value named some) wrong =
      none_there (as_object value) some (subst (λ t. IsWrongSingle schema t value detail) named wrong).0

  not_wrong_list : {attr : Attr} {value : Tree} (detail : List ℕ) → Accepts schema profiles attr value
      → IsWrongList schema attr.is_array attr.target value detail → ⊥
  not_wrong_list detail (Single attr value array one) wrong =
      not_wrong_single detail one (subst (λ b. IsWrongList schema b attr.target value detail) array wrong)
  not_wrong_list detail (Each attr value values array list each) wrong =
      none_some (as_list value) values list (subst (λ b. IsWrongList schema b attr.target value detail) array wrong).0

  not_wrong_type : (judge : Judge) (value : Tree) (detail : List ℕ) → IsGood judge value
      → IsWrongType schema judge value detail → ⊥
  not_wrong_type (OfClass class) value detail good wrong = wrong
  not_wrong_type (OfAttribute attr) value detail good wrong = not_wrong_list detail good wrong
  not_wrong_type (OfElement attr) value detail good wrong = not_wrong_single detail good wrong

  unbroken : {limit : Limit} {value : Tree} {code : ℕ} {detail : List ℕ} → MeetsLimit limit value
      → IsLimitBroken limit value code detail → ⊥
  unbroken meets (TooLong most is not) = not meets.length
  unbroken meets (OutOfRange span is not) = not meets.range
  unbroken meets (Pattern not) = not meets.pattern
  unbroken meets (NotAnInstant not) = not meets.instant
  unbroken meets (NotAValue not) = not meets.values

  abbrev BreaksOne : Kind → Tree → ℕ → List ℕ → Type 0
  BreaksOne kind value code detail =
      IsOfBase kind.base value
      × ((limit : Limit) × Contains kind.limits limit × IsLimitBroken limit value code detail)

  all_unbroken : (kind : Kind) (value : Tree) (code : ℕ) (detail : List ℕ) → IsOfKind kind value
      → BreaksOne kind value code detail → ⊥
  all_unbroken kind value code detail good wrong =
      let at = wrong.1 in
      unbroken (All-contains (λ l. MeetsLimit l value) kind.limits at.0 good.1 at.1) at.2

  breaks_none : {attr : Attr} {value : Tree} (code : ℕ) (detail : List ℕ) → AcceptsSingle schema profiles attr value
      → BreaksLimit schema attr.target value code detail → ⊥
  breaks_none code detail (OfKind attr value name kind named is_kind takes key) wrong =
      all_unbroken kind value code detail takes
      (subst (λ o. IsSomeAnd o (λ k. BreaksOne k value code detail)) is_kind
      (subst (λ t. BreaksLimit schema t value code detail) named wrong))
  breaks_none code detail (OfObject attr value name item members named is_item is fits) wrong =
      subst (λ t. BreaksLimit schema t value code detail) named wrong
  breaks_none code detail (OfAnything attr value named some) wrong =
      subst (λ t. BreaksLimit schema t value code detail) named wrong

  -- an object is no key
  no_key_in : (x : Tree-F Tree Member) (detail : List ℕ) → key_in x ≡ Some detail → is_some (members_of x) ≡ true → ⊥
  no_key_in Tree-F.Null detail e h = true≢false (sym h)
  no_key_in (Tree-F.Flag b) detail e h = true≢false (sym h)
  no_key_in (Tree-F.Whole z) detail e h = true≢false (sym h)
  no_key_in (Tree-F.Words t) detail e h = true≢false (sym h)
  no_key_in (Tree-F.List ts) detail e h = true≢false (sym h)
  no_key_in (Tree-F.Members ms) detail e h = none_is_some detail e

  is_a_key : {attr : Attr} {value : Tree} (detail : List ℕ) → AcceptsSingle schema profiles attr value
      → IsNoKey schema attr value detail → ⊥
  is_a_key detail (OfKind attr value name kind named is_kind takes key) wrong = wrong.0 key
  is_a_key detail (OfObject attr value name item members named is_item is fits) wrong =
      no_key_in (out-Tree value) detail wrong.1 (ap is_some is)
  is_a_key detail (OfAnything attr value named some) wrong = no_key_in (out-Tree value) detail wrong.1 some

  single_in_list : (attr : Attr) (value : Tree) (P : Attr → Type 0) (array : Bool) → attr.is_array ≡ array
      → Accepts schema profiles attr value
      → ((a : Attr) → AcceptsSingle schema profiles a value → P a → ⊥) → IsSomeAnd (if array then None else Some attr) P
      → ⊥
  single_in_list attr value P true array good none wrong = wrong
  single_in_list attr value P false array good none wrong = none attr (single_of good array) wrong

  single_wrong : (judge : Judge) (value : Tree) (P : Attr → Type 0) → IsGood judge value
      → ((a : Attr) → AcceptsSingle schema profiles a value → P a → ⊥) → IsSomeAnd (single_attr judge) P → ⊥
  single_wrong (OfClass class) value P good none wrong = wrong
  single_wrong (OfAttribute attr) value P good none wrong =
      single_in_list attr value P attr.is_array refl good none wrong
  single_wrong (OfElement attr) value P good none wrong = none attr good wrong

  not_wrong_value : (here : Seen) {code : ℕ} {detail : List ℕ} → IsGoodSeen here → IsWrongValue schema here code detail
      → ⊥
  not_wrong_value here good (WrongType detail wrong) = not_wrong_type here.judge here.value detail good wrong
  not_wrong_value here good (BrokenLimit code detail wrong) =
      single_wrong here.judge here.value (λ a. BreaksLimit schema a.target here.value code detail) good
      (λ a accepts. breaks_none code detail accepts) wrong
  not_wrong_value here good (EnumUnknown detail wrong) =
      single_wrong here.judge here.value (λ a. IsNoKey schema a here.value detail) good
      (λ a accepts. is_a_key detail accepts) wrong

  -- ---- nor with an object that fits

  no_attribute : (item : Item) (name : List ℕ) → item.attrs ≡ [] → attribute_named item name ≡ None
  no_attribute item name none = ap (at_name (λ (a : Attr). a.name) name) none

  -- a member that is there
  known_member : {item : Item} {members : List Member} (name : List ℕ) (value : Option Tree) → (item.attrs ≡ [] → ⊥)
      → Fits schema profiles item members
      → value_of name members ≡ value → is_some value ≡ true → attribute_named item name ≡ None → ⊥
  known_member name None some fits is there unknown = true≢false (sym there)
  known_member name (Some one) some (Open item members none) is there unknown = some none
  known_member name (Some one) some (Closed item members each required more just) is there unknown =
      of_known (each name one is) unknown
    where
      of_known : {i : Item} {n : List ℕ} {v : Tree} → FitsMember schema profiles i n v → attribute_named i n ≡ None → ⊥
      of_known (Member_of i n v attr named force accepts) unknown = none_some (attribute_named i n) attr named unknown

  active_member : {item : Item} {name : List ℕ} {value : Tree} (attr : Attr)
      → FitsMember schema profiles item name value
      → attribute_named item name ≡ Some attr → is_in_force profiles attr ≡ false → ⊥
  active_member attr (Member_of item name value own is_own force accepts) named off =
      let same : own ≡ attr = some_is own attr (sym is_own ∙ named) in
      true≢false (sym force ∙ ap (is_in_force profiles) same ∙ off)

  active_value : {item : Item} {members : List Member} (name : List ℕ) (value : Option Tree) (attr : Attr)
      → Fits schema profiles item members
      → value_of name members ≡ value → is_some value ≡ true → attribute_named item name ≡ Some attr
      → is_in_force profiles attr ≡ false → ⊥
  active_value name None attr fits is there named off = true≢false (sym there)
  active_value name (Some one) attr (Open item members none) is there named off =
      none_some (attribute_named item name) attr named (no_attribute item name none)
  active_value name (Some one) attr (Closed item members each required more just) is there named off =
      active_member attr (each name one is) named off

  not_wanted : {item : Item} {members : List Member} (name : List ℕ) (attr : Attr) → Fits schema profiles item members
      → value_of name members ≡ None → attribute_named item name ≡ Some attr → is_in_force profiles attr ≡ true
      → attr.requirement ≡ Required → ⊥
  not_wanted name attr (Open item members none) absent named force wanted =
      none_some (attribute_named item name) attr named (no_attribute item name none)
  not_wanted name attr (Closed item members each required more just) absent named force wanted =
      none_there (value_of name members) (required name attr named force wanted) absent

  not_wrong_member : (object : ItemObject) (name : List ℕ) {code : ℕ} {detail : List ℕ}
      → Fits schema profiles object.item object.members
      → IsWrongMember profiles object name code detail → ⊥
  not_wrong_member object name fits (Unknown some there unknown) =
      known_member name (value_of name object.members) some fits refl there unknown
  not_wrong_member object name fits (Inactive attr profile there named off is) =
      active_value name (value_of name object.members) attr fits refl there named off
  not_wrong_member object name fits (Missing attr absent named force wanted) =
      not_wanted name attr fits absent named force wanted

  abbrev listed_of : List (List ℕ) → List Attr → List Attr
  listed_of names attrs = filter (λ attr. is_among attr.name names && is_in_force profiles attr) attrs

  enough : {item : Item} {members : List Member} → Fits schema profiles item members
      → HasOneOrMore members (listed_in_force profiles item item.at_least_one)
  enough (Open item members none) =
      subst (λ attrs. HasOneOrMore members (listed_of item.at_least_one attrs)) (sym none) tt
  enough (Closed item members each required more just) = more

  not_more : {item : Item} {members : List Member} → Fits schema profiles item members
      → HasJustOne members (listed_in_force profiles item item.just_one)
  not_more (Open item members none) = subst (λ attrs. HasJustOne members (listed_of item.just_one attrs)) (sym none) tt
  not_more (Closed item members each required more just) = just

  not_wrong_object : (object : ItemObject) {code : ℕ} {detail : List ℕ}
      → Fits schema profiles object.item object.members
      → IsWrongObject profiles object code detail → ⊥
  not_wrong_object object fits (NoneOfThem not) = not (enough fits)
  not_wrong_object object fits (NotJustOne not) = not (not_more fits)

-- ---- nor with the event as a whole

-- the text is one of the list
named_is : (P : List ℕ → Type 0) (items : List Tree) (position : ℕ) (text : List ℕ)
    → AllByRecursion P (filter_map as_text items)
    → option_and_then as_text (slice_get items position) ≡ Some text → P text
named_is P [] position text all e = absurd (none_is_some text e)
named_is P (t ∷ ts) zero text all e = first (as_text t) e all
  where
    first : (o : Option (List ℕ)) → o ≡ Some text → AllByRecursion P (cons_option o (filter_map as_text ts)) → P text
    first None e all = absurd (none_is_some text e)
    first (Some x) e all = subst P (some_is x text e) all.0
named_is P (t ∷ ts) (suc position) text all e = named_is P ts position text (later (as_text t) all) e
  where
    later : (o : Option (List ℕ)) → AllByRecursion P (cons_option o (filter_map as_text ts))
        → AllByRecursion P (filter_map as_text ts)
    later None all = all
    later (Some x) all = all.1

module _ (schema : SchemaParts) (event : Tree) (allowed : IsAllowed schema event) where
  not_wrong_event : {place : List Step} {code : ℕ} {detail : List ℕ}
      → IsWrongEvent schema event allowed.number allowed.members place code detail → ⊥
  not_wrong_event (NumberMismatch activity is not) = not allowed.agrees
  not_wrong_event (ProfileUnknown position profile is unknown) =
      true≢false (sym (named_is (λ p. is_profile schema p ≡ true) (profile_list event) position profile
      (recursion_from_All (λ p. is_profile schema p ≡ true) (named_profiles event) allowed.profiles) is) ∙ unknown)

  class_is : class_of_event schema event ≡ Some allowed.class
  class_is = ap (option_and_then (class_of schema)) allowed.object ∙ allowed.known

  good_seen : (place : List Step) (here : Seen) → seen schema event place ≡ Some here
      → IsGoodSeen schema (named_profiles event) here
  good_seen place here e =
      good_from schema (named_profiles event) place (of_class event allowed.class) here
      (λ ms is. subst (Fits schema (named_profiles event) allowed.class)
      (some_is allowed.members ms (sym allowed.object ∙ is)) allowed.fits)
      (subst (λ o. option_and_then (λ class. seen_from schema (named_profiles event) (of_class event class) place) o
      ≡ Some here) class_is e)

  good_item : (place : List Step) (here : Seen) (object : ItemObject) → seen schema event place ≡ Some here
      → object_seen schema here ≡ Some object
      → Fits schema (named_profiles event) object.item object.members
  good_item place here object e is =
      good_object schema (named_profiles event) here.judge here.value object (good_seen place here e) is

  nothing_wrong : {place : List Step} {code : ℕ} {detail : List ℕ} → IsViolation schema event place code detail → ⊥
  nothing_wrong (NoObject none) = none_is_some allowed.members (sym none ∙ allowed.object)
  nothing_wrong (NoClass members object none) =
      none_is_some allowed.class
      (sym none ∙ ap (class_of schema) (some_is members allowed.members (sym object ∙ allowed.object)) ∙ allowed.known)
  nothing_wrong (AtValue place here code detail e wrong) =
      not_wrong_value schema (named_profiles event) here (good_seen place here e) wrong
  nothing_wrong (AtMember place here object name code detail e is wrong) =
      not_wrong_member schema (named_profiles event) object name (good_item place here object e is) wrong
  nothing_wrong (AtObject place here object code detail e is wrong) =
      not_wrong_object schema (named_profiles event) object (good_item place here object e is) wrong
  nothing_wrong (OnEvent members class number place code detail object known numbered wrong) =
      let same : members ≡ allowed.members = some_is members allowed.members (sym object ∙ allowed.object) in
      let one : class ≡ allowed.class =
      some_is class allowed.class (sym known ∙ ap (class_of schema) same ∙ allowed.known) in
      let count : number ≡ allowed.number =
      some_is number allowed.number (sym numbered ∙ ap (λ (c : Item). c.class_uid) one ∙ allowed.numbered) in
      not_wrong_event
      (subst (λ n. IsWrongEvent schema event n allowed.members place code detail) count
      (subst (λ ms. IsWrongEvent schema event number ms place code detail) same wrong))

pub allowed_is_faultless : AllowedIsFaultless
allowed_is_faultless schema event place code detail allowed wrong = nothing_wrong schema event allowed wrong
