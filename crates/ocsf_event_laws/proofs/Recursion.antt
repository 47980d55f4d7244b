-- Down an event: it fits the compiled items just where it fits by the files.
use Rattle.std.proofs.Common.{◌≡◌, ℕ, List, true, Option, Some, None, unwrap_or, sym, ◌∙◌, ap, subst}
use Rattle.std.specs.Prelude.{IsSome}
use Rattle.std.specs.Option.{option_map}
use Rattle.ocsf_lists.specs.ByName.{at_name}
use Rattle.ocsf_tree.specs.declared.key.Key.{Key}
use Rattle.ocsf_tree.specs.declared.key.Side.TheVariants.{Object}
use Rattle.ocsf_tree.specs.declared.tree.Tree.{Tree}
use Rattle.ocsf_tree.specs.declared.tree.Member.{Member}
use Rattle.ocsf_tree.specs.declared.attribute.Requirement.{Requirement}
use Rattle.ocsf_tree.specs.declared.attribute.Requirement.TheVariants.{Required, Optional}
use Rattle.ocsf_raw.specs.declared.dictionary.TypeEntry.{TypeEntry}
use Rattle.ocsf_schema.specs.declared.parts.SchemaParts.{SchemaParts}
use Rattle.ocsf_schema.specs.declared.records.Attr.{Attr}
use Rattle.ocsf_schema.specs.declared.records.Item.{Item}
use Rattle.ocsf_schema.specs.declared.records.Target.{Target}
use Rattle.ocsf_schema.specs.declared.records.Target.TheVariants as target
use Rattle.ocsf_merge.specs.declared.spoken.Spoken.{Spoken}
use Rattle.ocsf_bundle.specs.Stored.{Stored}
use Rattle.ocsf_bundle.specs.Looks.{Looks}
use Rattle.ocsf_rules.specs.Names.{key, ext_of}
use Rattle.ocsf_rules.specs.Attribute.{target_of}
use Rattle.ocsf_rules.specs.Compiled.{row_of, item, at_least_one, just_one}
use Rattle.ocsf_rules.specs.Compilation.{compilation}
use Rattle.ocsf_rules.specs.Verdict.{types_of, IsFaultless}
use Rattle.ocsf_rule_laws.specs.ClosedLaws.{IsThere}
use Rattle.ocsf_event_rules.specs.Profiles.{is_in_force}
use Rattle.ocsf_event_rules.specs.EventClass.{value_of, attribute_named}
use Rattle.ocsf_event_rules.specs.Conditions.{IsOfEnumeration, HasRequired, listed_in_force, HasOneOrMore, HasJustOne}
use Rattle.ocsf_event_rules.specs.Allowed.{Fits, Open, Closed, FitsMember, Member_of, Accepts, Single, Each}
use Rattle.ocsf_event_rules.specs.Allowed.{AcceptsSingle, OfKind, OfObject, OfAnything}
use Rattle.ocsf_event_laws.specs.FilesAllow.{looks_of}
use Rattle.ocsf_event_laws.specs.FilesAllow as files
use Rattle.ocsf_event_laws.proofs.Found.{nothing_named}
use Rattle.ocsf_event_laws.proofs.Sound.{IsActive, attr_at, attributes, mapped_some, mapped_none, target_known}
use Rattle.ocsf_event_laws.proofs.Sound.{leads_in}
use Rattle.ocsf_event_laws.proofs.Sound.{object_is, object_there, kind_leads, kind_there}
use Rattle.ocsf_event_laws.proofs.Constraints.{more_to, more_from, just_to, just_from}

is_required : (o : Option Requirement) → unwrap_or o Optional ≡ Required → o ≡ Some Required
is_required None e = cc
is_required (Some r) e = ap Some e

module _ (bundle : Stored) (sound : IsFaultless bundle) (ps : List (List ℕ)) where
  abbrev b : Looks
  b = looks_of bundle

  abbrev types : List TypeEntry
  types = types_of bundle

  abbrev schema : SchemaParts
  schema = compilation bundle

  abbrev attr_of_row : Key → Spoken → Attr
  attr_of_row k said = attr_at bundle sound k said

  abbrev FitsFiles : Key → List Member → Type 0
  FitsFiles k members = files.Fits b types ps k members

  abbrev leads_to : Key → Spoken → Option Target
  leads_to k said = target_of b (ext_of k.name) said

  -- an attribute that is found in the item is what the files say of it
  said_of : (k : Key) (name : List ℕ) (attr : Attr) → attribute_named (item b k) name ≡ Some attr
      → (said : Spoken) × (row_of b k name ≡ Some said) × (attr_of_row k said ≡ attr)
  said_of k name attr e =
      mapped_some (attr_of_row k) (row_of b k name) attr (sym (attributes bundle sound k name) ∙ e)

  found_of : (k : Key) (name : List ℕ) (said : Spoken) → row_of b k name ≡ Some said
      → attribute_named (item b k) name ≡ Some (attr_of_row k said)
  found_of k name said e = attributes bundle sound k name ∙ ap (option_map (attr_of_row k)) e

  required_to : (k : Key) (members : List Member) → HasRequired ps (item b k) members
      → (name : List ℕ) (said : Spoken) → row_of b k name ≡ Some said → files.is_in_force b ps said ≡ true
      → said.attr.requirement ≡ Some Required → IsSome (value_of name members)
  required_to k members required name said e force wanted =
      required name (attr_of_row k said) (found_of k name said e) force (ap (λ o. unwrap_or o Optional) wanted)

  abbrev RequiredByFiles : Key → List Member → Type 0
  RequiredByFiles k members =
      (name : List ℕ) (said : Spoken) → row_of b k name ≡ Some said → files.is_in_force b ps said ≡ true
      → said.attr.requirement ≡ Some Required → IsSome (value_of name members)

  required_from : (k : Key) (members : List Member) → RequiredByFiles k members → HasRequired ps (item b k) members
  required_from k members required name attr e force wanted =
      let said = said_of k name attr e in
      required name said.0 said.1 (ap (is_in_force ps) said.2 ∙ force)
      (is_required said.0.attr.requirement (ap (λ (a : Attr). a.requirement) said.2 ∙ wanted))

  -- where the attribute is known to lead somewhere, the files lead there
  leads_by : (k : Key) → IsActive bundle sound k → (name : List ℕ) (said : Spoken) → row_of b k name ≡ Some said
      → (attr : Attr) → attr ≡ attr_of_row k said → (t : Target) → attr.target ≡ t → leads_to k said ≡ Some t
  leads_by k active name said row attr is t named =
      target_known bundle sound k active name said row
      ∙ ap Some (ap (λ (a : Attr). a.target) (sym is) ∙ named)

  -- ---- constraints

  at_least_to : (k : Key) (members : List Member)
      → HasOneOrMore members (listed_in_force ps (item b k) (item b k).at_least_one)
      → files.HasOneOrMore (files.is_asked b ps k (at_least_one b k)) members
  unfolding item
  at_least_to k members more = more_to bundle sound ps k (at_least_one b k) members more

  at_least_from : (k : Key) (members : List Member)
      → files.HasOneOrMore (files.is_asked b ps k (at_least_one b k)) members
      → HasOneOrMore members (listed_in_force ps (item b k) (item b k).at_least_one)
  unfolding item
  at_least_from k members more = more_from bundle sound ps k (at_least_one b k) members more

  just_one_to : (k : Key) (members : List Member)
      → HasJustOne members (listed_in_force ps (item b k) (item b k).just_one)
      → files.HasJustOne (files.is_asked b ps k (just_one b k)) members
  unfolding item
  just_one_to k members just = just_to bundle sound ps k (just_one b k) members just

  just_one_from : (k : Key) (members : List Member)
      → files.HasJustOne (files.is_asked b ps k (just_one b k)) members
      → HasJustOne members (listed_in_force ps (item b k) (item b k).just_one)
  unfolding item
  just_one_from k members just = just_from bundle sound ps k (just_one b k) members just

  -- ---- to the files

  mutual
    pub to_files : {i : Item} {members : List Member} → Fits schema ps i members → (k : Key) → IsActive bundle sound k
        → i ≡ item b k → FitsFiles k members
    to_files (Open i members none) k active is =
        files.Open k members (λ name. mapped_none (attr_of_row k) (row_of b k name)
        (sym (attributes bundle sound k name)
        ∙ ap (λ (j : Item). attribute_named j name) (sym is)
        ∙ ap (at_name (λ (a : Attr). a.name) name) none))
    to_files (Closed i members each required more just) k active is =
        files.Closed k members (λ name value there. member_to (each name value there) k active is)
        (required_to k members (subst (λ j. HasRequired ps j members) is required))
        (at_least_to k members
        (subst (λ (j : Item). HasOneOrMore members (listed_in_force ps j j.at_least_one)) is more))
        (just_one_to k members
        (subst (λ (j : Item). HasJustOne members (listed_in_force ps j j.just_one)) is just))

    member_to : {i : Item} {name : List ℕ} {value : Tree} → FitsMember schema ps i name value → (k : Key)
        → IsActive bundle sound k → i ≡ item b k → files.FitsMember b types ps k name value
    member_to (Member_of i name value attr named force accepts) k active is =
        let said = said_of k name attr (ap (λ (j : Item). attribute_named j name) (sym is) ∙ named) in
        files.Member_of k name value said.0 said.1 (ap (is_in_force ps) said.2 ∙ force)
        (accepts_to accepts k active name said.0 said.1 (sym said.2))

    accepts_to : {attr : Attr} {value : Tree} → Accepts schema ps attr value → (k : Key) → IsActive bundle sound k
        → (name : List ℕ) (said : Spoken) → row_of b k name ≡ Some said → attr ≡ attr_of_row k said
        → files.Accepts b types ps k said value
    accepts_to (Single attr value array one) k active name said row is =
        files.Single k said value (ap (λ (a : Attr). a.is_array) (sym is) ∙ array)
        (single_to one k active name said row is)
    accepts_to (Each attr value values array list each) k active name said row is =
        files.Each k said value values (ap (λ (a : Attr). a.is_array) (sym is) ∙ array) list
        (λ one there. single_to (each one there) k active name said row is)

    single_to : {attr : Attr} {value : Tree} → AcceptsSingle schema ps attr value → (k : Key)
        → IsActive bundle sound k → (name : List ℕ) (said : Spoken) → row_of b k name ≡ Some said
        → attr ≡ attr_of_row k said → files.AcceptsSingle b types ps k said value
    single_to (OfKind attr value type kind named is_kind takes enum) k active name said row is =
        files.OfKind k said value type kind (leads_by k active name said row attr is (target.Simple type) named)
        (kind_leads bundle sound type kind is_kind) takes
        (subst (λ (a : Attr). IsOfEnumeration a.members value) is enum)
    single_to (OfObject attr value type i members named is_item is_object fits) k active name said row is =
        let one = object_is bundle sound type i is_item in
        files.OfObject k said value type members (leads_by k active name said row attr is (target.Object type) named)
        is_object (to_files fits (key Object type) one.0 (sym one.1))
    single_to (OfAnything attr value named some) k active name said row is =
        files.OfAnything k said value (leads_by k active name said row attr is target.Anything named) some

  -- ---- from the files

  mutual
    pub from_files : {k : Key} {members : List Member} → FitsFiles k members → IsActive bundle sound k
        → Fits schema ps (item b k) members
    from_files (files.Open k members none) active =
        Open (item b k) members
        (nothing_named (λ (a : Attr). a.name) (item b k).attrs
        (λ name. attributes bundle sound k name ∙ ap (option_map (attr_of_row k)) (none name)))
    from_files (files.Closed k members each required more just) active =
        Closed (item b k) members (λ name value there. member_from (each name value there) active)
        (required_from k members required) (at_least_from k members more)
        (just_one_from k members just)

    member_from : {k : Key} {name : List ℕ} {value : Tree} → files.FitsMember b types ps k name value
        → IsActive bundle sound k → FitsMember schema ps (item b k) name value
    member_from (files.Member_of k name value said row force accepts) active =
        Member_of (item b k) name value (attr_of_row k said) (found_of k name said row) force
        (accepts_from accepts active name row)

    accepts_from : {k : Key} {said : Spoken} {value : Tree} → files.Accepts b types ps k said value
        → IsActive bundle sound k → (name : List ℕ) → row_of b k name ≡ Some said
        → Accepts schema ps (attr_of_row k said) value
    accepts_from (files.Single k said value array one) active name row =
        Single (attr_of_row k said) value array (single_from one active name row)
    accepts_from (files.Each k said value values array list each) active name row =
        Each (attr_of_row k said) value values array list
        (λ one there. single_from (each one there) active name row)

    single_from : {k : Key} {said : Spoken} {value : Tree} → files.AcceptsSingle b types ps k said value
        → IsActive bundle sound k → (name : List ℕ) → row_of b k name ≡ Some said
        → AcceptsSingle schema ps (attr_of_row k said) value
    single_from (files.OfKind k said value type kind to leads takes enum) active name row =
        let named = ap (λ o. unwrap_or o target.Anything) to in
        OfKind (attr_of_row k said) value type kind named
        (kind_there bundle sound type kind
        (subst (IsThere schema) named
        (leads_in bundle sound k active name (attr_of_row k said) (found_of k name said row))) leads)
        takes enum
    single_from (files.OfObject k said value type members to is_object fits) active name row =
        let named = ap (λ o. unwrap_or o target.Anything) to in
        let there =
        object_there bundle sound type
        (subst (IsThere schema) named
        (leads_in bundle sound k active name (attr_of_row k said) (found_of k name said row))) in
        OfObject (attr_of_row k said) value type (item b (key Object type)) members named there.1 is_object
        (from_files fits there.0)
    single_from (files.OfAnything k said value to some) active name row =
        OfAnything (attr_of_row k said) value (ap (λ o. unwrap_or o target.Anything) to) some
