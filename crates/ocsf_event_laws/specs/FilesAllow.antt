-- The events that files allow. It goes down the event with questions to what the files show, and knows no compiled
-- item.
use Rattle.std.specs.Prelude.{◌≡◌, ℕ, pos, ◌&&◌, Bool, true, false, List, Contains, Some, None, unwrap_or, IsSome}
use Rattle.std.specs.Prelude.{codes, Ok, All}
use Rattle.std.specs.Option.{option_map_or, option_or}
use Rattle.ocsf_lists.specs.Among.{is_among}
use Rattle.ocsf_tree.specs.declared.tree.Tree.{Tree}
use Rattle.ocsf_tree.specs.declared.tree.Member.{Member}
use Rattle.ocsf_tree.specs.declared.key.Key.{Key}
use Rattle.ocsf_tree.specs.declared.key.Side.TheVariants as side
use Rattle.ocsf_tree.specs.declared.attribute.EnumMember.{EnumMember}
use Rattle.ocsf_tree.specs.declared.attribute.Requirement.TheVariants.{Required}
use Rattle.ocsf_raw.specs.declared.dictionary.TypeEntry.{TypeEntry}
use Rattle.ocsf_schema.specs.declared.records.Kind.{Kind}
use Rattle.ocsf_schema.specs.declared.records.Target.TheVariants as target
use Rattle.ocsf_merge.specs.declared.spoken.Spoken.{Spoken}
use Rattle.ocsf_kind.specs.Kinds.{kind_of}
use Rattle.ocsf_bundle.specs.Stored.{Stored}
use Rattle.ocsf_bundle.specs.Looks.{Looks, is_there}
use Rattle.ocsf_bundle.specs.FilesLook.{looks}
use Rattle.ocsf_rules.specs.Names.{key, ext_of}
use Rattle.ocsf_rules.specs.Attribute.{dict_said, profile_of, target_of}
use Rattle.ocsf_rules.specs.Compiled.{row_of, enumeration, numbered, computed, is_hidden, class_number}
use Rattle.ocsf_rules.specs.Compiled as compiled
use Rattle.ocsf_rules.specs.Verdict.{types_of}
use Rattle.ocsf_event_rules.specs.Profiles.{as_list, named_profiles}
use Rattle.ocsf_event_rules.specs.EventClass.{as_object, value_of, whole_of}
use Rattle.ocsf_event_rules.specs.Conditions.{IsOfKind, IsOfEnumeration, DoNumbersAgree}

-- ---- what the files say of an attribute

-- the profile of its mark, if it has one, is among these
abbrev pub is_in_force : Looks → List (List ℕ) → Spoken → Bool
is_in_force b profiles said = option_map_or (λ profile. is_among profile profiles) (profile_of b said) true

-- whether a list is wanted: the layers', else the dictionary's
abbrev pub is_array : Looks → Spoken → Bool
is_array b said = unwrap_or (option_or said.attr.is_array (dict_said (b.dict said.attr.name)).is_array) false

-- the enumeration: the computed one, else the one that is given
abbrev pub enumeration_of : Looks → Key → Spoken → List EnumMember
enumeration_of b k said = unwrap_or (computed (numbered b k) said.attr.name) (enumeration b said)

-- ---- constraints

-- whether the name is one of these and that of an attribute in force
abbrev pub is_asked : Looks → List (List ℕ) → Key → List (List ℕ) → List ℕ → Bool
is_asked b profiles k names name =
    is_among name names && option_map_or (is_in_force b profiles) (row_of b k name) false

-- where any is asked, one that is asked is there
abbrev pub HasOneOrMore : (List ℕ → Bool) → List Member → Type 0
HasOneOrMore asked members =
    (name : List ℕ) → asked name ≡ true
    → (one : List ℕ) × (asked one ≡ true) × IsSome (value_of one members)

-- where any is asked, one that is asked is there, and no other
abbrev pub HasJustOne : (List ℕ → Bool) → List Member → Type 0
HasJustOne asked members =
    (name : List ℕ) → asked name ≡ true
    → (one : List ℕ) × (asked one ≡ true) × IsSome (value_of one members)
    × ((other : List ℕ) → asked other ≡ true → IsSome (value_of other members) → other ≡ one)

-- ---- down the event

module _ (b : Looks) (types : List TypeEntry) (profiles : List (List ℕ)) where
  mutual
    -- an object fits the item of that key
    pub data Fits : Key → List Member → Type 0 where
      -- an item without attributes may hold anything
      Open : (k : Key) (members : List Member) → ((name : List ℕ) → row_of b k name ≡ None) → Fits k members
      -- else each member that is there is an attribute in force that accepts it, and what has to be there is
      Closed : (k : Key) (members : List Member)
          → ((name : List ℕ) (value : Tree) → value_of name members ≡ Some value → FitsMember k name value)
          → ((name : List ℕ) (said : Spoken) → row_of b k name ≡ Some said → is_in_force b profiles said ≡ true
          → said.attr.requirement ≡ Some Required → IsSome (value_of name members))
          → HasOneOrMore (is_asked b profiles k (compiled.at_least_one b k)) members
          → HasJustOne (is_asked b profiles k (compiled.just_one b k)) members
          → Fits k members

    pub data FitsMember : Key → List ℕ → Tree → Type 0 where
      Member_of : (k : Key) (name : List ℕ) (value : Tree) (said : Spoken)
          → row_of b k name ≡ Some said → is_in_force b profiles said ≡ true → Accepts k said value
          → FitsMember k name value

    -- an attribute of the item accepts a value: a single one, or a list of such
    pub data Accepts : Key → Spoken → Tree → Type 0 where
      Single : (k : Key) (said : Spoken) (value : Tree) → is_array b said ≡ false → AcceptsSingle k said value
          → Accepts k said value
      Each : (k : Key) (said : Spoken) (value : Tree) (values : List Tree) → is_array b said ≡ true
          → as_list value ≡ Some values → ((one : Tree) → Contains values one → AcceptsSingle k said one)
          → Accepts k said value

    -- by what its type leads to: a kind, an object, the open object
    pub data AcceptsSingle : Key → Spoken → Tree → Type 0 where
      OfKind : (k : Key) (said : Spoken) (value : Tree) (name : List ℕ) (kind : Kind)
          → target_of b (ext_of k.name) said ≡ Some (target.Simple name) → kind_of types name ≡ Ok kind
          → IsOfKind kind value → IsOfEnumeration (enumeration_of b k said) value → AcceptsSingle k said value
      OfObject : (k : Key) (said : Spoken) (value : Tree) (name : List ℕ) (members : List Member)
          → target_of b (ext_of k.name) said ≡ Some (target.Object name) → as_object value ≡ Some members
          → Fits (key side.Object name) members → AcceptsSingle k said value
      OfAnything : (k : Key) (said : Spoken) (value : Tree)
          → target_of b (ext_of k.name) said ≡ Some target.Anything → IsSome (as_object value)
          → AcceptsSingle k said value

-- ---- the event

abbrev pub looks_of : Stored → Looks
looks_of bundle = looks bundle.files bundle.enabled

-- it is an object with the number of a class that isn't hidden, it fits that class, and its numbers and profiles are
-- right
pub record IsAllowedByFiles (bundle : Stored) (event : Tree) : Type 0 where
  pub members : List Member
  pub class : Key
  pub number : ℕ
  pub object : as_object event ≡ Some members
  pub active : is_there ((looks_of bundle).items class) ≡ true
  pub shown : is_hidden (looks_of bundle) class ≡ false
  pub has_number : class_number (looks_of bundle) class ≡ Some number
  pub given : whole_of (codes "class_uid") members ≡ Some (pos number)
  pub fits : Fits (looks_of bundle) (types_of bundle) (named_profiles event) class members
  pub agrees : DoNumbersAgree number members
  pub profiles : All (λ profile. is_there ((looks_of bundle).profiles profile) ≡ true) (named_profiles event)
