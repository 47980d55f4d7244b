-- The events that a schema allows.
use Rattle.std.specs.Prelude.{◌≡◌, ℕ, true, false, List, [], Contains, Some, IsSome}
use Rattle.ocsf_tree.specs.declared.tree.Tree.{Tree}
use Rattle.ocsf_tree.specs.declared.tree.Member.{Member}
use Rattle.ocsf_schema.specs.declared.records.Attr.{Attr}
use Rattle.ocsf_schema.specs.declared.records.Item.{Item}
use Rattle.ocsf_schema.specs.declared.records.Kind.{Kind}
use Rattle.ocsf_schema.specs.declared.records.Target.TheVariants as target
use Rattle.ocsf_schema.specs.declared.parts.SchemaParts.{SchemaParts}
use Rattle.ocsf_event_rules.specs.Profiles.{as_list, is_in_force, named_profiles}
use Rattle.ocsf_event_rules.specs.EventClass.{as_object, value_of, item_named, kind_named, attribute_named, class_of}
use Rattle.ocsf_event_rules.specs.Conditions.{IsOfKind, IsOfEnumeration, HasRequired, listed_in_force, HasOneOrMore}
use Rattle.ocsf_event_rules.specs.Conditions.{HasJustOne, DoNumbersAgree, AreProfilesKnown}

module _ (schema : SchemaParts) (profiles : List (List ℕ)) where
  mutual
    -- an object fits an item
    pub data Fits : Item → List Member → Type 0 where
      -- an item without attributes may hold anything
      Open : (item : Item) (members : List Member) → item.attrs ≡ [] → Fits item members
      -- else each member that is there is an attribute in force that accepts it, and what has to be there is
      Closed : (item : Item) (members : List Member)
          → ((name : List ℕ) (value : Tree) → value_of name members ≡ Some value → FitsMember item name value)
          → HasRequired profiles item members
          → HasOneOrMore members (listed_in_force profiles item item.at_least_one)
          → HasJustOne members (listed_in_force profiles item item.just_one)
          → Fits item members

    pub data FitsMember : Item → List ℕ → Tree → Type 0 where
      Member_of : (item : Item) (name : List ℕ) (value : Tree) (attr : Attr)
          → attribute_named item name ≡ Some attr → is_in_force profiles attr ≡ true → Accepts attr value
          → FitsMember item name value

    -- an attribute accepts a value: a single one, or a list of such
    pub data Accepts : Attr → Tree → Type 0 where
      Single : (attr : Attr) (value : Tree) → attr.is_array ≡ false → AcceptsSingle attr value → Accepts attr value
      Each : (attr : Attr) (value : Tree) (values : List Tree) → attr.is_array ≡ true → as_list value ≡ Some values
          → ((one : Tree) → Contains values one → AcceptsSingle attr one) → Accepts attr value

    pub data AcceptsSingle : Attr → Tree → Type 0 where
      OfKind : (attr : Attr) (value : Tree) (name : List ℕ) (kind : Kind) → attr.target ≡ target.Simple name
          → kind_named schema name ≡ Some kind → IsOfKind kind value → IsOfEnumeration attr.members value
          → AcceptsSingle attr value
      OfObject : (attr : Attr) (value : Tree) (name : List ℕ) (item : Item) (members : List Member)
          → attr.target ≡ target.Object name → item_named schema name ≡ Some item → as_object value ≡ Some members
          → Fits item members → AcceptsSingle attr value
      OfAnything : (attr : Attr) (value : Tree) → attr.target ≡ target.Anything → IsSome (as_object value)
          → AcceptsSingle attr value

-- an event is an object of a class that isn't hidden, fits that class, and its numbers and profiles are right
pub record IsAllowed (schema : SchemaParts) (event : Tree) : Type 0 where
  pub members : List Member
  pub class : Item
  pub number : ℕ
  pub object : as_object event ≡ Some members
  pub known : class_of schema members ≡ Some class
  pub numbered : class.class_uid ≡ Some number
  pub fits : Fits schema (named_profiles event) class members
  pub agrees : DoNumbersAgree number members
  pub profiles : AreProfilesKnown schema event
