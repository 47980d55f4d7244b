-- What judges the values of an event: its class, and below it attributes and the objects that they name.
use Rattle.std.specs.Prelude.{ℕ, List, [], ◌∷◌, slice_get, Option, Some, None, if◌then◌else◌}
use Rattle.std.specs.Option.{option_map, option_and_then}
use Rattle.ocsf_tree.specs.declared.tree.Tree.{Tree}
use Rattle.ocsf_tree.specs.declared.tree.Member.{Member}
use Rattle.ocsf_tree.specs.declared.place.Step.{Step}
use Rattle.ocsf_tree.specs.declared.place.Step.TheVariants.{At, Name}
use Rattle.ocsf_schema.specs.declared.records.Attr.{Attr}
use Rattle.ocsf_schema.specs.declared.records.Item.{Item}
use Rattle.ocsf_schema.specs.declared.records.Target.{Target}
use Rattle.ocsf_schema.specs.declared.records.Target.TheVariants as target
use Rattle.ocsf_schema.specs.declared.parts.SchemaParts.{SchemaParts}
use Rattle.ocsf_event_rules.specs.Profiles.{as_list, is_in_force, named_profiles}
use Rattle.ocsf_event_rules.specs.EventClass.{as_object, value_of, item_named, attribute_named, class_of_event}

-- the class of the event, the attribute whose value it is, or the one in whose list it is
pub data Judge : Type 0 where
  OfClass : Item → Judge
  OfAttribute : Attr → Judge
  OfElement : Attr → Judge

-- a value with what judges it
pub record Seen : Type 0 where
  pub judge : Judge
  pub value : Tree

-- the attribute that judges it as a single value, and not as a list
abbrev pub single_attr : Judge → Option Attr
single_attr (OfClass class) = None
single_attr (OfAttribute attr) = if attr.is_array then None else Some attr
single_attr (OfElement attr) = Some attr

-- the object that a type names
abbrev pub object_of : SchemaParts → Target → Option Item
object_of schema (target.Object name) = item_named schema name
object_of schema (target.Simple name) = None
object_of schema target.Anything = None

-- the item that judges an object
abbrev pub item_of : SchemaParts → Judge → Option Item
item_of schema (OfClass class) = Some class
item_of schema judge = option_and_then (λ attr. object_of schema attr.target) (single_attr judge)

-- an object and the item that judges it
pub record ItemObject : Type 0 where
  pub item : Item
  pub members : List Member

abbrev pub with_item : Item → List Member → ItemObject
with_item item members = record { item = item; members = members }

abbrev pub object_seen : SchemaParts → Seen → Option ItemObject
object_seen schema here =
    option_and_then (λ item. option_map (with_item item) (as_object here.value)) (item_of schema here.judge)

-- ---- down the event

abbrev pub of_attribute : Attr → Tree → Seen
of_attribute attr value = record { judge = OfAttribute attr; value = value }

abbrev pub of_element : Attr → Tree → Seen
of_element attr value = record { judge = OfElement attr; value = value }

-- the attribute of that name, if it is in force
abbrev pub attribute_in_force : List (List ℕ) → Item → List ℕ → Option Attr
attribute_in_force profiles item name =
    option_and_then (λ attr. if is_in_force profiles attr then Some attr else None) (attribute_named item name)

abbrev pub member_seen : List (List ℕ) → List ℕ → ItemObject → Option Seen
member_seen profiles name object =
    option_and_then (λ attr. option_map (of_attribute attr) (value_of name object.members))
    (attribute_in_force profiles object.item name)

abbrev pub element_of : ℕ → Attr → Tree → Option Seen
element_of position attr value =
    if attr.is_array
    then option_map (of_element attr) (option_and_then (λ values. slice_get values position) (as_list value))
    else None

abbrev pub element_seen : ℕ → Seen → Option Seen
element_seen position here = elim here.judge as (λ judge. Option Seen) [
  | OfClass class ↦ None
  | OfAttribute attr ↦ element_of position attr here.value
  | OfElement attr ↦ None
]

-- what is seen one step further
abbrev pub seen_at : SchemaParts → List (List ℕ) → Step → Seen → Option Seen
seen_at schema profiles (Name name) here = option_and_then (member_seen profiles name) (object_seen schema here)
seen_at schema profiles (At position) here = element_seen position here

-- and so on along a place
abbrev pub seen_from : SchemaParts → List (List ℕ) → Seen → List Step → Option Seen
seen_from schema profiles here [] = Some here
seen_from schema profiles here (step ∷ place) =
    option_and_then (λ next. seen_from schema profiles next place) (seen_at schema profiles step here)

abbrev pub of_class : Tree → Item → Seen
of_class event class = record { judge = OfClass class; value = event }

-- what is seen at a place of an event: nothing where its class isn't known, and nothing below what isn't judged
abbrev pub seen : SchemaParts → Tree → List Step → Option Seen
seen schema event place =
    option_and_then (λ class. seen_from schema (named_profiles event) (of_class event class) place)
    (class_of_event schema event)
