-- Events judged by the definitions alone, over a schema of one class and one object.
use Rattle.std.proofs.Common.{◌≡◌, ℕ, List, [], ◌∷◌, ◌++◌, true, false, Some, None, codes, refl, map, inr}
use Rattle.std.specs.Prelude.{pos, option_map, option_and_then}
use Rattle.ocsf_tree.specs.declared.key.Key.{Key}
use Rattle.ocsf_tree.specs.declared.key.Side.{Side}
use Rattle.ocsf_tree.specs.declared.key.Side.TheVariants.{Class, Object}
use Rattle.ocsf_tree.specs.declared.tree.Member.{Member}
use Rattle.ocsf_tree.specs.declared.tree.Tree.{Tree}
use Rattle.ocsf_tree.specs.declared.tree.Tree.TheVariants as tree
use Rattle.ocsf_tree.specs.declared.place.Step.TheVariants.{At, Name}
use Rattle.ocsf_tree.specs.declared.attribute.Requirement.TheVariants.{Required, Optional}
use Rattle.ocsf_schema.specs.declared.records.Attr.{Attr}
use Rattle.ocsf_schema.specs.declared.records.Item.{Item}
use Rattle.ocsf_schema.specs.declared.records.Target.{Target}
use Rattle.ocsf_schema.specs.declared.records.Target.TheVariants as target
use Rattle.ocsf_schema.specs.declared.parts.SchemaParts.{SchemaParts}
use Rattle.ocsf_event_rules.specs.EventClass.{class_of_event}
use Rattle.ocsf_event_rules.specs.Judged.{Judge, OfClass, OfAttribute, OfElement, Seen, ItemObject, object_seen, seen}
use Rattle.ocsf_event_rules.specs.Wrong.{class_unknown, attribute_unknown, profile_inactive, required_missing}
use Rattle.ocsf_event_rules.specs.Wrong.{wrong_type}
use Rattle.ocsf_event_rules.specs.Violations.{WrongType, Unknown, Inactive, Missing, IsViolation, NoObject, NoClass}
use Rattle.ocsf_event_rules.specs.Violations.{AtValue, AtMember}
use Rattle.ocsf_tree.proofs.WrittenOut.{layers}

abbrev key : Side → List ℕ → Key
key side name = record { side = side; name = name }

abbrev member : List ℕ → Tree → Member
member name value = record { name = name; value = value }

-- ---- a schema

abbrev attr : List ℕ → Target → Attr
attr name t = record {
  name = name;
  caption = None;
  description = None;
  target = t;
  is_array = false;
  requirement = Optional;
  profile = None;
  group = None;
  sibling = None;
  members = [];
}

abbrev item : Item
item = record {
  key = key Object [];
  caption = None;
  description = None;
  parent = None;
  hidden = false;
  category = None;
  category_uid = None;
  class_uid = None;
  profiles = [];
  at_least_one = [];
  just_one = [];
  attrs = [];
}

abbrev n : Attr
n = record (attr (codes "n") (target.Simple (codes "string_t"))) { requirement = Required }

file : Item
file = record item { key = key Object (codes "f"); attrs = n ∷ [] }

fs : Attr
fs = record (attr (codes "fs") (target.Object (codes "f"))) { is_array = true }

abbrev of_profile : Attr
of_profile = record (attr (codes "p") target.Anything) { profile = Some (codes "q") }

abbrev class_uid : Attr
class_uid = attr (codes "class_uid") (target.Simple (codes "integer_t"))

class : Item
class = record item {
  key = key Class (codes "c");
  class_uid = Some 7;
  attrs =
      class_uid
      ∷ fs
      ∷ of_profile
      ∷ [];
}

schema : SchemaParts
schema = record {
  pieces = class ∷ file ∷ [];
  kinds = [];
  categories = tree.Null;
  dictionary = tree.Null;
  extensions = tree.Null;
  profiles = tree.Null;
  types = tree.Null;
  version = [];
}

-- ---- an event

number : ℕ → Tree
number n = tree.Whole (pos n)

second : Tree
second = tree.Members (member (codes "s") (number 1) ∷ [])

files : Tree
files = tree.List (tree.Null ∷ second ∷ [])

event : Tree
event =
    tree.Members (member (codes "class_uid") (number 7) ∷ member (codes "fs") files ∷ member (codes "p") second ∷ [])

shown_judge : Judge → List ℕ
shown_judge (OfClass class) = class.key.name
shown_judge (OfAttribute attr) = attr.name
shown_judge (OfElement attr) = codes "[" ++ attr.name ++ codes "]"

class_found : option_map (λ c. c.key.name) (class_of_event schema event) ≡ Some (codes "c")
unfolding event schema class fs number
class_found = simp layers refl

second_file : option_map (λ s. shown_judge s.judge) (seen schema event (Name (codes "fs") ∷ At 1 ∷ []))
    ≡ Some (codes "[fs]")
unfolding event schema shown_judge class fs number files
second_file = simp layers refl

nothing_inactive : option_map (λ s. shown_judge s.judge) (seen schema event (Name (codes "p") ∷ [])) ≡ None
unfolding event schema shown_judge class fs number files
nothing_inactive = simp layers refl

shown_object : ItemObject → List ℕ × List (List ℕ)
shown_object o = (o.item.key.name, map (λ m. m.name) o.members)

its_object : option_map shown_object
    (option_and_then (object_seen schema) (seen schema event (Name (codes "fs") ∷ At 1 ∷ [])))
    ≡ Some (codes "f", codes "s" ∷ [])
unfolding event schema shown_object class fs file number files second
its_object = simp layers refl

-- ---- what is wrong with it

root : Seen
root = record { judge = OfClass class; value = event }

of_class : ItemObject
of_class =
    record {
      item = class;
      members = member (codes "class_uid") (number 7) ∷ member (codes "fs") files
          ∷ member (codes "p") second ∷ [];
    }

of_file : ItemObject
of_file = record { item = file; members = member (codes "s") (number 1) ∷ [] }

inactive_profile : IsViolation schema event (Name (codes "p") ∷ []) profile_inactive (codes "q")
unfolding event schema class fs number files second root of_class
inactive_profile =
    AtMember [] root of_class (codes "p") profile_inactive (codes "q") (simp layers refl) (simp layers refl)
    (Inactive of_profile (codes "q") (simp layers refl) refl (simp layers refl) refl)

null_in_a_list : IsViolation schema event (Name (codes "fs") ∷ At 0 ∷ []) wrong_type (codes "object_t")
unfolding event schema class fs number files
null_in_a_list =
    AtValue (Name (codes "fs") ∷ At 0 ∷ []) (record { judge = OfElement fs; value = tree.Null }) wrong_type
    (codes "object_t")
    (simp layers refl) (WrongType (codes "object_t") (inr (simp layers refl), refl))

no_kind : IsViolation schema event (Name (codes "class_uid") ∷ []) wrong_type (codes "integer_t")
unfolding event schema class fs number files
no_kind =
    AtValue (Name (codes "class_uid") ∷ []) (record { judge = OfAttribute class_uid; value = number 7 }) wrong_type
    (codes "integer_t")
    (simp layers refl) (WrongType (codes "integer_t") (λ none. none, refl))

missing_name : IsViolation schema event (Name (codes "fs") ∷ At 1 ∷ Name (codes "n") ∷ []) required_missing []
unfolding event schema class fs file number files second of_file
missing_name =
    AtMember (Name (codes "fs") ∷ At 1 ∷ []) (record { judge = OfElement fs; value = second }) of_file (codes "n")
    required_missing []
    (simp layers refl) (simp layers refl) (Missing n refl refl refl refl)

unknown_member : IsViolation schema event (Name (codes "fs") ∷ At 1 ∷ Name (codes "s") ∷ []) attribute_unknown []
unfolding event schema class fs file number files second of_file
unknown_member =
    AtMember (Name (codes "fs") ∷ At 1 ∷ []) (record { judge = OfElement fs; value = second }) of_file (codes "s")
    attribute_unknown []
    (simp layers refl) (simp layers refl) (Unknown (λ e. cc) (simp layers refl) refl)

no_object : IsViolation schema (tree.List []) [] wrong_type (codes "object_t")
no_object = NoObject (simp layers refl)

no_class : IsViolation schema (tree.Members []) (Name (codes "class_uid") ∷ []) class_unknown []
no_class = NoClass [] (simp layers refl) refl
