-- The printed schema: one compact JSON object and a line feed. A member whose value isn't given isn't printed.
use Rattle.std.specs.Prelude.{ℕ, List, [], ◌∷◌, ◌++◌, Bool, true, false, map, option_map, codes, pos, Option, Some}
use Rattle.std.specs.Prelude.{None}
use Rattle.ocsf_tree.specs.declared.tree.Tree.{Tree}
use Rattle.ocsf_tree.specs.declared.tree.Tree.TheVariants as tree
use Rattle.ocsf_tree.specs.declared.tree.Member.{Member}
use Rattle.ocsf_tree.specs.declared.attribute.EnumMember.{EnumMember}
use Rattle.ocsf_tree.specs.Requirement.{requirement_text}
use Rattle.ocsf_tree.specs.CompactText.{text}
use Rattle.ocsf_schema.specs.declared.records.Attr.{Attr}
use Rattle.ocsf_schema.specs.declared.records.Item.{Item}
use Rattle.ocsf_schema.specs.declared.records.Target.{Target}
use Rattle.ocsf_schema.specs.declared.records.Target.TheVariants as target

-- ---- objects with members that may be absent

abbrev pub Field : Type 0
Field = List ℕ × Option Tree

abbrev pub shown : Field → List Member
shown (name, None) = []
shown (name, Some value) = record { name = name; value = value } ∷ []

abbrev pub present : List Field → List Member
present [] = []
present (field ∷ fields) = shown field ++ present fields

abbrev pub object_of : List Field → Tree
object_of fields = tree.Members (present fields)

abbrev pub words : Option (List ℕ) → Option Tree
words = option_map tree.Words

abbrev pub number : Option ℕ → Option Tree
number = option_map (λ n. tree.Whole (pos n))

-- printed only as `true`
abbrev pub flag : Bool → Option Tree
flag true = Some (tree.Flag true)
flag false = None

-- printed only where it isn't empty
abbrev pub texts : List (List ℕ) → Option Tree
texts [] = None
texts (t ∷ ts) = Some (tree.List (map tree.Words (t ∷ ts)))

-- ---- items

abbrev pub enum_member_tree : EnumMember → Tree
enum_member_tree member =
    object_of (
    (codes "caption", Some (tree.Words member.caption))
    ∷ (codes "description", words member.description)
    ∷ [])

abbrev pub enum_member : EnumMember → Member
enum_member member = record { name = member.key; value = enum_member_tree member }

-- printed only where it isn't empty
abbrev pub enumeration : List EnumMember → Option Tree
enumeration [] = None
enumeration (m ∷ ms) = Some (tree.Members (map enum_member (m ∷ ms)))

-- the name of a data type; every object has the type `object_t`
abbrev pub type_text : Target → List ℕ
type_text (target.Simple name) = name
type_text (target.Object key) = codes "object_t"
type_text target.Anything = codes "object_t"

abbrev pub object_key : Target → Option (List ℕ)
object_key (target.Simple name) = None
object_key (target.Object key) = Some key
object_key target.Anything = None

abbrev pub attribute_tree : Attr → Tree
attribute_tree attr =
    object_of (
    (codes "caption", words attr.caption)
    ∷ (codes "description", words attr.description)
    ∷ (codes "enum", enumeration attr.members)
    ∷ (codes "group", words attr.group)
    ∷ (codes "is_array", flag attr.is_array)
    ∷ (codes "object", words (object_key attr.target))
    ∷ (codes "profile", words attr.profile)
    ∷ (codes "requirement", Some (tree.Words (requirement_text attr.requirement)))
    ∷ (codes "sibling", words attr.sibling)
    ∷ (codes "type", Some (tree.Words (type_text attr.target)))
    ∷ [])

abbrev pub attribute_member : Attr → Member
attribute_member attr = record { name = attr.name; value = attribute_tree attr }

-- printed only where one of them is
abbrev pub constraints : List (List ℕ) → List (List ℕ) → Option Tree
constraints [] [] = None
constraints at_least_one just_one =
    Some (object_of (
    (codes "at_least_one", texts at_least_one)
    ∷ (codes "just_one", texts just_one)
    ∷ []))

abbrev pub fragment_tree : Item → Tree
fragment_tree item =
    object_of (
    (codes "attributes", Some (tree.Members (map attribute_member item.attrs)))
    ∷ (codes "caption", words item.caption)
    ∷ (codes "category", words item.category)
    ∷ (codes "category_uid", number item.category_uid)
    ∷ (codes "class_uid", number item.class_uid)
    ∷ (codes "constraints", constraints item.at_least_one item.just_one)
    ∷ (codes "description", words item.description)
    ∷ (codes "extends", words item.parent)
    ∷ (codes "hidden", flag item.hidden)
    ∷ (codes "profiles", texts item.profiles)
    ∷ [])

-- the fragment of an item
abbrev pub fragment : Item → List ℕ
fragment item = text (fragment_tree item)
