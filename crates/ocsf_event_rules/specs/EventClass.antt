-- The class of an event, and what a schema has under a name.
use Rattle.std.specs.Prelude.{ℕ, ℤ, pos, negsuc, Bool, List, codes, Option, Some, None}
use Rattle.std.specs.Prelude.{if◌then◌else◌}
use Rattle.std.specs.Option.{option_and_then}
use Rattle.ocsf_tree.specs.declared.tree.Tree.{Tree, out-Tree}
use Rattle.ocsf_tree.specs.declared.tree.Tree.TheOpen.{Tree-F}
use Rattle.ocsf_tree.specs.declared.tree.Member.{Member}
use Rattle.ocsf_tree.specs.declared.key.Side.TheVariants.{Object}
use Rattle.ocsf_lists.specs.ByName.{at_name}
use Rattle.ocsf_tree.specs.Key.{key_text}
use Rattle.ocsf_tree.specs.Lookup as tree
use Rattle.ocsf_tree.specs.Lookup.{members_of, member_in}
use Rattle.ocsf_schema.specs.declared.records.Attr.{Attr}
use Rattle.ocsf_schema.specs.declared.records.Item.{Item}
use Rattle.ocsf_schema.specs.declared.records.Kind.{Kind}
use Rattle.ocsf_schema.specs.Lookups.{class_at}
use Rattle.ocsf_schema.specs.declared.parts.SchemaParts.{SchemaParts}

-- ---- what a value is

-- the members of an object
abbrev pub as_object : Tree → Option (List Member)
as_object value = members_of (out-Tree value)

abbrev pub whole_in : Tree-F Tree Member → Option ℤ
whole_in (Tree-F.Whole whole) = Some whole
whole_in _ = None

abbrev pub as_whole : Tree → Option ℤ
as_whole value = whole_in (out-Tree value)

abbrev pub is_null : Tree → Bool
is_null value = tree.is_null (out-Tree value)

abbrev pub unless_null : Tree → Option Tree
unless_null value = if is_null value then None else Some value

-- the value of the member of that name; a member that is `null` is absent
abbrev pub value_of : List ℕ → List Member → Option Tree
value_of name members = option_and_then unless_null (member_in name members)

abbrev pub whole_of : List ℕ → List Member → Option ℤ
whole_of name members = option_and_then as_whole (value_of name members)

-- ---- what a schema has

abbrev pub item_named : SchemaParts → List ℕ → Option Item
item_named schema name =
    at_name (λ item. key_text item.key) (key_text (record { side = Object; name = name })) schema.pieces

abbrev pub kind_named : SchemaParts → List ℕ → Option Kind
kind_named schema name = at_name (λ kind. kind.name) name schema.kinds

abbrev pub attribute_named : Item → List ℕ → Option Attr
attribute_named item name = at_name (λ attr. attr.name) name item.attrs

-- the class of that number; a hidden class has none
abbrev pub class_numbered : SchemaParts → ℤ → Option Item
class_numbered schema (pos number) = class_at number schema.pieces
class_numbered schema (negsuc n) = None

-- the class of an object: that of its `class_uid`
abbrev pub class_of : SchemaParts → List Member → Option Item
class_of schema members = option_and_then (class_numbered schema) (whole_of (codes "class_uid") members)

-- the class of an event
abbrev pub class_of_event : SchemaParts → Tree → Option Item
class_of_event schema event = option_and_then (class_of schema) (as_object event)
