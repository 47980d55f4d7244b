-- The printed schema as a whole.
use Rattle.std.specs.Prelude.{ℕ, List, [], ◌∷◌, ◌++◌, filter, map, codes}
use Rattle.ocsf_tree.specs.declared.tree.Tree.{Tree}
use Rattle.ocsf_tree.specs.declared.tree.Tree.TheVariants as tree
use Rattle.ocsf_tree.specs.declared.tree.Member.{Member}
use Rattle.ocsf_tree.specs.declared.key.Side.{Side}
use Rattle.ocsf_tree.specs.declared.key.Side.TheVariants.{Class, Object}
use Rattle.ocsf_tree.specs.Key.{same_side}
use Rattle.ocsf_tree.specs.CompactText.{text}
use Rattle.ocsf_schema.specs.declared.records.Item.{Item}
use Rattle.ocsf_schema.specs.declared.parts.SchemaParts.{SchemaParts}
use Rattle.ocsf_schema.specs.Print.{fragment_tree}

abbrev pub item_member : Item → Member
item_member item = record { name = item.key.name; value = fragment_tree item }

-- the fragments of the classes or of the objects, by key
abbrev pub fragments : Side → List Item → Tree
fragments side items = tree.Members (map item_member (filter (λ item. same_side item.key.side side) items))

abbrev root_member : List ℕ → Tree → Member
root_member name value = record { name = name; value = value }

abbrev pub root_members : SchemaParts → List Member
root_members parts =
    root_member (codes "categories") parts.categories
    ∷ root_member (codes "classes") (fragments Class parts.pieces)
    ∷ root_member (codes "dictionary") parts.dictionary
    ∷ root_member (codes "extensions") parts.extensions
    ∷ root_member (codes "objects") (fragments Object parts.pieces)
    ∷ root_member (codes "profiles") parts.profiles
    ∷ root_member (codes "types") parts.types
    ∷ root_member (codes "version") (tree.Words parts.version)
    ∷ []

-- the printed schema
abbrev pub schema_text : SchemaParts → List ℕ
schema_text parts = text (tree.Members (root_members parts)) ++ 10 ∷ []
