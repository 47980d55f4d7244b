-- The printed schema of a bundle.
use Rattle.std.specs.Prelude.{ℕ, List, [], ◌∷◌, map, filter_map, codes, Option, Some, None, unwrap_or, false}
use Rattle.std.specs.Option.{option_map}
use Rattle.ocsf_tree.specs.declared.tree.Tree.{Tree}
use Rattle.ocsf_tree.specs.declared.tree.Tree.TheVariants as tree
use Rattle.ocsf_tree.specs.declared.tree.Member.{Member}
use Rattle.ocsf_tree.specs.declared.attribute.Span.{Span}
use Rattle.ocsf_raw.specs.declared.dictionary.DictEntry.{DictEntry}
use Rattle.ocsf_raw.specs.declared.dictionary.TypeEntry.{TypeEntry}
use Rattle.ocsf_raw.specs.declared.files.ExtFile.{ExtFile}
use Rattle.ocsf_raw.specs.declared.files.ProfileFile.{ProfileFile}
use Rattle.ocsf_schema.specs.declared.records.Item.{Item}
use Rattle.ocsf_schema.specs.declared.parts.SchemaParts.{SchemaParts}
use Rattle.ocsf_schema.specs.Print.{object_of, words, number, flag, enumeration}
use Rattle.ocsf_schema.specs.Schema.{schema_text}
use Rattle.ocsf_bundle.specs.Looks.{Looks, CategoryOf, BuiltIn, Listed}
use Rattle.ocsf_rules.specs.Names.{first_of}
use Rattle.ocsf_rules.specs.declared.category.Category.{Category}
use Rattle.ocsf_rules.specs.Compiled.{item, category_of, category_number}
use Rattle.ocsf_bundle.specs.Listing.{Listing}
use Rattle.ocsf_rules.specs.MergedDictionary.{merged_entries, merged_types, kinds}

-- ---- objects by name

abbrev pub member : List ℕ → Tree → Member
member name value = record { name = name; value = value }

-- the first that stands under the name
abbrev pub member_of : {X : Type 0} → (X → Tree) → (List ℕ → List X) → List ℕ → Option Member
member_of print there name = option_map (λ x. member name (print x)) (first_of (there name))

-- what stands under these names
abbrev pub by_name : {X : Type 0} → (X → Tree) → (List ℕ → List X) → List (List ℕ) → Tree
by_name print there names = tree.Members (filter_map (member_of print there) names)

-- ---- categories, extensions, profiles

abbrev pub category_description : CategoryOf → Option (List ℕ)
category_description BuiltIn = None
category_description (Listed ext entry) = entry.description

abbrev pub described_tree : Category → Option (List ℕ) → Tree
described_tree c description =
    object_of (
    (codes "caption", words c.caption)
    ∷ (codes "description", words description)
    ∷ (codes "uid", number (Some (category_number c)))
    ∷ [])

-- its key is the name that it stands under, and no part of it
abbrev pub category_tree : CategoryOf → Tree
category_tree c = described_tree (category_of [] c) (category_description c)

abbrev pub extension_tree : ExtFile → Tree
extension_tree ext =
    object_of (
    (codes "caption", words ext.caption)
    ∷ (codes "uid", number (Some ext.uid))
    ∷ (codes "version", words ext.version)
    ∷ [])

abbrev pub texts_tree : List (List ℕ) → Tree
texts_tree ts = tree.List (map tree.Words ts)

-- the names of all its entries, those that remove something too
abbrev pub profile_tree : ProfileFile → Tree
profile_tree profile =
    object_of (
    (codes "attributes", Some (texts_tree (map (λ entry. entry.name) profile.attributes)))
    ∷ (codes "caption", words profile.caption)
    ∷ (codes "description", words profile.description)
    ∷ [])

-- ---- the dictionary

abbrev pub entry_tree : DictEntry → Tree
entry_tree entry =
    object_of (
    (codes "caption", words entry.caption)
    ∷ (codes "description", words entry.description)
    ∷ (codes "enum", enumeration entry.members)
    ∷ (codes "is_array", flag (unwrap_or entry.is_array false))
    ∷ (codes "sibling", words entry.sibling)
    ∷ (codes "type", words entry.type_name)
    ∷ [])

abbrev pub span_tree : Span → Tree
span_tree span = tree.List (tree.Whole span.low ∷ tree.Whole span.high ∷ [])

abbrev pub type_tree : TypeEntry → Tree
type_tree entry =
    object_of (
    (codes "caption", words entry.caption)
    ∷ (codes "description", words entry.description)
    ∷ (codes "max_len", number entry.max_len)
    ∷ (codes "range", option_map span_tree entry.range)
    ∷ (codes "regex", words entry.pattern)
    ∷ (codes "type", words entry.parent)
    ∷ (codes "values", option_map tree.List entry.values)
    ∷ [])

-- ---- the schema

abbrev pub items : Looks → Listing → List Item
items b l = map (item b) l.items

-- all that the schema has
unfoldable pub schema_parts : Looks → Listing → SchemaParts
schema_parts b l = record {
  pieces = items b l;
  kinds = kinds b l;
  categories = by_name category_tree b.categories l.categories;
  dictionary = tree.Members (map (λ entry. member entry.name (entry_tree entry)) (merged_entries b l));
  extensions = by_name extension_tree b.exts l.extensions;
  profiles = by_name profile_tree b.profiles l.profiles;
  types = tree.Members (map (λ entry. member entry.name (type_tree entry)) (merged_types b l));
  version = l.version;
}

-- one compact JSON object of all that, and a line feed
abbrev pub printed_schema : Looks → Listing → List ℕ
printed_schema b l = schema_text (schema_parts b l)
