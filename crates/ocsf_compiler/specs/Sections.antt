-- For private clauses: what is printed of the categories, the extensions and the profiles, cell by cell.
use Rattle.std.specs.Prelude.{ℕ, List, Option, Some, None, slice_get}
use Rattle.std.specs.Option.{option_map, option_and_then}
use Rattle.ocsf_tree.specs.declared.tree.Tree.{Tree}
use Rattle.ocsf_tree.specs.declared.tree.Member.{Member}
use Rattle.ocsf_bundle.specs.Shown.{Shown, Profile, Category, Other, Ext}
use Rattle.ocsf_bundle.specs.Looks.{Looks, BuiltIn, Listed, look}
use Rattle.ocsf_bundle.specs.declared.cells.Cell.{Cell}
use Rattle.ocsf_bundle.specs.declared.cells.Cell.TheVariants as cell
use Rattle.ocsf_rules.specs.PrintedSchema.{member, by_name, category_tree, extension_tree, profile_tree}
use Rattle.ocsf_compiler.specs.declared.sections.Section.{Section}
use Rattle.ocsf_compiler.specs.declared.sections.Section.TheVariants as section

abbrev pub cell_of : Section → List ℕ → Cell
cell_of section.Categories key = cell.Category key
cell_of section.Extensions name = cell.Ext name
cell_of section.Profiles key = cell.Profile key

-- what is printed of a part
abbrev pub part_tree : Shown → Option Tree
part_tree (Category ext entry) = Some (category_tree (Listed ext entry))
part_tree Other = Some (category_tree BuiltIn)
part_tree (Ext file) = Some (extension_tree file)
part_tree (Profile file) = Some (profile_tree file)
part_tree _ = None

abbrev pub first_tree : Section → Looks → List ℕ → Option Tree
first_tree s b name = option_and_then part_tree (slice_get (look b (cell_of s name)) 0)

abbrev pub member_at : Section → Looks → List ℕ → Option Member
member_at s b name = option_map (member name) (first_tree s b name)

-- what is printed of what stands under these names
abbrev pub section_tree : Section → Looks → List (List ℕ) → Tree
section_tree section.Categories b keys = by_name category_tree b.categories keys
section_tree section.Extensions b names = by_name extension_tree b.exts names
section_tree section.Profiles b keys = by_name profile_tree b.profiles keys
