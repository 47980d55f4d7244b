-- The parts of a cell, as a bundle finds them by its index.
use Rattle.std.specs.Prelude.{ℕ, List, [], ◌∷◌, take, if◌then◌else◌, codes, Option, All}
use Rattle.std.specs.Option.{option_map}
use Rattle.std.specs.List.{filter_map}
use Rattle.std.specs.Str.{bytes_eq}
use Rattle.ocsf_bundle.specs.declared.cells.Cell.{Cell}
use Rattle.ocsf_bundle.specs.declared.cells.Cell.TheVariants as cell
use Rattle.ocsf_bundle.specs.declared.stored.ActiveFile.{ActiveFile}
use Rattle.ocsf_bundle.specs.Stored.{IsActiveSound}
use Rattle.ocsf_bundle.specs.declared.index.Index.{Index}
use Rattle.ocsf_bundle.specs.Shown.{Shown, There, Item, Profile, Kind, Other, Ext}
use Rattle.ocsf_bundle.specs.Looks.{show_patch, show_included, show_entry, show_category}
use Rattle.ocsf_bundle.specs.FilesLook.{item_of, patch_of, profile_of, include_of, dict_of, kind_of, category_of}
use Rattle.ocsf_bundle.specs.FilesLook.{extension_file_of}
use Rattle.ocsf_lists.specs.ByName.{IsByName}
use Rattle.ocsf_bundle.specs.Groups.{group_name, group_at}
use Rattle.ocsf_bundle.specs.Index.{groups_by_side}

-- what a file shows of a cell
abbrev pub part_in : Cell → ActiveFile → Option Shown
part_in (cell.Item key) active = option_map Item (item_of active)
part_in (cell.Exists key) active = option_map (λ file. There) (item_of active)
part_in (cell.Patches key) active = option_map show_patch (patch_of active)
part_in (cell.Profile key) active = option_map Profile (profile_of active)
part_in (cell.Include from path) active = option_map show_included (include_of from active)
part_in (cell.Dict name) active = option_map show_entry (dict_of name active)
part_in (cell.Kind name) active = option_map Kind (kind_of name active)
part_in (cell.Category key) active = option_map show_category (category_of key active)
part_in (cell.Ext name) active = option_map Ext (extension_file_of active)

-- the files that are asked
abbrev pub asked : Index → Cell → List ActiveFile
asked index (cell.Item key) = group_at key.name (groups_by_side key.side index.items)
asked index (cell.Exists key) = group_at key.name (groups_by_side key.side index.items)
asked index (cell.Patches key) = group_at key.name (groups_by_side key.side index.patches)
asked index (cell.Profile key) = group_at key index.profiles
asked index (cell.Include from path) = group_at path index.includes
asked index (cell.Dict name) = index.dictionaries
asked index (cell.Kind name) = index.dictionaries
asked index (cell.Category key) = index.categories
asked index (cell.Ext name) = group_at name index.extensions

-- the parts that these files show
abbrev pub parts_in : Cell → List ActiveFile → List Shown
parts_in c files = filter_map (part_in c) files

-- `other`, where no file shows it
abbrev pub or_other : List ℕ → List Shown → List Shown
or_other key [] = if bytes_eq key (codes "other") then Other ∷ [] else []
or_other key (part ∷ parts) = part ∷ parts

abbrev pub found : Index → Cell → List Shown
found index (cell.Exists key) = take 1 (parts_in (cell.Exists key) (asked index (cell.Exists key)))
found index (cell.Category key) = or_other key (parts_in (cell.Category key) (asked index (cell.Category key)))
found index c = parts_in c (asked index c)

-- what the files say stands in order, with numbers in their ranges
abbrev pub AreActiveSound : List ActiveFile → Type 0
AreActiveSound files = All IsActiveSound files

-- every group is found by its name
pub record AreGroupsByName (index : Index) : Type 0 where
  pub classes : IsByName group_name index.items.classes
  pub objects : IsByName group_name index.items.objects
  pub class_patches : IsByName group_name index.patches.classes
  pub object_patches : IsByName group_name index.patches.objects
  pub profiles : IsByName group_name index.profiles
  pub includes : IsByName group_name index.includes
  pub extensions : IsByName group_name index.extensions
