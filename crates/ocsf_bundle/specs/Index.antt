-- What a bundle keeps of the files that count, and the files that a cell is asked of.
use Rattle.std.specs.Prelude.{ℕ, List, ◌++◌, map, filter, Bool, true, false, Option}
use Rattle.ocsf_tree.specs.declared.key.Side.{Side}
use Rattle.ocsf_tree.specs.declared.key.Side.TheVariants as side
use Rattle.ocsf_tree.specs.declared.key.Key.{Key}
use Rattle.ocsf_raw.specs.declared.files.RawFile.{RawFile}
use Rattle.ocsf_raw.specs.declared.files.RawFile.TheVariants as raw
use Rattle.ocsf_bundle.specs.declared.stored.ActiveFile.{ActiveFile}
use Rattle.ocsf_bundle.specs.declared.groups.Group.{Group}
use Rattle.ocsf_bundle.specs.declared.keys.GroupBy.TheVariants as by
use Rattle.ocsf_bundle.specs.declared.index.Sides.{Sides}
use Rattle.ocsf_bundle.specs.declared.index.Index.{Index}
use Rattle.ocsf_bundle.specs.Active.{in_layers}
use Rattle.ocsf_bundle.specs.Groups.{given_by, groups_of}

abbrev pub says_dictionary : RawFile → Bool
says_dictionary (raw.Dictionary file) = true
says_dictionary _ = false

abbrev pub says_categories : RawFile → Bool
says_categories (raw.Categories entries) = true
says_categories _ = false

abbrev pub is_dictionary : ActiveFile → Bool
is_dictionary active = says_dictionary active.file.raw

abbrev pub is_categories : ActiveFile → Bool
is_categories active = says_categories active.file.raw

abbrev pub dictionaries : List ActiveFile → List ActiveFile
dictionaries files = filter is_dictionary files

abbrev pub category_files : List ActiveFile → List ActiveFile
category_files files = filter is_categories files

abbrev pub group_key : Side → Group → Key
group_key s group = record { side = s; name = group.name }

abbrev pub group_keys : Side → List Group → List Key
group_keys s groups = map (group_key s) groups

abbrev pub side_groups : (Side → ActiveFile → Option (List ℕ)) → List ActiveFile → Sides
side_groups key files =
    record { classes = groups_of (key side.Class) files; objects = groups_of (key side.Object) files }

abbrev pub groups_by_side : Side → Sides → List Group
groups_by_side side.Class sides = sides.classes
groups_by_side side.Object sides = sides.objects

abbrev pub index_of : List ActiveFile → Index
index_of files =
    let layered = in_layers files in
    let items = side_groups (λ s. given_by (by.Item s)) files in
    record {
      items = items;
      patches = side_groups (λ s. given_by (by.Patched s)) layered;
      profiles = groups_of (given_by by.Profile) files;
      includes = groups_of (given_by by.Include) files;
      extensions = groups_of (given_by by.Extension) files;
      dictionaries = dictionaries layered;
      categories = category_files layered;
      keys = group_keys side.Class items.classes ++ group_keys side.Object items.objects;
    }
