-- The keys that files give.
use Rattle.std.specs.Prelude.{ℕ, ◌&&◌, List, ◌∷◌, ◌++◌, Bool, true, false, if◌then◌else◌, Option, Some, None}
use Rattle.std.specs.Prelude.{is_some, map, filter}
use Rattle.std.specs.Option.{option_and_then, option_map, option_map_or}
use Rattle.std.specs.List.{filter_map}
use Rattle.std.specs.Str.{bytes_eq}
use Rattle.ocsf_lists.specs.FirstOfEach.{first_of_each}
use Rattle.ocsf_tree.specs.declared.key.Side.{Side}
use Rattle.ocsf_tree.specs.declared.key.Side.TheVariants as side
use Rattle.ocsf_tree.specs.declared.key.Key.{Key}
use Rattle.ocsf_tree.specs.Key.{same_side}
use Rattle.ocsf_raw.specs.declared.files.RawFile.{RawFile}
use Rattle.ocsf_raw.specs.declared.files.RawFile.TheVariants as raw
use Rattle.ocsf_raw.specs.declared.files.ItemFile.{ItemFile}
use Rattle.ocsf_bundle.specs.declared.stored.ActiveFile.{ActiveFile}
use Rattle.ocsf_bundle.specs.Active.{extension_of, path_below}

-- the key of a name that a file gives: a file of core the name, one of extension `e` `e/name`
abbrev pub key_of : ActiveFile → List ℕ → List ℕ
key_of active name = option_map_or (λ ext. ext.name ++ 47 ∷ name) (extension_of active) name

-- whether the file has no name, or that one
abbrev pub has_no_other_name : ItemFile → List ℕ → Bool
has_no_other_name file name = option_map_or (bytes_eq name) file.name true

-- the key of the item that the file patches, of core or of any extension: a file of an extension that extends it under
-- no other name. A name has no slash, so a patch of an extension's item has none.
abbrev pub patched : ActiveFile → ItemFile → Option (List ℕ)
patched active file =
    option_and_then (λ parent. if is_some active.ext && has_no_other_name file parent then Some parent else None)
    file.parent

-- the key of an item that the file gives
abbrev pub item_key : ActiveFile → ItemFile → Option (List ℕ)
item_key active file = if is_some (patched active file) then None else option_map (key_of active) file.name

-- ---- keys by which files are found

abbrev pub item_key_in : Side → ActiveFile → RawFile → Option (List ℕ)
item_key_in side active (raw.Item file) = if same_side file.side side then item_key active file else None
item_key_in side active _ = None

abbrev pub patched_in : Side → ActiveFile → RawFile → Option (List ℕ)
patched_in side active (raw.Item file) = if same_side file.side side then patched active file else None
patched_in side active _ = None

abbrev pub profile_key_in : ActiveFile → RawFile → Option (List ℕ)
profile_key_in active (raw.Profile file) = Some (key_of active file.name)
profile_key_in active _ = None

abbrev pub include_path_in : ActiveFile → RawFile → Option (List ℕ)
include_path_in active (raw.Profile file) = Some (path_below active.file.path)
include_path_in active (raw.Include entries) = Some (path_below active.file.path)
include_path_in active _ = None

abbrev pub extension_name_in : RawFile → Option (List ℕ)
extension_name_in (raw.Extension ext) = Some ext.name
extension_name_in _ = None

-- the key of a class or an object that the file gives
abbrev pub key_given : Side → ActiveFile → Option (List ℕ)
key_given side active = item_key_in side active active.file.raw

-- the class or object that the file patches
abbrev pub patch_given : Side → ActiveFile → Option (List ℕ)
patch_given side active = patched_in side active active.file.raw

-- the key of the profile that the file gives
abbrev pub profile_given : ActiveFile → Option (List ℕ)
profile_given active = profile_key_in active active.file.raw

-- the path by which the file is included
abbrev pub include_given : ActiveFile → Option (List ℕ)
include_given active = include_path_in active active.file.raw

-- the name of the extension that the file is of
abbrev pub extension_given : ActiveFile → Option (List ℕ)
extension_given active = extension_name_in active.file.raw

-- ---- files of one key

-- whether the file gives that key
abbrev pub gives : (ActiveFile → Option (List ℕ)) → List ℕ → ActiveFile → Bool
gives key q active = option_map_or (λ given. bytes_eq given q) (key active) false

-- the files that give that key
abbrev pub giving : (ActiveFile → Option (List ℕ)) → List ℕ → List ActiveFile → List ActiveFile
giving key q files = filter (gives key q) files

-- the keys that files give, in byte order, each once
abbrev pub keys_given : (ActiveFile → Option (List ℕ)) → List ActiveFile → List (List ℕ)
keys_given key files = first_of_each (λ q. q) (filter_map key files)

abbrev pub side_keys : Side → List ActiveFile → List Key
side_keys s files = map (λ name. record { side = s; name = name }) (keys_given (key_given s) files)

-- the full keys of the active items in order, each once: `class:..` is before `object:..`
abbrev pub active_keys : List ActiveFile → List Key
active_keys files = side_keys side.Class files ++ side_keys side.Object files
