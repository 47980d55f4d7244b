-- What every cell shows, as questions to the files that count.
use Rattle.std.specs.Prelude.{ℕ, List, [], ◌∷◌, ◌&&◌, if◌then◌else◌, codes, Option, Some, None}
use Rattle.std.specs.Option.{option_and_then, option_map, option_map_or}
use Rattle.std.specs.List.{filter_map, before_first, after_first}
use Rattle.std.specs.Str.{bytes_eq}
use Rattle.ocsf_lists.specs.ByName.{at_name}
use Rattle.ocsf_raw.specs.Names.{is_slash, has_slash}
use Rattle.ocsf_raw.specs.declared.dictionary.DictEntry.{DictEntry}
use Rattle.ocsf_raw.specs.declared.dictionary.TypeEntry.{TypeEntry}
use Rattle.ocsf_raw.specs.declared.files.RawFile.{RawFile}
use Rattle.ocsf_raw.specs.declared.files.RawFile.TheVariants as raw
use Rattle.ocsf_raw.specs.declared.files.CategoryEntry.{CategoryEntry}
use Rattle.ocsf_raw.specs.declared.files.ExtFile.{ExtFile}
use Rattle.ocsf_raw.specs.declared.files.ItemFile.{ItemFile}
use Rattle.ocsf_raw.specs.declared.files.ProfileFile.{ProfileFile}
use Rattle.ocsf_bundle.specs.declared.stored.StoredFile.{StoredFile}
use Rattle.ocsf_bundle.specs.declared.stored.ActiveFile.{ActiveFile}
use Rattle.ocsf_bundle.specs.Active.{active_files, in_layers, extension_of, extension_name, extension_uid}
use Rattle.ocsf_bundle.specs.Active.{extension_said}
use Rattle.ocsf_bundle.specs.Keys.{giving, key_given, patch_given, profile_given, include_given, extension_given}
use Rattle.ocsf_bundle.specs.Looks.{Looks, PatchOf, Included, AsProfile, AsInclude, DictOf, CategoryOf, BuiltIn, Listed}

-- ---- what a file shows

abbrev pub item_said : RawFile → Option ItemFile
item_said (raw.Item file) = Some file
item_said _ = None

abbrev pub profile_said : RawFile → Option ProfileFile
profile_said (raw.Profile file) = Some file
profile_said _ = None

abbrev pub included_said : RawFile → Option Included
included_said (raw.Profile file) = Some (AsProfile file)
included_said (raw.Include entries) = Some (AsInclude entries)
included_said _ = None

abbrev pub attributes_said : RawFile → List DictEntry
attributes_said (raw.Dictionary file) = file.attributes
attributes_said _ = []

abbrev pub types_said : RawFile → List TypeEntry
types_said (raw.Dictionary file) = file.types
types_said _ = []

abbrev pub categories_said : RawFile → List CategoryEntry
categories_said (raw.Categories entries) = entries
categories_said _ = []

abbrev pub item_of : ActiveFile → Option ItemFile
item_of active = item_said active.file.raw

abbrev pub patch_by : ItemFile → ExtFile → PatchOf
patch_by file ext = record { ext = ext; file = file }

abbrev pub patch_of : ActiveFile → Option PatchOf
patch_of active = option_and_then (λ file. option_map (patch_by file) (extension_of active)) (item_of active)

abbrev pub profile_of : ActiveFile → Option ProfileFile
profile_of active = profile_said active.file.raw

-- the file is of that extension, or of core where the name is empty
abbrev pub include_of : List ℕ → ActiveFile → Option Included
include_of from active = if bytes_eq (extension_name active) from then included_said active.file.raw else None

abbrev pub dict_by : ActiveFile → DictEntry → DictOf
dict_by active entry = record { ext = extension_name active; entry = entry }

abbrev pub dict_of : List ℕ → ActiveFile → Option DictOf
dict_of name active = option_map (dict_by active) (at_name (λ entry. entry.name) name (attributes_said active.file.raw))

abbrev pub kind_of : List ℕ → ActiveFile → Option TypeEntry
kind_of name active = at_name (λ entry. entry.name) name (types_said active.file.raw)

-- the name of a key `e/name` of that extension
abbrev pub name_in : ExtFile → List ℕ → Option (List ℕ)
name_in ext key =
    if has_slash key && bytes_eq (before_first is_slash key) ext.name then Some (after_first is_slash key) else None

-- the name that a key has where the file stands
abbrev pub local_name : ActiveFile → List ℕ → Option (List ℕ)
local_name active key = option_map_or (λ ext. name_in ext key) (extension_of active) (Some key)

abbrev pub category_named : ActiveFile → List ℕ → Option CategoryOf
category_named active name =
    option_map (Listed (extension_uid active)) (at_name (λ entry. entry.name) name (categories_said active.file.raw))

abbrev pub category_of : List ℕ → ActiveFile → Option CategoryOf
category_of key active = option_and_then (category_named active) (local_name active key)

-- `other` is built in where no file gives it
abbrev pub or_built_in : List ℕ → List CategoryOf → List CategoryOf
or_built_in key [] = if bytes_eq key (codes "other") then BuiltIn ∷ [] else []
or_built_in key (c ∷ cs) = c ∷ cs

abbrev pub extension_file_of : ActiveFile → Option ExtFile
extension_file_of active = extension_said active.file.raw

-- ---- what the files show

-- the files by path and by layer
abbrev pub looks_of : List ActiveFile → List ActiveFile → Looks
looks_of files layered = record {
  items = λ key. filter_map item_of (giving (key_given key.side) key.name files);
  patches = λ key. filter_map patch_of (giving (patch_given key.side) key.name layered);
  profiles = λ key. filter_map profile_of (giving profile_given key files);
  includes = λ from path. filter_map (include_of from) (giving include_given path files);
  dict = λ name. filter_map (dict_of name) layered;
  kinds = λ name. filter_map (kind_of name) layered;
  categories = λ key. or_built_in key (filter_map (category_of key) layered);
  exts = λ name. filter_map extension_file_of (giving extension_given name files);
}

abbrev pub looks : List StoredFile → List (List ℕ) → Looks
looks files enabled = let active = active_files files enabled in looks_of active (in_layers active)
