-- What there is in a bundle: keys and names, each in byte order and once, and the version. What stands under
-- them, the cells show.
use Rattle.std.specs.Prelude.{ℕ, List, [], ◌∷◌, map, flat_map, codes, Option, Some, None, unwrap_or}
use Rattle.std.specs.Option.{option_and_then}
use Rattle.ocsf_lists.specs.ByName.{at_name}
use Rattle.ocsf_lists.specs.FirstOfEach.{first_of_each}
use Rattle.ocsf_tree.specs.declared.key.Key.{Key}
use Rattle.ocsf_raw.specs.declared.files.RawFile.{RawFile}
use Rattle.ocsf_raw.specs.declared.files.RawFile.TheVariants as raw
use Rattle.ocsf_bundle.specs.declared.stored.StoredFile.{StoredFile}
use Rattle.ocsf_bundle.specs.declared.stored.ActiveFile.{ActiveFile}
use Rattle.ocsf_bundle.specs.Stored.{Stored, stored_path}
use Rattle.ocsf_bundle.specs.Active.{active_files}
use Rattle.ocsf_bundle.specs.Keys.{key_of, keys_given, profile_given, active_keys}
use Rattle.ocsf_bundle.specs.FilesLook.{attributes_said, types_said, categories_said}

pub record Listing : Type 0 where
  -- the full keys of the items
  pub items : List Key
  -- the attributes of the dictionaries
  pub attributes : List (List ℕ)
  -- the types of the dictionaries
  pub types : List (List ℕ)
  -- the keys of the categories, the built-in one's among them
  pub categories : List (List ℕ)
  -- the keys of the profiles
  pub profiles : List (List ℕ)
  -- the names of the enabled extensions
  pub extensions : List (List ℕ)
  pub version : List ℕ

-- ---- what a file lists

abbrev pub attribute_names : ActiveFile → List (List ℕ)
attribute_names active = map (λ entry. entry.name) (attributes_said active.file.raw)

abbrev pub type_names : ActiveFile → List (List ℕ)
type_names active = map (λ entry. entry.name) (types_said active.file.raw)

abbrev pub category_keys : ActiveFile → List (List ℕ)
category_keys active = map (λ entry. key_of active entry.name) (categories_said active.file.raw)

abbrev pub version_said : RawFile → Option (List ℕ)
version_said (raw.Version version) = Some version
version_said _ = None

-- ---- what files list

abbrev pub in_byte_order : List (List ℕ) → List (List ℕ)
in_byte_order names = first_of_each (λ name. name) names

-- that of the file of core, else empty
abbrev pub version_in : List StoredFile → List ℕ
version_in files =
    unwrap_or (option_and_then (λ file. version_said file.raw) (at_name stored_path (codes "version.json") files)) []

-- of these files, those that count, and these enabled extensions
abbrev pub listing_of : List StoredFile → List ActiveFile → List (List ℕ) → Listing
listing_of files active enabled = record {
  items = active_keys active;
  attributes = in_byte_order (flat_map attribute_names active);
  types = in_byte_order (flat_map type_names active);
  categories = in_byte_order (codes "other" ∷ flat_map category_keys active);
  profiles = keys_given profile_given active;
  extensions = enabled;
  version = version_in files;
}

abbrev pub listing : Stored → Listing
listing bundle = listing_of bundle.files (active_files bundle.files bundle.enabled) bundle.enabled
