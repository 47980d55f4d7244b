-- The files by their keys.
use Rattle.std.specs.Prelude.{ℕ, List, [], ◌∷◌, ◌++◌, map, Option, Some, unwrap_or, if◌then◌else◌}
use Rattle.std.specs.Option.{option_map_or}
use Rattle.std.specs.Str.{bytes_eq}
use Rattle.std.specs.BTreeMap.{BTreeMap}
use Rattle.ocsf_lists.specs.ByName.{at_name}
use Rattle.ocsf_bundle.specs.declared.keys.GroupBy.{GroupBy}
use Rattle.ocsf_bundle.specs.declared.keys.GroupBy.TheVariants as by
use Rattle.ocsf_bundle.specs.declared.groups.Group.{Group}
use Rattle.ocsf_bundle.specs.declared.stored.ActiveFile.{ActiveFile}
use Rattle.ocsf_bundle.specs.Keys.{giving, keys_given, key_given, patch_given, profile_given, include_given}
use Rattle.ocsf_bundle.specs.Keys.{extension_given}

abbrev pub group_name : Group → List ℕ
group_name group = group.name

abbrev pub given_by : GroupBy → ActiveFile → Option (List ℕ)
given_by (by.Item side) active = key_given side active
given_by (by.Patched side) active = patch_given side active
given_by by.Profile active = profile_given active
given_by by.Include active = include_given active
given_by by.Extension active = extension_given active

abbrev pub group : (ActiveFile → Option (List ℕ)) → List ActiveFile → List ℕ → Group
group key files name = record { name = name; files = giving key name files }

-- of each key that files give, the files that give it
abbrev pub groups_of : (ActiveFile → Option (List ℕ)) → List ActiveFile → List Group
groups_of key files = map (group key files) (keys_given key files)

-- the files of one key; none where nothing gives it
abbrev pub group_at : List ℕ → List Group → List ActiveFile
group_at name groups = option_map_or (λ g. g.files) (at_name group_name name groups) []

-- one file more at a name
abbrev pub grown_at : (List ℕ → Option (List ActiveFile)) → List ℕ → ActiveFile → List ℕ → Option (List ActiveFile)
grown_at old name file q = if bytes_eq name q then Some (unwrap_or (old name) [] ++ file ∷ []) else old q

abbrev pub entry_group : (List ℕ × List ActiveFile) → Group
entry_group e = record { name = e.0; files = e.1 }

abbrev pub groups_in : BTreeMap (List ℕ) (List ActiveFile) → List Group
groups_in m = map entry_group m.entries
