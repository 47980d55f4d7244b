-- The files that count: those of core, and those of the folders whose extension is enabled.
use Rattle.std.specs.Prelude.{ℕ, nat_le, List, [], ◌∷◌, ◌++◌, Bool, false, if◌then◌else◌, codes, Option, Some, None}
use Rattle.std.specs.Option.{option_and_then, option_map, option_map_or}
use Rattle.std.specs.List.{filter_map}
use Rattle.std.specs.Str.{bytes_eq}
use Rattle.ocsf_lists.specs.Among.{is_among}
use Rattle.ocsf_lists.specs.ByName.{at_name}
use Rattle.ocsf_raw.specs.Forms.{folder, below}
use Rattle.ocsf_raw.specs.declared.files.RawFile.{RawFile}
use Rattle.ocsf_raw.specs.declared.files.RawFile.TheVariants as raw
use Rattle.ocsf_raw.specs.declared.files.ExtFile.{ExtFile}
use Rattle.ocsf_bundle.specs.declared.stored.StoredFile.{StoredFile}
use Rattle.ocsf_bundle.specs.declared.stored.ActiveFile.{ActiveFile}
use Rattle.ocsf_bundle.specs.Stored.{stored_path}

-- whether the path lies in the folder of an extension
abbrev pub is_of_extension : List ℕ → Bool
is_of_extension path = bytes_eq (folder path) (codes "extensions")

-- the folder of the extension
abbrev pub extension_folder : List ℕ → List ℕ
extension_folder path = folder (below path)

-- the path below the extension's folder, or below that of core
abbrev pub path_below : List ℕ → List ℕ
path_below path = if is_of_extension path then below (below path) else path

abbrev pub extension_said : RawFile → Option ExtFile
extension_said (raw.Extension ext) = Some ext
extension_said _ = None

-- the path of the file that says what the extension in a folder is
abbrev pub extension_path : List ℕ → List ℕ
extension_path name = codes "extensions/" ++ name ++ codes "/extension.json"

-- whether the file is that of an extension with an enabled name
abbrev pub is_enabled : List (List ℕ) → StoredFile → Bool
is_enabled enabled file = option_map_or (λ ext. is_among ext.name enabled) (extension_said file.raw) false

abbrev pub if_enabled : List (List ℕ) → StoredFile → Option StoredFile
if_enabled enabled file = if is_enabled enabled file then Some file else None

-- the file of the enabled extension in a folder
abbrev pub extension_in : List StoredFile → List (List ℕ) → List ℕ → Option StoredFile
extension_in files enabled name = option_and_then (if_enabled enabled) (at_name stored_path (extension_path name) files)

abbrev pub of_extension : StoredFile → StoredFile → ActiveFile
of_extension file ext = record { file = file; ext = Some ext }

abbrev pub of_core : StoredFile → ActiveFile
of_core file = record { file = file; ext = None }

-- the file, if it counts
abbrev pub active_file : List StoredFile → List (List ℕ) → StoredFile → Option ActiveFile
active_file files enabled file =
    if is_of_extension file.path
    then option_map (of_extension file) (extension_in files enabled (extension_folder file.path))
    else Some (of_core file)

-- the files that count, by path
abbrev pub active_files : List StoredFile → List (List ℕ) → List ActiveFile
active_files files enabled = filter_map (active_file files enabled) files

-- what the extension of a file says of itself; nothing for core
abbrev pub extension_of : ActiveFile → Option ExtFile
extension_of active = option_and_then (λ file. extension_said file.raw) active.ext

-- the extension's name, empty for core
abbrev pub extension_name : ActiveFile → List ℕ
extension_name active = option_map_or (λ ext. ext.name) (extension_of active) []

-- the extension's uid, 0 for core
abbrev pub extension_uid : ActiveFile → ℕ
extension_uid active = option_map_or (λ ext. ext.uid) (extension_of active) 0

-- ---- layers

-- before the first one of a number that isn't lower
abbrev pub into_order : {X : Type 0} → (X → ℕ) → X → List X → List X
into_order number x [] = x ∷ []
into_order number x (y ∷ ys) = if nat_le (number x) (number y) then x ∷ y ∷ ys else y ∷ into_order number x ys

-- by ascending number; those of one number keep their order
abbrev pub in_order : {X : Type 0} → (X → ℕ) → List X → List X
in_order number [] = []
in_order number (x ∷ xs) = into_order number x (in_order number xs)

-- the files of core first, then those of the extensions by ascending uid; what has one uid keeps its order
abbrev pub in_layers : List ActiveFile → List ActiveFile
in_layers files = in_order extension_uid files
