-- What is wrong with the files as a whole: their number, their keys and numbers, their patches, and the types of their
-- dictionaries.
use Rattle.std.specs.Prelude.{ℕ, zero, suc, ◌+◌, ◌*◌, ◌==◌, ◌&&◌, ◌||◌, not, nat_lt, Bool, false, List, [], ◌∷◌, ◌++◌}
use Rattle.std.specs.Prelude.{length, map, flat_map, codes, decimal, Option, Some, None, unwrap_or, is_some}
use Rattle.std.specs.Prelude.{if◌then◌else◌}
use Rattle.std.specs.Option.{option_map_or, option_and_then, option_or}
use Rattle.std.specs.List.{filter_map, list_any, sum_by}
use Rattle.std.specs.Str.{bytes_eq}
use Rattle.std.specs.Ordering.{is_lt}
use Rattle.ocsf_lists.specs.Given.{last_given}
use Rattle.ocsf_lists.specs.ByName.{text_cmp}
use Rattle.ocsf_tree.specs.Key.{side_text}
pub use Rattle.ocsf_tree.specs.Fault.{fault}
use Rattle.ocsf_tree.specs.FaultGroups.{Blame, blame, blame_if, FaultGroup, group_of, faults_in}
use Rattle.ocsf_tree.specs.LeastFault.{least_fault}
use Rattle.ocsf_tree.specs.declared.fault.Fault.{Fault}
use Rattle.ocsf_tree.specs.declared.fault.Code.{Code}
use Rattle.ocsf_tree.specs.declared.fault.Code.TheVariants as code
use Rattle.ocsf_tree.specs.declared.key.Side.{Side}
use Rattle.ocsf_tree.specs.declared.key.Side.TheVariants as side
use Rattle.ocsf_raw.specs.declared.files.ExtFile.{ExtFile}
use Rattle.ocsf_raw.specs.declared.files.ItemFile.{ItemFile}
use Rattle.ocsf_raw.specs.declared.files.CategoryEntry.{CategoryEntry}
use Rattle.ocsf_raw.specs.declared.dictionary.TypeEntry.{TypeEntry}
use Rattle.ocsf_schema.specs.Bases.{base_of}
use Rattle.ocsf_bundle.specs.declared.stored.StoredFile.{StoredFile}
use Rattle.ocsf_bundle.specs.declared.stored.ActiveFile.{ActiveFile}
use Rattle.ocsf_bundle.specs.declared.numbers.Numbered.{Numbered}
use Rattle.ocsf_bundle.specs.Active.{active_files, extension_uid}
use Rattle.ocsf_bundle.specs.Keys.{key_of, patched, giving, keys_given, key_given, profile_given, extension_given}
use Rattle.ocsf_bundle.specs.Keys.{active_keys}
use Rattle.ocsf_bundle.specs.Looks.{is_there}
use Rattle.ocsf_bundle.specs.FilesLook.{item_of, categories_said, types_said, extension_file_of, looks}

abbrev pub fault_if : Bool → Fault → Option Fault
fault_if is_so f = if is_so then Some f else None

-- `label:name`
abbrev pub labelled : List ℕ → List ℕ → List ℕ
labelled label name = label ++ codes ":" ++ name

-- ---- limits

abbrev pub max_files : ℕ
max_files = 4096

-- of all compact texts together: 16 MiB
abbrev pub max_bytes : ℕ
max_bytes = 16777216

abbrev pub max_extensions : ℕ
max_extensions = 64

abbrev pub max_items : ℕ
max_items = 4096

-- there are more than may be
abbrev pub too_many : List ℕ → ℕ → ℕ → Option Blame
too_many what limit n = blame_if (nat_lt limit n) (codes "bundle") what

-- an enabled name counts whether or not an extension has it
abbrev pub limits_passed : List StoredFile → List (List ℕ) → ℕ → List Blame
limits_passed files enabled items = filter_map (λ passed. passed) (
    too_many (codes "files") max_files (length files)
    ∷ too_many (codes "bytes") max_bytes (sum_by (λ file. length file.text) files)
    ∷ too_many (codes "extensions") max_extensions (length enabled)
    ∷ too_many (codes "items") max_items items
    ∷ [])

-- ---- extensions

-- an enabled name of which no file is that of the extension
abbrev pub extension_unknown : List ActiveFile → List ℕ → Option Blame
extension_unknown active name = blame_if (not (is_there (giving extension_given name active))) name []

abbrev pub unknown_extensions : List (List ℕ) → List ActiveFile → List Blame
unknown_extensions enabled active = filter_map (extension_unknown active) enabled

-- ---- keys

-- the second of the files that give one key
abbrev pub second_of : List ℕ → List ℕ → List ActiveFile → Option Blame
second_of label name (x ∷ y ∷ rest) = Some (blame (labelled label name) y.file.path)
second_of label name _ = None

abbrev pub clashes : List ℕ → (ActiveFile → Option (List ℕ)) → List ActiveFile → List Blame
clashes label key active = filter_map (λ name. second_of label name (giving key name active)) (keys_given key active)

abbrev pub key_clashes : List ActiveFile → List Blame
key_clashes active =
    clashes (side_text side.Class) (key_given side.Class) active
    ++ clashes (side_text side.Object) (key_given side.Object) active
    ++ clashes (codes "profile") profile_given active
    ++ clashes (codes "extension") extension_given active

-- ---- numbers

-- of a lesser name, with that number
abbrev pub is_before : ℕ → List ℕ → Numbered → Bool
is_before number name x = (x.number == number) && is_lt (text_cmp x.name name)

abbrev pub taken : List ℕ → Numbered → Blame
taken label x = blame (labelled label x.name) (decimal x.number)

-- something that has the number of one of a lesser name
abbrev pub number_taken : List ℕ → List Numbered → Numbered → Option Blame
number_taken label all x = if list_any (is_before x.number x.name) all then Some (taken label x) else None

abbrev pub numbers_taken : List ℕ → List Numbered → List Blame
numbers_taken label all = filter_map (number_taken label all) all

abbrev pub numbered : List ℕ → ℕ → Numbered
numbered name number = record { name = name; number = number }

abbrev pub extension_number : ExtFile → Numbered
extension_number ext = numbered ext.name ext.uid

abbrev pub extension_numbers : List ActiveFile → List Numbered
extension_numbers active = map extension_number (filter_map extension_file_of active)

-- of core a category has the number that is written, of an extension it has it after the extension's uid
abbrev pub category_number : ActiveFile → CategoryEntry → Numbered
category_number active entry = numbered (key_of active entry.name) (extension_uid active * 100 + entry.uid)

abbrev pub listed_categories : List ActiveFile → List Numbered
listed_categories active = flat_map (λ file. map (category_number file) (categories_said file.file.raw)) active

abbrev pub is_other : Numbered → Bool
is_other category = bytes_eq category.name (codes "other")

-- with the built-in one, where no file gives it
abbrev pub with_other : List Numbered → List Numbered
with_other categories =
    if list_any is_other categories then categories else categories ++ numbered (codes "other") 0 ∷ []

abbrev pub uids_taken : List ActiveFile → List Blame
uids_taken active =
    numbers_taken (codes "extension") (extension_numbers active)
    ++ numbers_taken (codes "category") (with_other (listed_categories active))

-- ---- patches

-- whether a file gives that key of a side
abbrev pub IsGiven : Type 0
IsGiven = Side → List ℕ → Bool

abbrev pub is_given : List ActiveFile → IsGiven
is_given active s name = is_there (giving (key_given s) name active)

-- of a patch: that what it patches, by that key, isn't there
abbrev pub patch_at : IsGiven → ActiveFile → Side → List ℕ → Option Blame
patch_at given active s key = blame_if (not (given s key)) active.file.path key

abbrev pub patch_of_nothing : IsGiven → ActiveFile → Option Blame
patch_of_nothing given active =
    option_and_then (λ file. option_and_then (patch_at given active file.side) (patched active file)) (item_of active)

abbrev pub patches_of_nothing : List ActiveFile → List Blame
patches_of_nothing active = filter_map (patch_of_nothing (is_given active)) active

-- ---- types

-- the dictionary entries of each type, by layer
abbrev pub Kinds : Type 0
Kinds = List ℕ → List TypeEntry

-- the type that is named by the last of these entries to name one
abbrev pub last_parent : List TypeEntry → Option (List ℕ)
last_parent entries = last_given (λ (entry : TypeEntry). entry.parent) entries

-- the type that a listed type narrows, the empty name where no dictionary names one
abbrev pub narrowed : Kinds → List ℕ → List ℕ
narrowed kinds name = unwrap_or (last_parent (kinds name)) []

-- a way ends at a base type, and at a name that isn't listed
abbrev pub is_end : Kinds → List ℕ → Bool
is_end kinds name = is_some (base_of name) || not (is_there (kinds name))

-- where the way of a type is after so many moves, or where it ends before
unfoldable pub reached : ℕ → Kinds → List ℕ → List ℕ
reached zero kinds name = name
reached (suc moves) kinds name = if is_end kinds name then name else reached moves kinds (narrowed kinds name)

abbrev pub max_moves : ℕ
max_moves = 32

abbrev pub type_subject : List ℕ → List ℕ
type_subject name = labelled (codes "type") name

-- a way that comes to a name which isn't listed, or which it would move on from
abbrev pub way_fault : Kinds → List ℕ → List ℕ → Fault
way_fault kinds name last =
    if is_there (kinds last) then fault code.TypeCycle (type_subject name) []
    else fault code.TypeUnknown (type_subject name) last

-- a type that reaches no base type within these moves
abbrev pub type_fault_at : Kinds → List ℕ → List ℕ → Option Fault
type_fault_at kinds name last = fault_if (not (is_some (base_of last))) (way_fault kinds name last)

abbrev pub type_fault : Kinds → List ℕ → Option Fault
type_fault kinds name = type_fault_at kinds name (reached max_moves kinds name)

abbrev pub types_of : ActiveFile → List (List ℕ)
types_of file = map (λ entry. entry.name) (types_said file.file.raw)

-- the types that dictionaries list, each as often as it is listed
abbrev pub listed_types : List ActiveFile → List (List ℕ)
listed_types active = flat_map types_of active

-- ---- all

-- the faults that are looked at first
abbrev pub file_groups : List StoredFile → List (List ℕ) → List ActiveFile → List FaultGroup
file_groups files enabled active =
    group_of code.TooMany (limits_passed files enabled (length (active_keys active)))
    ∷ group_of code.ExtensionUnknown (unknown_extensions enabled active)
    ∷ group_of code.KeyClash (key_clashes active)
    ∷ group_of code.UidTaken (uids_taken active)
    ∷ group_of code.PatchTarget (patches_of_nothing active)
    ∷ []

abbrev pub file_faults : List StoredFile → List (List ℕ) → List ActiveFile → List Fault
file_faults files enabled active = faults_in (file_groups files enabled active)

-- those that are looked at where there are none of the first
abbrev pub type_faults : Kinds → List ActiveFile → List Fault
type_faults kinds active = filter_map (type_fault kinds) (listed_types active)

abbrev pub own_fault : List StoredFile → List (List ℕ) → Option Fault
own_fault files enabled =
    let active = active_files files enabled in
    option_or (least_fault (file_faults files enabled active))
    (least_fault (type_faults (looks files enabled).kinds active))
