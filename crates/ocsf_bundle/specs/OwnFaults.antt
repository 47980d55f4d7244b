-- What is wrong with the files as a whole, as a bundle finds it by its index.
use Rattle.std.specs.Prelude.{ℕ, ◌++◌, not, Bool, false, List, [], length, codes, Option, Some, None}
use Rattle.std.specs.List.{filter_map}
use Rattle.std.specs.Option.{option_map, option_map_or, option_and_then, option_or}
use Rattle.std.specs.Ordering.{is_lt}
use Rattle.ocsf_lists.specs.ByName.{text_cmp}
use Rattle.ocsf_tree.specs.Key.{side_text}
use Rattle.ocsf_tree.specs.LeastFault.{lesser_fault, least_fault}
use Rattle.ocsf_tree.specs.FaultGroups.{Blame, blame_if, fault_of, group_of, faults_of}
use Rattle.ocsf_tree.specs.declared.fault.Code.{Code}
use Rattle.ocsf_tree.specs.declared.fault.Fault.{Fault}
use Rattle.ocsf_tree.specs.declared.fault.Code.TheVariants as code
use Rattle.ocsf_tree.specs.declared.key.Side.TheVariants as side
use Rattle.ocsf_raw.specs.declared.dictionary.TypeEntry.{TypeEntry}
use Rattle.ocsf_bundle.specs.declared.stored.StoredFile.{StoredFile}
use Rattle.ocsf_bundle.specs.declared.stored.ActiveFile.{ActiveFile}
use Rattle.ocsf_bundle.specs.declared.groups.Group.{Group}
use Rattle.ocsf_bundle.specs.declared.index.Index.{Index}
use Rattle.ocsf_bundle.specs.declared.index.Sides.{Sides}
use Rattle.ocsf_bundle.specs.Active.{active_files}
use Rattle.ocsf_bundle.specs.Looks.{is_there}
use Rattle.ocsf_bundle.specs.FilesLook.{kind_of}
use Rattle.ocsf_bundle.specs.Groups.{group_at}
use Rattle.ocsf_bundle.specs.Index.{groups_by_side}
use Rattle.ocsf_bundle.specs.declared.numbers.Numbered.{Numbered}
use Rattle.ocsf_bundle.specs.BundleFaults.{second_of, IsGiven, Kinds, limits_passed, number_taken, extension_numbers}
use Rattle.ocsf_bundle.specs.BundleFaults.{listed_categories, with_other, patch_of_nothing, type_faults}

-- the least so far, and what may be one fault more
abbrev pub lesser_of : Option Fault → Option Fault → Option Fault
lesser_of least None = least
lesser_of least (Some f) = lesser_fault least f

-- whether the least name of a number, if it has one, is before this one
abbrev pub has_lesser : Option (List ℕ) → List ℕ → Bool
has_lesser found name = option_map_or (λ least. is_lt (text_cmp least name)) found false

-- the fault, where someone is blamed
abbrev pub fault_where : Code → Option Blame → Option Fault
fault_where code blamed = option_map (fault_of code) blamed

abbrev pub unknown_in : List Group → List ℕ → Option Fault
unknown_in extensions name =
    fault_where code.ExtensionUnknown (blame_if (not (is_there (group_at name extensions))) name [])

abbrev pub clash_in : List ℕ → Group → Option Fault
clash_in label group = fault_where code.KeyClash (second_of label group.name group.files)

abbrev pub clashes_in : List ℕ → List Group → List Fault
clashes_in label groups = filter_map (clash_in label) groups

abbrev pub key_clashes_in : Index → List Fault
key_clashes_in index =
    clashes_in (side_text side.Class) index.items.classes
    ++ clashes_in (side_text side.Object) index.items.objects
    ++ clashes_in (codes "profile") index.profiles
    ++ clashes_in (codes "extension") index.extensions

abbrev pub number_fault : List ℕ → List Numbered → Numbered → Option Fault
number_fault label all x = fault_where code.UidTaken (number_taken label all x)

abbrev pub number_faults : List ℕ → List Numbered → List Fault
number_faults label all = filter_map (number_fault label all) all

abbrev pub uid_faults : List ActiveFile → List Fault
uid_faults active =
    number_faults (codes "extension") (extension_numbers active)
    ++ number_faults (codes "category") (with_other (listed_categories active))

abbrev pub patch_fault : IsGiven → ActiveFile → Option Fault
patch_fault given active = fault_where code.PatchTarget (patch_of_nothing given active)

abbrev pub limit_fault : List ℕ → Bool → Option Fault
limit_fault what is_passed = fault_where code.TooMany (blame_if is_passed (codes "bundle") what)

abbrev pub limit_faults : List StoredFile → List (List ℕ) → ℕ → List Fault
limit_faults files enabled items = faults_of (group_of code.TooMany (limits_passed files enabled items))

abbrev pub given_in : Sides → IsGiven
given_in items s name = is_there (group_at name (groups_by_side s items))

abbrev pub kinds_in : List ActiveFile → Kinds
kinds_in dictionaries name = filter_map (kind_of name) dictionaries

-- the type that the entry names, if it is there and names one
abbrev pub parent_in : Option TypeEntry → Option (List ℕ)
parent_in entry = option_and_then (λ e. e.parent) entry

-- where the limits are kept
abbrev pub file_fault_in : List (List ℕ) → List ActiveFile → Index → Option Fault
file_fault_in enabled active index =
    option_or (least_fault (filter_map (unknown_in index.extensions) enabled))
    (option_or (least_fault (key_clashes_in index))
    (option_or (least_fault (uid_faults active))
    (least_fault (filter_map (patch_fault (given_in index.items)) active))))

abbrev pub own_fault_in : List StoredFile → List (List ℕ) → Index → Option Fault
own_fault_in files enabled index =
    let active = active_files files enabled in
    option_or (least_fault (limit_faults files enabled (length index.keys)))
    (option_or (file_fault_in enabled active index)
    (least_fault (type_faults (kinds_in index.dictionaries) active)))
