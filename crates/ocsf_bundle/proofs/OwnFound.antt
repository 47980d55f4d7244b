-- What is found by the index is what is wrong with the files.
use Rattle.std.proofs.Common.{◌≡◌, ℕ, List, [], ◌∷◌, ◌++◌, map, length, not, Option, Some, None, refl, sym, ◌∙◌, ap}
use Rattle.std.specs.Prelude.{codes}
use Rattle.std.specs.Option.{option_or}
use Rattle.std.specs.List.{filter_map, cons_option}
use Rattle.std.proofs.lemmas.List.{map-append}
use Rattle.ocsf_tree.specs.Key.{side_text}
use Rattle.ocsf_tree.specs.LeastFault.{least_fault}
use Rattle.ocsf_tree.specs.FaultGroups.{Blame, blame_if, fault_of, group_of, faults_of, first_least}
use Rattle.ocsf_tree.specs.declared.fault.Fault.{Fault}
use Rattle.ocsf_tree.specs.declared.fault.Code.{Code}
use Rattle.ocsf_tree.specs.declared.fault.Code.TheVariants as code
use Rattle.ocsf_tree.specs.declared.key.Side.TheVariants as side
use Rattle.ocsf_tree.proofs.FaultGroups.{least-faults_in, faults_of-each}
use Rattle.ocsf_bundle.specs.declared.stored.StoredFile.{StoredFile}
use Rattle.ocsf_bundle.specs.declared.stored.ActiveFile.{ActiveFile}
use Rattle.ocsf_bundle.specs.declared.numbers.Numbered.{Numbered}
use Rattle.ocsf_bundle.specs.declared.keys.GroupBy.TheVariants as by
use Rattle.ocsf_bundle.specs.Active.{active_files, in_layers}
use Rattle.ocsf_bundle.specs.Keys.{giving, keys_given, key_given, profile_given, extension_given, active_keys}
use Rattle.ocsf_bundle.specs.Looks.{is_there}
use Rattle.ocsf_bundle.specs.FilesLook.{kind_of, looks}
use Rattle.ocsf_bundle.specs.Groups.{given_by, group, groups_of}
use Rattle.ocsf_bundle.specs.Index.{index_of, is_dictionary}
use Rattle.ocsf_bundle.specs.BundleFaults.{extension_unknown, unknown_extensions, second_of, clashes, key_clashes, number_taken, numbers_taken, extension_numbers, listed_categories, with_other, uids_taken, is_given, patch_of_nothing, patches_of_nothing, file_groups, file_faults, type_faults, own_fault}
use Rattle.ocsf_bundle.specs.OwnFaults.{fault_where, unknown_in, clash_in, clashes_in, key_clashes_in, number_faults, uid_faults, given_in, patch_fault, limit_faults, kinds_in, file_fault_in, own_fault_in}
use Rattle.ocsf_bundle.proofs.Grouped.{group_at-groups_of}
use Rattle.ocsf_bundle.proofs.Kept.{keys-index_of}
use Rattle.ocsf_bundle.proofs.Looked.{passed_over, side_group, no_kind}

filter_map-map : {A B C : Type 0} (f : B → Option C) (g : A → B) (xs : List A) → filter_map f (map g xs) ≡ filter_map (λ x. f (g x)) xs
filter_map-map f g [] = refl
filter_map-map f g (x ∷ xs) = ap (cons_option (f (g x))) (filter_map-map f g xs)

-- ---- by the index

abbrev of_code : Code → List Blame → List Fault
of_code c bs = faults_of (group_of c bs)

unknown-index_of : (enabled : List (List ℕ)) (active : List ActiveFile) → filter_map (unknown_in (index_of active).extensions) enabled ≡ of_code code.ExtensionUnknown (unknown_extensions enabled active)
unknown-index_of enabled active =
    let same : unknown_in (index_of active).extensions ≡ (λ name. fault_where code.ExtensionUnknown (extension_unknown active name)) =
    λ i name. fault_where code.ExtensionUnknown (blame_if (not (is_there (group_at-groups_of extension_given active name i))) name []) in
    ap (λ f. filter_map f enabled) same ∙ sym (faults_of-each code.ExtensionUnknown (extension_unknown active) enabled)

clashes-groups_of : (label : List ℕ) (key : ActiveFile → Option (List ℕ)) (active : List ActiveFile) → clashes_in label (groups_of key active) ≡ of_code code.KeyClash (clashes label key active)
clashes-groups_of label key active =
    filter_map-map (clash_in label) (group key active) (keys_given key active)
    ∙ sym (faults_of-each code.KeyClash (λ name. second_of label name (giving key name active)) (keys_given key active))

key_clashes-index_of : (active : List ActiveFile) → key_clashes_in (index_of active) ≡ of_code code.KeyClash (key_clashes active)
key_clashes-index_of active =
    let a = clashes (side_text side.Class) (key_given side.Class) active in
    let b = clashes (side_text side.Object) (key_given side.Object) active in
    let c = clashes (codes "profile") profile_given active in
    let d = clashes (codes "extension") extension_given active in
    let f = fault_of code.KeyClash in
    (λ i. clashes-groups_of (side_text side.Class) (key_given side.Class) active i
    ++ clashes-groups_of (side_text side.Object) (key_given side.Object) active i
    ++ clashes-groups_of (codes "profile") profile_given active i
    ++ clashes-groups_of (codes "extension") extension_given active i)
    ∙ sym (map-append f (a ++ b ++ c) d ∙ ap (λ l. l ++ map f d) (map-append f (a ++ b) c ∙ ap (λ l. l ++ map f c) (map-append f a b)))

numbers_found : (label : List ℕ) (all : List Numbered) → number_faults label all ≡ of_code code.UidTaken (numbers_taken label all)
numbers_found label all = sym (faults_of-each code.UidTaken (number_taken label all) all)

uids_found : (active : List ActiveFile) → uid_faults active ≡ of_code code.UidTaken (uids_taken active)
uids_found active =
    let categories = with_other (listed_categories active) in
    (λ i. numbers_found (codes "extension") (extension_numbers active) i ++ numbers_found (codes "category") categories i)
    ∙ sym (map-append (fault_of code.UidTaken) (numbers_taken (codes "extension") (extension_numbers active)) (numbers_taken (codes "category") categories))

given-index_of : (active : List ActiveFile) → given_in (index_of active).items ≡ is_given active
given-index_of active = λ i s name. is_there (side_group (λ t. given_by (by.Item t)) s name active i)

patches-index_of : (active : List ActiveFile) → filter_map (patch_fault (given_in (index_of active).items)) active ≡ of_code code.PatchTarget (patches_of_nothing active)
patches-index_of active =
    ap (λ given. filter_map (patch_fault given) active) (given-index_of active)
    ∙ sym (faults_of-each code.PatchTarget (patch_of_nothing (is_given active)) active)

kinds-index_of : (files : List StoredFile) (enabled : List (List ℕ)) → kinds_in (index_of (active_files files enabled)).dictionaries ≡ (looks files enabled).kinds
kinds-index_of files enabled = λ i name. passed_over is_dictionary (kind_of name) (no_kind name) (in_layers (active_files files enabled)) i

-- ---- all

or_none : {X : Type 0} (o : Option X) → option_or o None ≡ o
or_none None = refl
or_none (Some x) = refl

or_assoc : {X : Type 0} (a b c : Option X) → option_or (option_or a b) c ≡ option_or a (option_or b c)
or_assoc None b c = refl
or_assoc (Some x) b c = refl

file_fault-index_of : (files : List StoredFile) (enabled : List (List ℕ)) (active : List ActiveFile)
    → option_or (least_fault (limit_faults files enabled (length (active_keys active)))) (file_fault_in enabled active (index_of active)) ≡ first_least (file_groups files enabled active)
file_fault-index_of files enabled active =
    λ i. option_or (least_fault (limit_faults files enabled (length (active_keys active))))
    (option_or (least_fault (unknown-index_of enabled active i))
    (option_or (least_fault (key_clashes-index_of active i))
    (option_or (least_fault (uids_found active i))
    ((ap least_fault (patches-index_of active) ∙ sym (or_none (least_fault (of_code code.PatchTarget (patches_of_nothing active))))) i))))

pub own_fault-index_of : (files : List StoredFile) (enabled : List (List ℕ)) → own_fault_in files enabled (index_of (active_files files enabled)) ≡ own_fault files enabled
own_fault-index_of files enabled =
    let active = active_files files enabled in
    let limits = least_fault (limit_faults files enabled (length (active_keys active))) in
    let types = least_fault (type_faults (looks files enabled).kinds active) in
    (λ i. option_or (least_fault (limit_faults files enabled (length (keys-index_of active i))))
    (option_or (file_fault_in enabled active (index_of active)) (least_fault (type_faults (kinds-index_of files enabled i) active))))
    ∙ sym (or_assoc limits (file_fault_in enabled active (index_of active)) types)
    ∙ ap (λ o. option_or o types) (file_fault-index_of files enabled active ∙ sym (least-faults_in (file_groups files enabled active) refl))
