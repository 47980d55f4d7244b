-- What a bundle keeps to holds of what it finds.
use Rattle.std.proofs.Common.{◌≡◌, ◌≤◌, ◌+◌, ℕ, List, [], ◌∷◌, ◌++◌, map, length, Bool, true, false, cond, Option, Some, None, refl, sym, ◌∙◌, ap, subst, arith}
use Rattle.std.specs.Prelude.{nat_le, if◌then◌else◌, codes}
use Rattle.std.specs.Option.{IfSome, option_map, option_and_then}
use Rattle.std.specs.List.{filter, filter_map, cons_option}
use Rattle.std.specs.Str.{bytes_eq}
use Rattle.std.proofs.lemmas.List.Elements.{All-filter}
use Rattle.std.proofs.lemmas.List.{length-map}
use Rattle.ocsf_tree.specs.declared.key.Side.{Side}
use Rattle.ocsf_tree.specs.declared.key.Side.TheVariants as side
use Rattle.ocsf_tree.specs.declared.key.Key.{Key}
use Rattle.ocsf_lists.specs.ByName.{at_name}
use Rattle.ocsf_bundle.specs.declared.cells.Cell.{Cell}
use Rattle.ocsf_bundle.specs.declared.cells.Cell.TheVariants as cell
use Rattle.ocsf_bundle.specs.declared.stored.StoredFile.{StoredFile}
use Rattle.ocsf_bundle.specs.declared.stored.ActiveFile.{ActiveFile}
use Rattle.ocsf_bundle.specs.declared.keys.GroupBy.TheVariants as by
use Rattle.ocsf_bundle.specs.Stored.{stored_path, IsStoredSound, IsActiveSound, AreFilesSound}
use Rattle.ocsf_bundle.specs.Active.{active_file, active_files, if_enabled, is_enabled, extension_path, in_layers, into_order, extension_uid, is_of_extension, extension_in, extension_folder, of_extension, of_core}
use Rattle.ocsf_bundle.specs.Keys.{gives, giving, key_given, patch_given, profile_given, include_given, extension_given, side_keys, active_keys, keys_given}
use Rattle.ocsf_bundle.specs.Groups.{given_by, group, group_at, groups_of}
use Rattle.ocsf_bundle.specs.Index.{index_of, side_groups, groups_by_side, is_dictionary, is_categories, group_key, group_keys}
use Rattle.ocsf_bundle.specs.Parts.{asked, AreActiveSound, AreGroupsByName}
use Rattle.ocsf_bundle.specs.Looks.{CategoryOf, BuiltIn, is_there, look, show_patch, show_included, show_entry, show_category}
use Rattle.ocsf_bundle.specs.FilesLook.{item_of, patch_of, profile_of, include_of, dict_of, kind_of, category_of, extension_file_of, or_built_in, looks_of, looks}
use Rattle.ocsf_bundle.specs.Shown.{There, Item, Profile, Kind, Ext}
use Rattle.ocsf_bundle.proofs.Grouped.{IsByName-groups_of, group_at-groups_of}
use Rattle.ocsf_bundle.proofs.Ordered.{at_name-holds, in_order-all, filter_map-all}

pub groups_by_name : (files : List ActiveFile) → AreGroupsByName (index_of files)
groups_by_name files = record {
  classes = IsByName-groups_of (key_given side.Class) files;
  objects = IsByName-groups_of (key_given side.Object) files;
  class_patches = IsByName-groups_of (patch_given side.Class) (in_layers files);
  object_patches = IsByName-groups_of (patch_given side.Object) (in_layers files);
  profiles = IsByName-groups_of profile_given files;
  includes = IsByName-groups_of include_given files;
  extensions = IsByName-groups_of extension_given files;
}

-- ---- what the files say stands in order

taken : (file : StoredFile) (o : Option StoredFile) → IsStoredSound file → IfSome o IsStoredSound → IfSome (option_map (of_extension file) o) IsActiveSound
taken file None h k = tt
taken file (Some ext) h k = (h, k)

enabled_sound : (enabled : List (List ℕ)) (o : Option StoredFile) → IfSome o IsStoredSound → IfSome (option_and_then (if_enabled enabled) o) IsStoredSound
enabled_sound enabled None h = tt
enabled_sound enabled (Some file) h = elim (is_enabled enabled file) as (λ (b : Bool). IfSome (if b then Some file else None) IsStoredSound) [ true ↦ h | false ↦ tt ]

one_active : (files : List StoredFile) (enabled : List (List ℕ)) → AreFilesSound files → (file : StoredFile) → IsStoredSound file → IfSome (active_file files enabled file) IsActiveSound
one_active files enabled all file h =
    elim (is_of_extension file.path) as (λ (b : Bool). IfSome (if b then option_map (of_extension file) (extension_in files enabled (extension_folder file.path)) else Some (of_core file)) IsActiveSound) [
      | true ↦
          taken file (extension_in files enabled (extension_folder file.path)) h
          (enabled_sound enabled (at_name stored_path (extension_path (extension_folder file.path)) files) (at_name-holds IsStoredSound stored_path (extension_path (extension_folder file.path)) files all))
      | false ↦ (h, tt)
    ]

active_ordered : (files : List StoredFile) (enabled : List (List ℕ)) → AreFilesSound files → AreActiveSound (active_files files enabled)
active_ordered files enabled all = filter_map-all IsStoredSound IsActiveSound (active_file files enabled) (one_active files enabled all) files all

group_ordered : (key : ActiveFile → Option (List ℕ)) (q : List ℕ) (files : List ActiveFile) → AreActiveSound files → AreActiveSound (group_at q (groups_of key files))
group_ordered key q files all = subst AreActiveSound (sym (group_at-groups_of key files q)) (All-filter (gives key q) IsActiveSound files all)

side_ordered : (key : Side → ActiveFile → Option (List ℕ)) (s : Side) (q : List ℕ) (files : List ActiveFile) → AreActiveSound files → AreActiveSound (group_at q (groups_by_side s (side_groups key files)))
side_ordered key side.Class q files all = group_ordered (key side.Class) q files all
side_ordered key side.Object q files all = group_ordered (key side.Object) q files all

layers_ordered : (files : List ActiveFile) → AreActiveSound files → AreActiveSound (in_layers files)
layers_ordered files all = in_order-all IsActiveSound extension_uid files all

asked_active : (files : List ActiveFile) (c : Cell) → AreActiveSound files → AreActiveSound (asked (index_of files) c)
asked_active files (cell.Item key) all = side_ordered (λ s. given_by (by.Item s)) key.side key.name files all
asked_active files (cell.Exists key) all = side_ordered (λ s. given_by (by.Item s)) key.side key.name files all
asked_active files (cell.Patches key) all = side_ordered (λ s. given_by (by.Patched s)) key.side key.name (in_layers files) (layers_ordered files all)
asked_active files (cell.Profile key) all = group_ordered profile_given key files all
asked_active files (cell.Include from path) all = group_ordered include_given path files all
asked_active files (cell.Dict name) all = All-filter is_dictionary IsActiveSound (in_layers files) (layers_ordered files all)
asked_active files (cell.Kind name) all = All-filter is_dictionary IsActiveSound (in_layers files) (layers_ordered files all)
asked_active files (cell.Category key) all = All-filter is_categories IsActiveSound (in_layers files) (layers_ordered files all)
asked_active files (cell.Ext name) all = group_ordered extension_given name files all

-- of the files that are asked
pub asked_ordered : (files : List StoredFile) (enabled : List (List ℕ)) (c : Cell) → AreFilesSound files → AreActiveSound (asked (index_of (active_files files enabled)) c)
asked_ordered files enabled c all = asked_active (active_files files enabled) c (active_ordered files enabled all)

-- ---- keys

keys_of_groups : (s : Side) (key : ActiveFile → Option (List ℕ)) (files : List ActiveFile) (ns : List (List ℕ)) → group_keys s (map (group key files) ns) ≡ map (λ (name : List ℕ). let k : Key = record { side = s; name = name } in k) ns
keys_of_groups s key files [] = refl
keys_of_groups s key files (n ∷ ns) = ap (λ ks. group_key s (group key files n) ∷ ks) (keys_of_groups s key files ns)

pub keys-index_of : (files : List ActiveFile) → (index_of files).keys ≡ active_keys files
keys-index_of files =
    ap (λ ks. ks ++ group_keys side.Object (groups_of (key_given side.Object) files)) (keys_of_groups side.Class (key_given side.Class) files (keys_given (key_given side.Class) files))
    ∙ ap (λ ks. side_keys side.Class files ++ ks) (keys_of_groups side.Object (key_given side.Object) files (keys_given (key_given side.Object) files))

-- ---- how many parts a cell may show

shorter : {A B : Type 0} (f : A → Option B) (xs : List A) → length (filter_map f xs) ≤ length xs
shorter f [] = omega arith
shorter f (x ∷ xs) = one (f x) (shorter f xs)
  where
    one : (o : Option _) → length (filter_map f xs) ≤ length xs → length (cons_option o (filter_map f xs)) ≤ length (x ∷ xs)
    one None h = omega arith
    one (Some y) h = omega arith

fewer : {A : Type 0} (p : A → Bool) (xs : List A) → length (filter p xs) ≤ length xs
fewer p [] = omega arith
fewer p (x ∷ xs) =
    let rest = fewer p xs in
    elim (p x) as (λ b. length (cond b (x ∷ filter p xs) (filter p xs)) ≤ length (x ∷ xs)) [ true ↦ omega arith | false ↦ omega arith ]

into_longer : (a : ActiveFile) (xs : List ActiveFile) → length (into_order extension_uid a xs) ≡ length xs + 1
into_longer a [] = omega arith
into_longer a (x ∷ xs) =
    let rest = into_longer a xs in
    elim (nat_le (extension_uid a) (extension_uid x)) as (λ b. length (cond b (a ∷ x ∷ xs) (x ∷ into_order extension_uid a xs)) ≡ length (x ∷ xs) + 1) [ true ↦ omega arith | false ↦ omega arith ]

as_many : (xs : List ActiveFile) → length (in_layers xs) ≡ length xs
as_many [] = refl
as_many (x ∷ xs) = let rest = as_many xs in let e = into_longer x (in_layers xs) in omega arith

given_fewer : {B : Type 0} (f : ActiveFile → Option B) (key : ActiveFile → Option (List ℕ)) (q : List ℕ) (xs : List ActiveFile) → length (filter_map f (giving key q xs)) ≤ length xs
given_fewer f key q xs = let a = shorter f (giving key q xs) in let b = fewer (gives key q) xs in omega arith

layered_fewer : {B : Type 0} (f : ActiveFile → Option B) (xs : List ActiveFile) → length (filter_map f (in_layers xs)) ≤ length xs
layered_fewer f xs = let a = shorter f (in_layers xs) in let b = as_many xs in omega arith

shown_many : {A B : Type 0} (f : A → B) (xs : List A) (n : ℕ) → length xs ≤ n → length (map f xs) ≤ n + 1
shown_many f xs n h = let e : length (map f xs) ≡ length xs = length-map xs f in omega arith

one_there : {A B : Type 0} (x : B) (xs : List A) (n : ℕ) → length (if is_there xs then x ∷ [] else []) ≤ n + 1
one_there x [] n = omega arith
one_there x (y ∷ ys) n = omega arith

other_many : (key : List ℕ) (xs : List CategoryOf) (n : ℕ) → length xs ≤ n → length (or_built_in key xs) ≤ n + 1
other_many key [] n h = elim (bytes_eq key (codes "other")) as (λ (b : Bool). length (if b then BuiltIn ∷ [] else []) ≤ n + 1) [ true ↦ omega arith | false ↦ omega arith ]
other_many key (x ∷ xs) n h = omega arith

given_layered : {B : Type 0} (f : ActiveFile → Option B) (key : ActiveFile → Option (List ℕ)) (q : List ℕ) (xs : List ActiveFile) → length (filter_map f (giving key q (in_layers xs))) ≤ length xs
given_layered f key q xs = let a = given_fewer f key q (in_layers xs) in let b = as_many xs in omega arith

many_parts : (files : List ActiveFile) (c : Cell) → length (look (looks_of files (in_layers files)) c) ≤ length files + 1
many_parts files (cell.Item key) = shown_many Item (filter_map item_of (giving (key_given key.side) key.name files)) (length files) (given_fewer item_of (key_given key.side) key.name files)
many_parts files (cell.Exists key) = one_there There (filter_map item_of (giving (key_given key.side) key.name files)) (length files)
many_parts files (cell.Patches key) = shown_many show_patch (filter_map patch_of (giving (patch_given key.side) key.name (in_layers files))) (length files) (given_layered patch_of (patch_given key.side) key.name files)
many_parts files (cell.Profile key) = shown_many Profile (filter_map profile_of (giving profile_given key files)) (length files) (given_fewer profile_of profile_given key files)
many_parts files (cell.Include from path) = shown_many show_included (filter_map (include_of from) (giving include_given path files)) (length files) (given_fewer (include_of from) include_given path files)
many_parts files (cell.Dict name) = shown_many show_entry (filter_map (dict_of name) (in_layers files)) (length files) (layered_fewer (dict_of name) files)
many_parts files (cell.Kind name) = shown_many Kind (filter_map (kind_of name) (in_layers files)) (length files) (layered_fewer (kind_of name) files)
many_parts files (cell.Category key) =
    let a = other_many key (filter_map (category_of key) (in_layers files)) (length files) (layered_fewer (category_of key) files) in
    let b = length-map (or_built_in key (filter_map (category_of key) (in_layers files))) show_category in
    omega arith
many_parts files (cell.Ext name) = shown_many Ext (filter_map extension_file_of (giving extension_given name files)) (length files) (given_fewer extension_file_of extension_given name files)

-- no cell shows more parts than there are files, and one
pub most_parts : (files : List StoredFile) (enabled : List (List ℕ)) (c : Cell) → length (look (looks files enabled) c) ≤ length files + 1
most_parts files enabled c =
    let a = many_parts (active_files files enabled) c in
    let b = shorter (active_file files enabled) files in
    omega arith
