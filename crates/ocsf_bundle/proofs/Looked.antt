-- What is found by the index is what the cells show.
use Rattle.std.proofs.Common.{◌≡◌, ℕ, List, [], ◌∷◌, map, take, Bool, true, false, cond, Option, Some, None, refl, sym, ◌∙◌, ap}
use Rattle.std.specs.Prelude.{codes, if◌then◌else◌}
use Rattle.std.specs.Option.{option_map, option_and_then}
use Rattle.std.specs.List.{filter, filter_map, cons_option}
use Rattle.std.specs.Str.{bytes_eq}
use Rattle.ocsf_lists.specs.ByName.{at_name}
use Rattle.ocsf_tree.specs.declared.key.Side.{Side}
use Rattle.ocsf_tree.specs.declared.key.Side.TheVariants as side
use Rattle.ocsf_raw.specs.declared.files.RawFile.{RawFile}
use Rattle.ocsf_raw.specs.declared.files.RawFile.TheVariants as raw
use Rattle.ocsf_bundle.specs.declared.cells.Cell.{Cell}
use Rattle.ocsf_bundle.specs.declared.cells.Cell.TheVariants as cell
use Rattle.ocsf_bundle.specs.declared.stored.ActiveFile.{ActiveFile}
use Rattle.ocsf_bundle.specs.declared.keys.GroupBy.TheVariants as by
use Rattle.ocsf_bundle.specs.Active.{in_layers, extension_uid}
use Rattle.ocsf_bundle.specs.Keys.{giving, key_given, patch_given, profile_given, include_given, extension_given}
use Rattle.ocsf_bundle.specs.Shown.{There, Item, Profile, Kind, Other, Ext}
use Rattle.ocsf_bundle.specs.Looks.{CategoryOf, BuiltIn, Listed, is_there, look, show_patch, show_included, show_entry, show_category}
use Rattle.ocsf_bundle.specs.FilesLook.{item_of, patch_of, profile_of, include_of, dict_by, dict_of, kind_of, category_of, category_named, local_name, extension_file_of, attributes_said, types_said, categories_said, or_built_in, looks_of}
use Rattle.ocsf_bundle.specs.Groups.{given_by, group_at}
use Rattle.ocsf_bundle.specs.Index.{index_of, side_groups, groups_by_side, says_dictionary, says_categories, is_dictionary, is_categories}
use Rattle.ocsf_bundle.specs.Parts.{part_in, or_other, found}
use Rattle.ocsf_bundle.proofs.Grouped.{group_at-groups_of}

shown_each : {A B C : Type 0} (f : B → C) (g : A → Option B) (xs : List A) → filter_map (λ x. option_map f (g x)) xs ≡ map f (filter_map g xs)
shown_each f g [] = refl
shown_each f g (x ∷ xs) =
    ap (cons_option (option_map f (g x))) (shown_each f g xs) ∙ one (g x)
  where
    one : (o : Option _) → cons_option (option_map f o) (map f (filter_map g xs)) ≡ map f (cons_option o (filter_map g xs))
    one None = refl
    one (Some y) = refl

-- what is passed over gives nothing
pub passed_over : {A B : Type 0} (p : A → Bool) (f : A → Option B) → ((x : A) → p x ≡ false → f x ≡ None) → (xs : List A) → filter_map f (filter p xs) ≡ filter_map f xs
passed_over p f none [] = refl
passed_over p f none (x ∷ xs) =
    elim (p x) as (λ (b : Bool). p x ≡ b → filter_map f (cond b (x ∷ filter p xs) (filter p xs)) ≡ filter_map f (x ∷ xs)) [
      | true ↦ λ e. ap (cons_option (f x)) (passed_over p f none xs)
      | false ↦ λ e. passed_over p f none xs ∙ ap (λ o. cons_option o (filter_map f xs)) (sym (none x e))
    ] refl

pub side_group : (key : Side → ActiveFile → Option (List ℕ)) (s : Side) (q : List ℕ) (files : List ActiveFile) → group_at q (groups_by_side s (side_groups key files)) ≡ giving (key s) q files
side_group key side.Class q files = group_at-groups_of (key side.Class) files q
side_group key side.Object q files = group_at-groups_of (key side.Object) files q

first_only : (xs : List ActiveFile) → take 1 (filter_map (λ a. option_map (λ file. There) (item_of a)) xs) ≡ (if is_there (filter_map item_of xs) then There ∷ [] else [])
first_only [] = refl
first_only (x ∷ xs) =
    elim (item_of x) as (λ o. take 1 (cons_option (option_map (λ file. There) o) (filter_map (λ a. option_map (λ file. There) (item_of a)) xs)) ≡ (if is_there (cons_option o (filter_map item_of xs)) then There ∷ [] else [])) [
      | None ↦ first_only xs
      | Some file ↦ refl
    ]

pub no_attributes : (r : RawFile) → says_dictionary r ≡ false → attributes_said r ≡ []
no_attributes (raw.Dictionary file) e = cc
no_attributes (raw.Version text) e = refl
no_attributes (raw.Categories entries) e = refl
no_attributes (raw.Item file) e = refl
no_attributes (raw.Profile file) e = refl
no_attributes (raw.Include entries) e = refl
no_attributes (raw.Extension file) e = refl

pub no_types : (r : RawFile) → says_dictionary r ≡ false → types_said r ≡ []
no_types (raw.Dictionary file) e = cc
no_types (raw.Version text) e = refl
no_types (raw.Categories entries) e = refl
no_types (raw.Item file) e = refl
no_types (raw.Profile file) e = refl
no_types (raw.Include entries) e = refl
no_types (raw.Extension file) e = refl

pub no_categories : (r : RawFile) → says_categories r ≡ false → categories_said r ≡ []
no_categories (raw.Categories entries) e = cc
no_categories (raw.Version text) e = refl
no_categories (raw.Dictionary file) e = refl
no_categories (raw.Item file) e = refl
no_categories (raw.Profile file) e = refl
no_categories (raw.Include entries) e = refl
no_categories (raw.Extension file) e = refl

no_entry : (name : List ℕ) (a : ActiveFile) → is_dictionary a ≡ false → dict_of name a ≡ None
no_entry name a e = ap (λ l. option_map (dict_by a) (at_name (λ entry. entry.name) name l)) (no_attributes a.file.raw e)

pub no_kind : (name : List ℕ) (a : ActiveFile) → is_dictionary a ≡ false → kind_of name a ≡ None
no_kind name a e = ap (at_name (λ entry. entry.name) name) (no_types a.file.raw e)

nowhere : (a : ActiveFile) → is_categories a ≡ false → (o : Option (List ℕ)) → option_and_then (category_named a) o ≡ None
nowhere a e None = refl
nowhere a e (Some name) = ap (λ l. option_map (Listed (extension_uid a)) (at_name (λ entry. entry.name) name l)) (no_categories a.file.raw e)

no_category : (key : List ℕ) (a : ActiveFile) → is_categories a ≡ false → category_of key a ≡ None
no_category key a e = nowhere a e (local_name a key)

built_in : (key : List ℕ) (xs : List CategoryOf) → or_other key (map show_category xs) ≡ map show_category (or_built_in key xs)
built_in key [] = elim (bytes_eq key (codes "other")) as (λ (b : Bool). (if b then Other ∷ [] else []) ≡ map show_category (if b then BuiltIn ∷ [] else [])) [ true ↦ refl | false ↦ refl ]
built_in key (x ∷ xs) = refl

-- by the index a cell shows what it shows
pub found-look : (files : List ActiveFile) (c : Cell) → found (index_of files) c ≡ look (looks_of files (in_layers files)) c
found-look files (cell.Item key) =
    ap (filter_map (part_in (cell.Item key))) (side_group (λ s. given_by (by.Item s)) key.side key.name files)
    ∙ shown_each Item item_of (giving (key_given key.side) key.name files)
found-look files (cell.Exists key) =
    ap (λ l. take 1 (filter_map (part_in (cell.Exists key)) l)) (side_group (λ s. given_by (by.Item s)) key.side key.name files)
    ∙ first_only (giving (key_given key.side) key.name files)
found-look files (cell.Patches key) =
    ap (filter_map (part_in (cell.Patches key))) (side_group (λ s. given_by (by.Patched s)) key.side key.name (in_layers files))
    ∙ shown_each show_patch patch_of (giving (patch_given key.side) key.name (in_layers files))
found-look files (cell.Profile key) =
    ap (filter_map (part_in (cell.Profile key))) (group_at-groups_of profile_given files key)
    ∙ shown_each Profile profile_of (giving profile_given key files)
found-look files (cell.Include from path) =
    ap (filter_map (part_in (cell.Include from path))) (group_at-groups_of include_given files path)
    ∙ shown_each show_included (include_of from) (giving include_given path files)
found-look files (cell.Dict name) =
    passed_over is_dictionary (part_in (cell.Dict name)) (λ a e. ap (option_map show_entry) (no_entry name a e)) (in_layers files)
    ∙ shown_each show_entry (dict_of name) (in_layers files)
found-look files (cell.Kind name) =
    passed_over is_dictionary (part_in (cell.Kind name)) (λ a e. ap (option_map Kind) (no_kind name a e)) (in_layers files)
    ∙ shown_each Kind (kind_of name) (in_layers files)
found-look files (cell.Category key) =
    ap (or_other key) (passed_over is_categories (part_in (cell.Category key)) (λ a e. ap (option_map show_category) (no_category key a e)) (in_layers files)
    ∙ shown_each show_category (category_of key) (in_layers files))
    ∙ built_in key (filter_map (category_of key) (in_layers files))
found-look files (cell.Ext name) =
    ap (filter_map (part_in (cell.Ext name))) (group_at-groups_of extension_given files name)
    ∙ shown_each Ext extension_file_of (giving extension_given name files)
