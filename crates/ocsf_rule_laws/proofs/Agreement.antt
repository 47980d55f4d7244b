-- Two bundles that show the same at some cells.
use Rattle.std.proofs.Common.{◌≡◌, ℕ, zero, suc, List, [], ◌∷◌, ◌++◌, map, true, false, cond, Option, Some, None}
use Rattle.std.proofs.Common.{unwrap_or, if◌then◌else◌, refl, sym, ◌∙◌, ap, subst, reverse}
use Rattle.std.specs.Prelude.{flat_map, take}
use Rattle.std.specs.List.{filter_map, AllByRecursion}
use Rattle.std.specs.Option.{option_and_then}
use Rattle.std.proofs.lemmas.List.{reverse-append}
use Rattle.ocsf_raw.specs.declared.files.ItemFile.{ItemFile}
use Rattle.ocsf_raw.specs.declared.files.ExtFile.{ExtFile}
use Rattle.ocsf_raw.specs.declared.files.ProfileFile.{ProfileFile}
use Rattle.ocsf_tree.specs.declared.key.Key.{Key}
use Rattle.ocsf_bundle.specs.Shown.{Shown, Item, Patch, Profile, Include, Dict, Kind, Category, Other, Ext}
use Rattle.ocsf_bundle.specs.Looks.{Looks, look, is_there, PatchOf, Included, AsProfile, AsInclude, DictOf, CategoryOf}
use Rattle.ocsf_bundle.specs.Looks.{BuiltIn, Listed, show_patch, show_included, show_entry, show_category}
use Rattle.ocsf_bundle.specs.declared.cells.Cell.{Cell}
use Rattle.ocsf_bundle.specs.declared.cells.Cell.TheVariants as cell
use Rattle.ocsf_rules.specs.Names.{is_shown, found, tried}
use Rattle.ocsf_rule_laws.specs.LookLaws.{AgreeAt}

-- ---- lists

module _ {X : Type 0} (P : X → Type 0) where
  pub left : (xs ys : List X) → AllByRecursion P (xs ++ ys) → AllByRecursion P xs
  left [] ys all = tt
  left (x ∷ xs) ys all = (all.0, left xs ys all.1)

  pub right : (xs ys : List X) → AllByRecursion P (xs ++ ys) → AllByRecursion P ys
  right [] ys all = all
  right (x ∷ xs) ys all = right xs ys all.1

  pub both : (xs ys : List X) → AllByRecursion P xs → AllByRecursion P ys → AllByRecursion P (xs ++ ys)
  both [] ys a b = b
  both (x ∷ xs) ys a b = (a.0, both xs ys a.1 b)

  pub all_reverse : (xs : List X) → AllByRecursion P xs → AllByRecursion P (reverse xs)
  all_reverse [] all = tt
  all_reverse (x ∷ xs) all =
      subst (AllByRecursion P) (sym (reverse-append (x ∷ []) xs))
      (both (reverse xs) (x ∷ []) (all_reverse xs all.1) (all.0, tt))

  pub all_take : (n : ℕ) (xs : List X) → AllByRecursion P xs → AllByRecursion P (take n xs)
  all_take n [] all = elim n as (λ m. AllByRecursion P (take m [])) [ zero ↦ tt | suc m ↦ tt ]
  all_take n (x ∷ xs) all =
      elim n as (λ m. AllByRecursion P (take m (x ∷ xs))) [ zero ↦ tt | suc m ↦ (all.0, all_take m xs all.1) ]

  -- a fact at all cells of a walk, as a fact at each step
  pub each : {Y : Type 0} (f : Y → List X) (ys : List Y) → AllByRecursion P (flat_map f ys)
      → AllByRecursion (λ y. AllByRecursion P (f y)) ys
  each f [] all = tt
  each f (y ∷ ys) all = (left (f y) (flat_map f ys) all, each f ys (right (f y) (flat_map f ys) all))

pub weaker : {X : Type 0} (P Q : X → Type 0) → ((x : X) → P x → Q x) → (xs : List X) → AllByRecursion P xs
    → AllByRecursion Q xs
weaker P Q to [] all = tt
weaker P Q to (x ∷ xs) all = (to x all.0, weaker P Q to xs all.1)

pub same_flat_map : {X Y : Type 0} (f g : X → List Y) (xs : List X) → AllByRecursion (λ x. f x ≡ g x) xs
    → flat_map f xs ≡ flat_map g xs
same_flat_map f g [] all = refl
same_flat_map f g (x ∷ xs) all = λ i. all.0 i ++ same_flat_map f g xs all.1 i

pub same_map : {X Y : Type 0} (f g : X → Y) (xs : List X) → AllByRecursion (λ x. f x ≡ g x) xs → map f xs ≡ map g xs
same_map f g [] all = refl
same_map f g (x ∷ xs) all = λ i. all.0 i ∷ same_map f g xs all.1 i

-- ---- what cells show

as_item : Shown → Option ItemFile
as_item (Item file) = Some file
as_item _ = None

as_item-map : (files : List ItemFile) → filter_map as_item (map Item files) ≡ files
unfolding as_item
as_item-map [] = refl
as_item-map (file ∷ files) = ap (λ fs. file ∷ fs) (as_item-map files)

as_patch : Shown → Option PatchOf
as_patch (Patch ext file) = Some (record { ext = ext; file = file })
as_patch _ = None

as_patch-map : (patches : List PatchOf) → filter_map as_patch (map show_patch patches) ≡ patches
unfolding as_patch
as_patch-map [] = refl
as_patch-map (p ∷ ps) = ap (λ qs. p ∷ qs) (as_patch-map ps)

as_profile : Shown → Option ProfileFile
as_profile (Profile file) = Some file
as_profile _ = None

as_profile-map : (files : List ProfileFile) → filter_map as_profile (map Profile files) ≡ files
unfolding as_profile
as_profile-map [] = refl
as_profile-map (file ∷ files) = ap (λ fs. file ∷ fs) (as_profile-map files)

as_included : Shown → Option Included
as_included (Profile file) = Some (AsProfile file)
as_included (Include entries) = Some (AsInclude entries)
as_included _ = None

as_included-map : (files : List Included) → filter_map as_included (map show_included files) ≡ files
unfolding as_included
as_included-map [] = refl
as_included-map (AsProfile file ∷ files) = ap (λ fs. AsProfile file ∷ fs) (as_included-map files)
as_included-map (AsInclude entries ∷ files) = ap (λ fs. AsInclude entries ∷ fs) (as_included-map files)

as_entry : Shown → Option DictOf
as_entry (Dict ext entry) = Some (record { ext = ext; entry = entry })
as_entry _ = None

as_entry-map : (entries : List DictOf) → filter_map as_entry (map show_entry entries) ≡ entries
unfolding as_entry
as_entry-map [] = refl
as_entry-map (d ∷ ds) = ap (λ es. d ∷ es) (as_entry-map ds)

as_category : Shown → Option CategoryOf
as_category Other = Some BuiltIn
as_category (Category uid entry) = Some (Listed uid entry)
as_category _ = None

as_category-map : (categories : List CategoryOf) → filter_map as_category (map show_category categories) ≡ categories
unfolding as_category
as_category-map [] = refl
as_category-map (BuiltIn ∷ cs) = ap (λ ds. BuiltIn ∷ ds) (as_category-map cs)
as_category-map (Listed uid entry ∷ cs) = ap (λ ds. Listed uid entry ∷ ds) (as_category-map cs)

as_ext : Shown → Option ExtFile
as_ext (Ext file) = Some file
as_ext _ = None

as_ext-map : (files : List ExtFile) → filter_map as_ext (map Ext files) ≡ files
unfolding as_ext
as_ext-map [] = refl
as_ext-map (file ∷ files) = ap (λ fs. file ∷ fs) (as_ext-map files)

there-map : {X Y : Type 0} (f : X → Y) (xs : List X) → is_there (map f xs) ≡ is_there xs
there-map f [] = refl
there-map f (x ∷ xs) = refl

module _ (b c : Looks) where
  pub same_items : (k : Key) → look b (cell.Item k) ≡ look c (cell.Item k) → b.items k ≡ c.items k
  same_items k e = sym (as_item-map (b.items k)) ∙ ap (filter_map as_item) e ∙ as_item-map (c.items k)

  pub same_patches : (k : Key) → look b (cell.Patches k) ≡ look c (cell.Patches k) → b.patches k ≡ c.patches k
  same_patches k e = sym (as_patch-map (b.patches k)) ∙ ap (filter_map as_patch) e ∙ as_patch-map (c.patches k)

  pub same_profiles : (p : List ℕ) → look b (cell.Profile p) ≡ look c (cell.Profile p) → b.profiles p ≡ c.profiles p
  same_profiles p e = sym (as_profile-map (b.profiles p)) ∙ ap (filter_map as_profile) e ∙ as_profile-map (c.profiles p)

  pub same_includes : (ext path : List ℕ) → look b (cell.Include ext path) ≡ look c (cell.Include ext path)
      → b.includes ext path ≡ c.includes ext path
  same_includes ext path e =
      sym (as_included-map (b.includes ext path)) ∙ ap (filter_map as_included) e
      ∙ as_included-map (c.includes ext path)

  pub same_dict : (name : List ℕ) → look b (cell.Dict name) ≡ look c (cell.Dict name) → b.dict name ≡ c.dict name
  same_dict name e = sym (as_entry-map (b.dict name)) ∙ ap (filter_map as_entry) e ∙ as_entry-map (c.dict name)

  pub same_listed : (t : List ℕ) → look b (cell.Kind t) ≡ look c (cell.Kind t)
      → is_there (b.kinds t) ≡ is_there (c.kinds t)
  same_listed t e = sym (there-map Kind (b.kinds t)) ∙ ap is_there e ∙ there-map Kind (c.kinds t)

  pub same_categories : (key : List ℕ) → look b (cell.Category key) ≡ look c (cell.Category key)
      → b.categories key ≡ c.categories key
  same_categories key e =
      sym (as_category-map (b.categories key)) ∙ ap (filter_map as_category) e ∙ as_category-map (c.categories key)

  pub same_exts : (name : List ℕ) → look b (cell.Ext name) ≡ look c (cell.Ext name) → b.exts name ≡ c.exts name
  same_exts name e = sym (as_ext-map (b.exts name)) ∙ ap (filter_map as_ext) e ∙ as_ext-map (c.exts name)

  -- ---- what is found

  pub same_found : (cells : List Cell) → AgreeAt b c (tried b cells) → found b cells ≡ found c cells
  same_found [] agree = refl
  same_found (x ∷ cells) agree =
      elim (is_shown b x) as (λ t. is_shown b x ≡ t → AgreeAt b c (if t then x ∷ [] else x ∷ tried b cells)
      → cond t (Some x) (found b cells) ≡ cond (is_shown c x) (Some x) (found c cells)) [
        | true ↦ λ t a. ap (λ h. cond h (Some x) (found c cells)) (sym t ∙ ap is_there a.0)
        | false ↦ λ t a. same_found cells a.1 ∙ ap (λ h. cond h (Some x) (found c cells)) (sym t ∙ ap is_there a.0)
      ] refl agree

  pub same_tried : (cells : List Cell) → AgreeAt b c (tried b cells) → tried b cells ≡ tried c cells
  same_tried [] agree = refl
  same_tried (x ∷ cells) agree =
      elim (is_shown b x) as (λ t. is_shown b x ≡ t → AgreeAt b c (if t then x ∷ [] else x ∷ tried b cells)
      → (if t then x ∷ [] else x ∷ tried b cells) ≡ (if is_shown c x then x ∷ [] else x ∷ tried c cells)) [
        | true ↦ λ t a. ap (λ h. if h then x ∷ [] else x ∷ tried c cells) (sym t ∙ ap is_there a.0)
        | false ↦
            λ t a. ap (λ ys. x ∷ ys) (same_tried cells a.1)
            ∙ ap (λ h. if h then x ∷ [] else x ∷ tried c cells) (sym t ∙ ap is_there a.0)
      ] refl agree

  at_found : (cells : List Cell) → AgreeAt b c (tried b cells) → (x : Cell) → found b cells ≡ Some x
      → look b x ≡ look c x
  at_found [] agree x e = cc
  at_found (y ∷ cells) agree x e =
      elim (is_shown b y) as (λ t. AgreeAt b c (if t then y ∷ [] else y ∷ tried b cells)
      → cond t (Some y) (found b cells) ≡ Some x → look b x ≡ look c x) [
        | true ↦ λ a f. subst (λ z. look b z ≡ look c z) (ap (λ o. unwrap_or o y) f) a.0
        | false ↦ λ a f. at_found cells a.1 x f
      ] agree e

  -- and whatever is made of it
  pub same_from_found : {X : Type 0} (f g : Cell → Option X) → ((x : Cell) → look b x ≡ look c x → f x ≡ g x)
      → (cells : List Cell) → AgreeAt b c (tried b cells)
      → option_and_then f (found b cells) ≡ option_and_then g (found c cells)
  same_from_found f g same cells agree =
      elim (found b cells) as (λ o. found b cells ≡ o → option_and_then f o ≡ option_and_then g o) [
        | None ↦ λ e. refl
        | Some x ↦ λ e. same x (at_found cells agree x e)
      ] refl
      ∙ ap (option_and_then g) (same_found cells agree)
