-- The active keys: in order, and just those of which there is an item.
use Rattle.std.proofs.Common.{◌≡◌, ℕ, List, [], ◌∷◌, ◌++◌, map, Bool, true, false, cond, ◌&&◌, Option, Some, None, refl, sym, ◌∙◌, ap}
use Rattle.std.specs.Prelude.{if◌then◌else◌, is_some}
use Rattle.std.specs.Option.{option_map, option_map_or, option_or}
use Rattle.std.specs.Str.{bytes_eq}
use Rattle.std.specs.List.{filter_map, cons_option}
use Rattle.std.specs.Ordering.{is_eq, is_lt}
use Rattle.std.specs.FinMap.Entries.{below_all}
use Rattle.std.proofs.lemmas.Bool.{and_from, and_parts}
use Rattle.ocsf_tree.specs.declared.key.Side.{Side}
use Rattle.ocsf_tree.specs.declared.key.Side.TheVariants as side
use Rattle.ocsf_tree.specs.declared.key.Key.{Key}
use Rattle.ocsf_tree.specs.Key.{key_text}
use Rattle.ocsf_lists.specs.ByName.{text_cmp, named, at_name, is_by_name, IsByName}
use Rattle.ocsf_lists.proofs.FirstOfEach.{at_name-append, IsByName-first_of_each, at_name-first_of_each}
use Rattle.ocsf_raw.specs.declared.files.RawFile.{RawFile}
use Rattle.ocsf_raw.specs.declared.files.RawFile.TheVariants as raw
use Rattle.ocsf_bundle.specs.declared.stored.ActiveFile.{ActiveFile}
use Rattle.ocsf_bundle.specs.Keys.{giving, gives, item_key_in, key_given, keys_given, side_keys, active_keys}
use Rattle.ocsf_bundle.specs.Looks.{is_there}
use Rattle.ocsf_bundle.specs.FilesLook.{item_said, item_of}
use Rattle.ocsf_bundle.proofs.Grouped.{unless_empty, key_found}
use Rattle.ocsf_bundle.specs.Laws.{AreKeysOfItems}

abbrev key : Side → List ℕ → Key
key s name = record { side = s; name = name }

-- names that keys have before them are compared as the names
below-keys : (s : Side) (n : List ℕ) (ns : List (List ℕ)) → below_all text_cmp (key_text (key s n)) (named key_text (map (key s) ns)) ≡ below_all text_cmp n (named (λ m. m) ns)
below-keys s n [] = refl
below-keys side.Class n (m ∷ ms) = ap (λ b. is_lt (text_cmp n m) && b) (below-keys side.Class n ms)
below-keys side.Object n (m ∷ ms) = ap (λ b. is_lt (text_cmp n m) && b) (below-keys side.Object n ms)

sorted-keys : (s : Side) (ns : List (List ℕ)) → is_by_name key_text (map (key s) ns) ≡ is_by_name (λ m. m) ns
sorted-keys s [] = refl
sorted-keys s (n ∷ ns) =
    ap (λ b. b && is_by_name key_text (map (key s) ns)) (below-keys s n ns)
    ∙ ap (λ b. below_all text_cmp n (named (λ m. m) ns) && b) (sorted-keys s ns)

-- classes come before objects
class-below : (n : List ℕ) (ms : List (List ℕ)) → below_all text_cmp (key_text (key side.Class n)) (named key_text (map (key side.Object) ms)) ≡ true
class-below n [] = refl
class-below n (m ∷ ms) = class-below n ms

below-append : (q : List ℕ) (xs ys : List Key) → below_all text_cmp q (named key_text xs) ≡ true → below_all text_cmp q (named key_text ys) ≡ true → below_all text_cmp q (named key_text (xs ++ ys)) ≡ true
below-append q [] ys a b = b
below-append q (x ∷ xs) ys a b =
    let parts = and_parts (is_lt (text_cmp q (key_text x))) (below_all text_cmp q (named key_text xs)) a in
    and_from (is_lt (text_cmp q (key_text x))) (below_all text_cmp q (named key_text (xs ++ ys))) parts.0 (below-append q xs ys parts.1 b)

classes-first : (ns ms : List (List ℕ)) → IsByName key_text (map (key side.Class) ns) → IsByName key_text (map (key side.Object) ms) → IsByName key_text (map (key side.Class) ns ++ map (key side.Object) ms)
classes-first [] ms a b = b
classes-first (n ∷ ns) ms a b =
    let parts = and_parts (below_all text_cmp (key_text (key side.Class n)) (named key_text (map (key side.Class) ns))) (is_by_name key_text (map (key side.Class) ns)) a in
    and_from (below_all text_cmp (key_text (key side.Class n)) (named key_text (map (key side.Class) ns ++ map (key side.Object) ms))) (is_by_name key_text (map (key side.Class) ns ++ map (key side.Object) ms))
    (below-append (key_text (key side.Class n)) (map (key side.Class) ns) (map (key side.Object) ms) parts.0 (class-below n ms))
    (classes-first ns ms parts.1 b)

pub ordered : (files : List ActiveFile) → IsByName key_text (active_keys files)
ordered files =
    classes-first (keys_given (key_given side.Class) files) (keys_given (key_given side.Object) files)
    (sorted-keys side.Class (keys_given (key_given side.Class) files) ∙ IsByName-first_of_each (λ n. n) (filter_map (key_given side.Class) files))
    (sorted-keys side.Object (keys_given (key_given side.Object) files) ∙ IsByName-first_of_each (λ n. n) (filter_map (key_given side.Object) files))

-- ---- just those of which there is an item

same_side_found : (s : Side) (q : List ℕ) (ns : List (List ℕ)) → at_name key_text (key_text (key s q)) (map (key s) ns) ≡ option_map (key s) (at_name (λ n. n) q ns)
same_side_found s q [] = refl
same_side_found side.Class q (n ∷ ns) =
    elim (is_eq (text_cmp q n)) as (λ b. cond b (Some (key side.Class n)) (at_name key_text (key_text (key side.Class q)) (map (key side.Class) ns)) ≡ option_map (key side.Class) (cond b (Some n) (at_name (λ m. m) q ns))) [
      | true ↦ refl
      | false ↦ same_side_found side.Class q ns
    ]
same_side_found side.Object q (n ∷ ns) =
    elim (is_eq (text_cmp q n)) as (λ b. cond b (Some (key side.Object n)) (at_name key_text (key_text (key side.Object q)) (map (key side.Object) ns)) ≡ option_map (key side.Object) (cond b (Some n) (at_name (λ m. m) q ns))) [
      | true ↦ refl
      | false ↦ same_side_found side.Object q ns
    ]

no_class : (q : List ℕ) (ns : List (List ℕ)) → at_name key_text (key_text (key side.Object q)) (map (key side.Class) ns) ≡ None
no_class q [] = refl
no_class q (n ∷ ns) = no_class q ns

no_object : (q : List ℕ) (ns : List (List ℕ)) → at_name key_text (key_text (key side.Class q)) (map (key side.Object) ns) ≡ None
no_object q [] = refl
no_object q (n ∷ ns) = no_object q ns

or_none : {A : Type 0} (o : Option A) → option_or o None ≡ o
or_none None = refl
or_none (Some x) = refl

-- a file that gives the key of an item is an item
is_item : (s : Side) (a : ActiveFile) (r : RawFile) (q : List ℕ) → option_map_or (λ given. bytes_eq given q) (item_key_in s a r) false ≡ true → is_some (item_said r) ≡ true
is_item s a (raw.Item file) q e = refl
is_item s a (raw.Version text) q e = cc
is_item s a (raw.Categories entries) q e = cc
is_item s a (raw.Dictionary file) q e = cc
is_item s a (raw.Profile file) q e = cc
is_item s a (raw.Include entries) q e = cc
is_item s a (raw.Extension file) q e = cc

there : {A : Type 0} (o : Option A) (xs : List A) → is_some o ≡ true → is_there (cons_option o xs) ≡ true
there None xs e = cc
there (Some x) xs e = refl

items_there : (s : Side) (q : List ℕ) (files : List ActiveFile) → is_there (filter_map item_of (giving (key_given s) q files)) ≡ is_there (giving (key_given s) q files)
items_there s q [] = refl
items_there s q (a ∷ files) =
    elim (gives (key_given s) q a) as (λ (b : Bool). gives (key_given s) q a ≡ b → is_there (filter_map item_of (cond b (a ∷ giving (key_given s) q files) (giving (key_given s) q files))) ≡ is_there (cond b (a ∷ giving (key_given s) q files) (giving (key_given s) q files))) [
      | true ↦ λ e. there (item_of a) (filter_map item_of (giving (key_given s) q files)) (is_item s a a.file.raw q e)
      | false ↦ λ e. items_there s q files
    ] refl

chosen : (s : Side) (q : List ℕ) (l : List ActiveFile) (b : Bool) → b ≡ is_there l → option_map (key s) (option_map (λ m. q) (unless_empty l)) ≡ (if b then Some (key s q) else None)
chosen s q [] b e = ap (λ c. if c then Some (key s q) else None) (sym e)
chosen s q (x ∷ xs) b e = ap (λ c. if c then Some (key s q) else None) (sym e)

side_present : (files : List ActiveFile) (s : Side) (q : List ℕ) → at_name key_text (key_text (key s q)) (side_keys s files) ≡ (if is_there (filter_map item_of (giving (key_given s) q files)) then Some (key s q) else None)
side_present files s q =
    same_side_found s q (keys_given (key_given s) files)
    ∙ ap (option_map (key s)) (at_name-first_of_each (λ n. n) q (filter_map (key_given s) files) ∙ key_found (key_given s) q files)
    ∙ chosen s q (giving (key_given s) q files) (is_there (filter_map item_of (giving (key_given s) q files))) (items_there s q files)

present : (files : List ActiveFile) (s : Side) (q : List ℕ) → at_name key_text (key_text (key s q)) (active_keys files) ≡ (if is_there (filter_map item_of (giving (key_given s) q files)) then Some (key s q) else None)
present files side.Class q =
    at_name-append key_text (key_text (key side.Class q)) (side_keys side.Class files) (side_keys side.Object files)
    ∙ ap (option_or (at_name key_text (key_text (key side.Class q)) (side_keys side.Class files))) (no_object q (keys_given (key_given side.Object) files))
    ∙ or_none (at_name key_text (key_text (key side.Class q)) (side_keys side.Class files))
    ∙ side_present files side.Class q
present files side.Object q =
    at_name-append key_text (key_text (key side.Object q)) (side_keys side.Class files) (side_keys side.Object files)
    ∙ ap (λ o. option_or o (at_name key_text (key_text (key side.Object q)) (side_keys side.Object files))) (no_class q (keys_given (key_given side.Class) files))
    ∙ side_present files side.Object q

pub keys_of_items : (files : List ActiveFile) → AreKeysOfItems files
keys_of_items files = record { ordered = ordered files; present = λ k. present files k.side k.name }
