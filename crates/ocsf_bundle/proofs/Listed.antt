-- Names in byte order, each once, in whatever order they are met.
use Rattle.std.proofs.Common.{◌≡◌, ℕ, ◌+◌, ◌<◌, List, [], ◌∷◌, ◌++◌, append_assoc, append-nil, length, get_or, take, map, Bool, true, false, cond, Option, Some, None, refl, sym, ◌∙◌, ap}
use Rattle.std.specs.Prelude.{⊤, nat_le, flat_map, codes, if◌then◌else◌}
use Rattle.std.specs.Option.{option_or}
use Rattle.std.specs.List.{filter}
use Rattle.std.specs.declared.cmp.Ordering.{Ordering}
use Rattle.std.specs.declared.cmp.Ordering.TheVariants.{Less, Equal, Greater}
use Rattle.std.specs.Ordering.{match_ordering}
use Rattle.std.specs.FinMap.Entries.{by_order}
use Rattle.std.specs.BTreeSet.{insert_key}
use Rattle.std.proofs.lemmas.List.{map_more, take_more}
use Rattle.std.proofs.lemmas.List.Concat.{flat_map-append}
use Rattle.ocsf_lists.specs.ByName.{text_cmp, at_name, put_by_name}
use Rattle.ocsf_lists.proofs.NameLists.{same_text}
use Rattle.ocsf_lists.proofs.FirstOfEach.{same_lists, name-at_name, at_name-append, IsByName-first_of_each, at_name-first_of_each}
use Rattle.ocsf_raw.specs.declared.dictionary.DictEntry.{DictEntry}
use Rattle.ocsf_raw.specs.declared.dictionary.TypeEntry.{TypeEntry}
use Rattle.ocsf_raw.specs.declared.files.CategoryEntry.{CategoryEntry}
use Rattle.ocsf_bundle.specs.declared.stored.ActiveFile.{ActiveFile}
use Rattle.ocsf_bundle.specs.Active.{in_layers, into_order, extension_uid}
use Rattle.ocsf_bundle.specs.Keys.{key_of, profile_given, keys_given}
use Rattle.ocsf_bundle.specs.Groups.{group, group_name}
use Rattle.ocsf_bundle.specs.Index.{is_dictionary, is_categories, index_of}
use Rattle.ocsf_bundle.specs.Listing.{attribute_names, type_names, category_keys, in_byte_order}
use Rattle.ocsf_bundle.proofs.Looked.{no_attributes, no_types, no_categories}

-- a set's insertion is a put
pub insert_key-put : (xs : List (List ℕ)) (k : List ℕ) → insert_key text_cmp xs k ≡ put_by_name (λ n. n) k xs
insert_key-put [] k = refl
insert_key-put (x ∷ xs) k =
    elim (text_cmp k x) as (λ (r : Ordering). text_cmp k x ≡ r → match_ordering r (k ∷ x ∷ xs) (x ∷ xs) (x ∷ insert_key text_cmp xs k) ≡ by_order r (k ∷ x ∷ xs) (k ∷ xs) (x ∷ put_by_name (λ n. n) k xs)) [
      | Less ↦ λ e. refl
      | Equal ↦ λ e. ap (λ n. n ∷ xs) (sym (same_text k x e))
      | Greater ↦ λ e. ap (λ ys. x ∷ ys) (insert_key-put xs k)
    ] refl

-- ---- the order of names doesn't matter

abbrev among : List ℕ → List (List ℕ) → Option (List ℕ)
among q names = at_name (λ n. n) q names

abbrev IsAtMost : List ℕ → Option (List ℕ) → Type 0
IsAtMost q None = ⊤
IsAtMost q (Some x) = x ≡ q

at_most : (q : List ℕ) (names : List (List ℕ)) → IsAtMost q (among q names)
at_most q names = go (among q names) refl
  where
    go : (o : Option (List ℕ)) → among q names ≡ o → IsAtMost q o
    go None e = tt
    go (Some x) e = name-at_name (λ n. n) q names x e

swapped : (q : List ℕ) (a b rest : Option (List ℕ)) → IsAtMost q a → IsAtMost q b → option_or a (option_or b rest) ≡ option_or b (option_or a rest)
swapped q None b rest ha hb = refl
swapped q (Some x) None rest ha hb = refl
swapped q (Some x) (Some y) rest ha hb = ap Some (ha ∙ sym hb)

either_way : (q : List ℕ) (a b : Option (List ℕ)) → IsAtMost q a → IsAtMost q b → option_or a b ≡ option_or b a
either_way q None None ha hb = refl
either_way q None (Some y) ha hb = refl
either_way q (Some x) None ha hb = refl
either_way q (Some x) (Some y) ha hb = ap Some (ha ∙ sym hb)

turned : (q : List ℕ) (xs ys : List (List ℕ)) → among q (xs ++ ys) ≡ among q (ys ++ xs)
turned q xs ys =
    at_name-append (λ n. n) q xs ys
    ∙ either_way q (among q xs) (among q ys) (at_most q xs) (at_most q ys)
    ∙ sym (at_name-append (λ n. n) q ys xs)

same_in_order : (xs ys : List (List ℕ)) → ((q : List ℕ) → among q xs ≡ among q ys) → in_byte_order xs ≡ in_byte_order ys
same_in_order xs ys same =
    same_lists (λ n. n) (in_byte_order xs) (in_byte_order ys) (IsByName-first_of_each (λ n. n) xs) (IsByName-first_of_each (λ n. n) ys)
    (λ q. at_name-first_of_each (λ n. n) q xs ∙ same q ∙ sym (at_name-first_of_each (λ n. n) q ys))

-- one name more
pub in_byte_order-push : (names : List (List ℕ)) (k : List ℕ) → put_by_name (λ n. n) k (in_byte_order names) ≡ in_byte_order (names ++ k ∷ [])
in_byte_order-push names k = same_in_order (k ∷ names) (names ++ k ∷ []) (λ q. turned q (k ∷ []) names)

-- one of a list of named items more
pub in_byte_order-more : {X : Type 0} (name : X → List ℕ) (before : List (List ℕ)) (xs : List X) (i : ℕ) (x : X) (k : List ℕ) (names : List (List ℕ))
    → i < length xs → x ≡ get_or xs i x → k ≡ name x → names ≡ in_byte_order (before ++ map name (take i xs))
    → put_by_name (λ n. n) k names ≡ in_byte_order (before ++ map name (take (i + 1) xs))
in_byte_order-more name before xs i x k names h at e is =
    ap (put_by_name (λ n. n) k) is
    ∙ in_byte_order-push (before ++ map name (take i xs)) k
    ∙ ap in_byte_order (append_assoc before (map name (take i xs)) (k ∷ []) ∙ ap (λ l. before ++ l) (ap (λ n. map name (take i xs) ++ n ∷ []) (e ∙ ap name at) ∙ sym (map_more name xs i x h)))

-- one file more
pub flat_map-more : {X : Type 0} (f : X → List (List ℕ)) (xs : List X) (i : ℕ) (x : X) → i < length xs → x ≡ get_or xs i x → flat_map f (take (i + 1) xs) ≡ flat_map f (take i xs) ++ f x
flat_map-more f xs i x h at =
    ap (flat_map f) (take_more xs i x h ∙ ap (λ y. take i xs ++ y ∷ []) (sym at))
    ∙ flat_map-append f (take i xs) (x ∷ [])
    ∙ ap (λ l. flat_map f (take i xs) ++ l) (append-nil (f x))

-- ---- nor does that of files

module _ (f : ActiveFile → List (List ℕ)) where
  found_into : (q : List ℕ) (x : ActiveFile) (ys : List ActiveFile) → among q (flat_map f (into_order extension_uid x ys)) ≡ among q (f x ++ flat_map f ys)
  found_into q x [] = refl
  found_into q x (y ∷ ys) =
      let rest = among q (flat_map f ys) in
      elim (nat_le (extension_uid x) (extension_uid y)) as (λ (b : Bool). among q (flat_map f (if b then x ∷ y ∷ ys else y ∷ into_order extension_uid x ys)) ≡ among q (f x ++ flat_map f (y ∷ ys))) [
        | true ↦ refl
        | false ↦
            at_name-append (λ n. n) q (f y) (flat_map f (into_order extension_uid x ys))
            ∙ ap (option_or (among q (f y))) (found_into q x ys ∙ at_name-append (λ n. n) q (f x) (flat_map f ys))
            ∙ swapped q (among q (f y)) (among q (f x)) rest (at_most q (f y)) (at_most q (f x))
            ∙ ap (option_or (among q (f x))) (sym (at_name-append (λ n. n) q (f y) (flat_map f ys)))
            ∙ sym (at_name-append (λ n. n) q (f x) (f y ++ flat_map f ys))
      ]

  pub found_layers : (q : List ℕ) (xs : List ActiveFile) → among q (flat_map f (in_layers xs)) ≡ among q (flat_map f xs)
  found_layers q [] = refl
  found_layers q (x ∷ xs) =
      found_into q x (in_layers xs)
      ∙ at_name-append (λ n. n) q (f x) (flat_map f (in_layers xs))
      ∙ ap (option_or (among q (f x))) (found_layers q xs)
      ∙ sym (at_name-append (λ n. n) q (f x) (flat_map f xs))

  none_passed : (p : ActiveFile → Bool) → ((x : ActiveFile) → p x ≡ false → f x ≡ []) → (xs : List ActiveFile) → flat_map f (filter p xs) ≡ flat_map f xs
  none_passed p none [] = refl
  none_passed p none (x ∷ xs) =
      elim (p x) as (λ (b : Bool). p x ≡ b → flat_map f (cond b (x ∷ filter p xs) (filter p xs)) ≡ f x ++ flat_map f xs) [
        | true ↦ λ e. ap (λ l. f x ++ l) (none_passed p none xs)
        | false ↦ λ e. none_passed p none xs ∙ ap (λ l. l ++ flat_map f xs) (sym (none x e))
      ] refl

  kept_layers : (p : ActiveFile → Bool) → ((x : ActiveFile) → p x ≡ false → f x ≡ []) → (q : List ℕ) (xs : List ActiveFile) → among q (flat_map f (filter p (in_layers xs))) ≡ among q (flat_map f xs)
  kept_layers p none q xs = ap (among q) (none_passed p none (in_layers xs)) ∙ found_layers q xs

no_attribute_names : (a : ActiveFile) → is_dictionary a ≡ false → attribute_names a ≡ []
no_attribute_names a e = ap (map (λ (entry : DictEntry). entry.name)) (no_attributes a.file.raw e)

no_type_names : (a : ActiveFile) → is_dictionary a ≡ false → type_names a ≡ []
no_type_names a e = ap (map (λ (entry : TypeEntry). entry.name)) (no_types a.file.raw e)

no_category_keys : (a : ActiveFile) → is_categories a ≡ false → category_keys a ≡ []
no_category_keys a e = ap (map (λ (entry : CategoryEntry). key_of a entry.name)) (no_categories a.file.raw e)

-- what the kept files list
pub attributes_listed : (files : List ActiveFile) → in_byte_order (flat_map attribute_names (index_of files).dictionaries) ≡ in_byte_order (flat_map attribute_names files)
attributes_listed files =
    same_in_order (flat_map attribute_names (index_of files).dictionaries) (flat_map attribute_names files)
    (λ q. kept_layers attribute_names is_dictionary no_attribute_names q files)

pub types_listed : (files : List ActiveFile) → in_byte_order (flat_map type_names (index_of files).dictionaries) ≡ in_byte_order (flat_map type_names files)
types_listed files =
    same_in_order (flat_map type_names (index_of files).dictionaries) (flat_map type_names files)
    (λ q. kept_layers type_names is_dictionary no_type_names q files)

pub categories_listed : (files : List ActiveFile) → in_byte_order (codes "other" ∷ flat_map category_keys (index_of files).categories) ≡ in_byte_order (codes "other" ∷ flat_map category_keys files)
categories_listed files =
    same_in_order (codes "other" ∷ flat_map category_keys (index_of files).categories) (codes "other" ∷ flat_map category_keys files)
    (λ q.
    at_name-append (λ n. n) q (codes "other" ∷ []) (flat_map category_keys (index_of files).categories)
    ∙ ap (option_or (among q (codes "other" ∷ []))) (kept_layers category_keys is_categories no_category_keys q files)
    ∙ sym (at_name-append (λ n. n) q (codes "other" ∷ []) (flat_map category_keys files)))

names_of_groups : (files : List ActiveFile) (names : List (List ℕ)) → map group_name (map (group profile_given files) names) ≡ names
names_of_groups files [] = refl
names_of_groups files (n ∷ names) = ap (λ ns. n ∷ ns) (names_of_groups files names)

pub profiles_listed : (files : List ActiveFile) → map group_name (index_of files).profiles ≡ keys_given profile_given files
profiles_listed files = names_of_groups files (keys_given profile_given files)
