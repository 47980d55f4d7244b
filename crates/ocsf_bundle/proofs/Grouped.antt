-- The files that give a key, and the groups of them.
use Rattle.std.proofs.Common.{◌≡◌, ℕ, ◌+◌, ◌<◌, List, [], ◌∷◌, ◌++◌, length, get_or, take, map, Bool, true, false, cond, ◌&&◌, Option, Some, None, unwrap_or, refl, sym, ◌∙◌, ap, append-nil}
use Rattle.std.specs.Option.{option_map, option_map_or}
use Rattle.std.specs.List.{filter_map, cons_option}
use Rattle.std.specs.Map.{keys_of}
use Rattle.std.specs.declared.cmp.Ordering.{Ordering}
use Rattle.std.specs.declared.cmp.Ordering.TheVariants.{Less, Equal, Greater}
use Rattle.std.specs.Ordering.{is_eq, is_lt, ordering_reverse}
use Rattle.std.specs.Cmp.Lexicographic.{nat_list_cmp_total}
use Rattle.std.specs.BTreeMap.{BTreeMap, get}
use Rattle.std.specs.List.Sorted.{IsStrictlySortedBy}
use Rattle.std.specs.Str.{bytes_eq}
use Rattle.std.specs.FinMap.Entries.{below_all}
use Rattle.std.proofs.lemmas.List.{take_more}
use Rattle.std.proofs.lemmas.List.Elements.{filter-append}
use Rattle.std.proofs.lemmas.Map.Text.{is_eq-slice_cmp}
use Rattle.ocsf_lists.specs.ByName.{text_cmp, named, at_name, is_by_name, IsByName}
use Rattle.ocsf_lists.proofs.NameLists.{same_text}
use Rattle.ocsf_lists.proofs.FirstOfEach.{same_lists, IsByName-first_of_each, at_name-first_of_each}
use Rattle.ocsf_bundle.specs.declared.groups.Group.{Group}
use Rattle.ocsf_bundle.specs.declared.stored.ActiveFile.{ActiveFile}
use Rattle.ocsf_bundle.specs.Keys.{gives, giving, keys_given}
use Rattle.ocsf_bundle.specs.Groups.{group_name, group, groups_of, group_at, grown_at, entry_group, groups_in}
use Rattle.ocsf_bundle.proofs.Entries.{KeepKeys, IsByName-entries, at_name-entries}

-- a list, where it has an item
abbrev pub unless_empty : {A : Type 0} → List A → Option (List A)
unless_empty [] = None
unless_empty (x ∷ xs) = Some (x ∷ xs)

unless_empty-push : {A : Type 0} (xs : List A) (x : A) → unless_empty (xs ++ x ∷ []) ≡ Some (xs ++ x ∷ [])
unless_empty-push [] x = refl
unless_empty-push (y ∷ ys) x = refl

or_empty : {A : Type 0} (xs : List A) → unwrap_or (unless_empty xs) [] ≡ xs
or_empty [] = refl
or_empty (x ∷ xs) = refl

equal_of : (r : Ordering) → is_eq r ≡ true → r ≡ Equal
equal_of Less e = cc
equal_of Equal e = refl
equal_of Greater e = cc

pub same_bytes : (a b : List ℕ) → bytes_eq a b ≡ true → a ≡ b
same_bytes a b e = same_text a b (equal_of (text_cmp a b) (is_eq-slice_cmp a b ∙ e))

even : (r : Ordering) → is_eq (ordering_reverse r) ≡ is_eq r
even Less = refl
even Equal = refl
even Greater = refl

bytes_compared : (a b : List ℕ) → bytes_eq a b ≡ is_eq (text_cmp b a)
bytes_compared a b = sym (is_eq-slice_cmp a b) ∙ ap is_eq (nat_list_cmp_total.antisymm a b) ∙ even (text_cmp b a)

module _ (key : ActiveFile → Option (List ℕ)) where
  giving-more : (q : List ℕ) (xs : List ActiveFile) (i : ℕ) (x : ActiveFile) → i < length xs → x ≡ get_or xs i x → giving key q (take (i + 1) xs) ≡ giving key q (take i xs) ++ giving key q (x ∷ [])
  giving-more q xs i x h at = ap (giving key q) (take_more xs i x h ∙ ap (λ y. take i xs ++ y ∷ []) (sym at)) ∙ filter-append (gives key q) (take i xs) (x ∷ [])

  -- a file that gives no key of the kind adds nothing
  pub giving-passed : (q : List ℕ) (xs : List ActiveFile) (i : ℕ) (x : ActiveFile) → i < length xs → x ≡ get_or xs i x → key x ≡ None → giving key q (take (i + 1) xs) ≡ giving key q (take i xs)
  giving-passed q xs i x h at e =
      giving-more q xs i x h at
      ∙ ap (λ o. giving key q (take i xs) ++ cond (option_map_or (λ given. bytes_eq given q) o false) (x ∷ []) []) e
      ∙ append-nil (giving key q (take i xs))

  -- one that gives it is the last of its group
  pub giving-grown : (old : List ℕ → Option (List ActiveFile)) (xs : List ActiveFile) (i : ℕ) (x : ActiveFile) (name : List ℕ) → i < length xs → x ≡ get_or xs i x → key x ≡ Some name → ((q : List ℕ) → old q ≡ unless_empty (giving key q (take i xs))) → (q : List ℕ) → grown_at old name x q ≡ unless_empty (giving key q (take (i + 1) xs))
  giving-grown old xs i x name h at e so_far q =
      elim (bytes_eq name q) as (λ (b : Bool). bytes_eq name q ≡ b → cond b (Some (unwrap_or (old name) [] ++ x ∷ [])) (old q) ≡ unless_empty (giving key q (take (i + 1) xs))) [
        | true ↦ λ f.
            let here : name ≡ q = same_bytes name q f in
            ap (λ o. Some (unwrap_or o [] ++ x ∷ [])) (so_far name)
            ∙ ap (λ l. Some (l ++ x ∷ [])) (or_empty (giving key name (take i xs)))
            ∙ ap (λ n. Some (giving key n (take i xs) ++ x ∷ [])) here
            ∙ sym (unless_empty-push (giving key q (take i xs)) x)
            ∙ ap unless_empty (sym (more ∙ ap (λ b. giving key q (take i xs) ++ cond b (x ∷ []) []) f))
        | false ↦ λ f.
            so_far q
            ∙ ap unless_empty (sym (more ∙ ap (λ b. giving key q (take i xs) ++ cond b (x ∷ []) []) f ∙ append-nil (giving key q (take i xs))))
      ] refl
    where
      more : giving key q (take (i + 1) xs) ≡ giving key q (take i xs) ++ cond (bytes_eq name q) (x ∷ []) []
      more = giving-more q xs i x h at ∙ ap (λ o. giving key q (take i xs) ++ cond (option_map_or (λ given. bytes_eq given q) o false) (x ∷ []) []) e

  abbrev in_group : List ℕ → List ActiveFile → Group
  in_group q files = record { name = q; files = files }

  -- whether a key is one of those that files give
  pub key_found : (q : List ℕ) (files : List ActiveFile) → at_name (λ n. n) q (filter_map key files) ≡ option_map (λ l. q) (unless_empty (giving key q files))
  key_found q [] = refl
  key_found q (x ∷ xs) =
      elim (key x) as (λ (o : Option (List ℕ)). at_name (λ n. n) q (cons_option o (filter_map key xs)) ≡ option_map (λ l. q) (unless_empty (cond (option_map_or (λ given. bytes_eq given q) o false) (x ∷ giving key q xs) (giving key q xs)))) [
        | None ↦ key_found q xs
        | Some n ↦
            elim (text_cmp q n) as (λ (r : Ordering). text_cmp q n ≡ r → cond (is_eq r) (Some n) (at_name (λ n. n) q (filter_map key xs)) ≡ option_map (λ l. q) (unless_empty (cond (bytes_eq n q) (x ∷ giving key q xs) (giving key q xs)))) [
              | Less ↦ λ e. key_found q xs ∙ ap (λ b. option_map (λ l. q) (unless_empty (cond b (x ∷ giving key q xs) (giving key q xs)))) (sym (bytes_compared n q ∙ ap is_eq e))
              | Equal ↦ λ e. ap Some (sym (same_text q n e)) ∙ ap (λ b. option_map (λ l. q) (unless_empty (cond b (x ∷ giving key q xs) (giving key q xs)))) (sym (bytes_compared n q ∙ ap is_eq e))
              | Greater ↦ λ e. key_found q xs ∙ ap (λ b. option_map (λ l. q) (unless_empty (cond b (x ∷ giving key q xs) (giving key q xs)))) (sym (bytes_compared n q ∙ ap is_eq e))
            ] refl
      ]

  below_groups : (files : List ActiveFile) (n : List ℕ) (ns : List (List ℕ)) → below_all text_cmp n (named group_name (map (group key files) ns)) ≡ below_all text_cmp n (named (λ m. m) ns)
  below_groups files n [] = refl
  below_groups files n (m ∷ ms) = ap (λ b. is_lt (text_cmp n m) && b) (below_groups files n ms)

  sorted_groups : (files : List ActiveFile) (ns : List (List ℕ)) → is_by_name group_name (map (group key files) ns) ≡ is_by_name (λ m. m) ns
  sorted_groups files [] = refl
  sorted_groups files (n ∷ ns) =
      ap (λ b. b && is_by_name group_name (map (group key files) ns)) (below_groups files n ns)
      ∙ ap (λ b. below_all text_cmp n (named (λ m. m) ns) && b) (sorted_groups files ns)

  -- groups stand strictly by name
  pub IsByName-groups_of : (files : List ActiveFile) → IsByName group_name (groups_of key files)
  IsByName-groups_of files = sorted_groups files (keys_given key files) ∙ IsByName-first_of_each (λ n. n) (filter_map key files)

  at_name-map : (files : List ActiveFile) (q : List ℕ) (ns : List (List ℕ)) → at_name group_name q (map (group key files) ns) ≡ option_map (group key files) (at_name (λ n. n) q ns)
  at_name-map files q [] = refl
  at_name-map files q (n ∷ ns) =
      elim (is_eq (text_cmp q n)) as (λ b. cond b (Some (group key files n)) (at_name group_name q (map (group key files) ns)) ≡ option_map (group key files) (cond b (Some n) (at_name (λ n. n) q ns))) [
        | true ↦ refl
        | false ↦ at_name-map files q ns
      ]

  one_group : (q : List ℕ) (f : List ℕ → Group) (l : List ActiveFile) → f q ≡ in_group q l → option_map f (option_map (λ m. q) (unless_empty l)) ≡ option_map (in_group q) (unless_empty l)
  one_group q f [] e = refl
  one_group q f (x ∷ xs) e = ap Some e

  at_name-groups : (files : List ActiveFile) (q : List ℕ) → at_name group_name q (groups_of key files) ≡ option_map (in_group q) (unless_empty (giving key q files))
  at_name-groups files q =
      at_name-map files q (keys_given key files)
      ∙ ap (option_map (group key files)) (at_name-first_of_each (λ n. n) q (filter_map key files) ∙ key_found q files)
      ∙ one_group q (group key files) (giving key q files) refl

  -- a group is found by its key
  pub group_at-groups_of : (files : List ActiveFile) (q : List ℕ) → group_at q (groups_of key files) ≡ giving key q files
  group_at-groups_of files q = ap (λ o. option_map_or (λ g. g.files) o []) (at_name-groups files q) ∙ found (giving key q files)
    where
      found : (l : List ActiveFile) → option_map_or (λ g. g.files) (option_map (in_group q) (unless_empty l)) [] ≡ l
      found [] = refl
      found (x ∷ xs) = refl

  kept : (es : List (List ℕ × List ActiveFile)) → KeepKeys group_name entry_group es
  kept [] = tt
  kept (e ∷ es) = (refl, kept es)

  -- a map that has at each key the files that give it holds the groups
  pub groups_in-map : (files : List ActiveFile) (m : BTreeMap (List ℕ) (List ActiveFile)) → IsStrictlySortedBy text_cmp (keys_of m.entries) → ((q : List ℕ) → get text_cmp m q ≡ unless_empty (giving key q files)) → groups_in m ≡ groups_of key files
  groups_in-map files m s same =
      same_lists group_name (groups_in m) (groups_of key files)
      (IsByName-entries group_name entry_group m.entries (kept m.entries) s)
      (IsByName-groups_of files)
      (λ q. at_name-entries group_name entry_group q m.entries (kept m.entries) ∙ ap (option_map (in_group q)) (same q) ∙ sym (at_name-groups files q))
