-- A class that has a number isn't hidden, and is found by it.
use Rattle.std.proofs.Common.{◌≡◌, ℕ, List, [], ◌∷◌, map, get_or, Bool, true, false, cond, ◌&&◌, not, if◌then◌else◌}
use Rattle.std.proofs.Common.{Option, Some, None, unwrap_or, refl, sym, ap, ◌∙◌}
use Rattle.std.specs.Prelude.{All, IfSome, find, is_none, decimal, ◌==◌, ◌||◌}
use Rattle.std.specs.Option.{option_map, option_map_or, option_and_then}
use Rattle.std.specs.List.{list_any}
use Rattle.std.specs.Ordering.{is_eq, is_lt}
use Rattle.std.specs.FinMap.Entries.{below_all}
use Rattle.std.proofs.lemmas.Bool.{and_parts, eq-eqb}
use Rattle.std.proofs.lemmas.List.Elements.{All-map, All-get_or, All-from_get_or}
use Rattle.ocsf_lists.specs.ByName.{text_cmp, named, at_name, IsByName}
use Rattle.ocsf_tree.specs.Key.{key_text, same_side}
use Rattle.ocsf_tree.specs.declared.key.Key.{Key}
use Rattle.ocsf_tree.specs.declared.key.Side.{Side}
use Rattle.ocsf_tree.specs.declared.key.Side.TheVariants.{Class, Object}
use Rattle.ocsf_tree.specs.FaultGroups.{Blame, blame}
use Rattle.ocsf_lists.proofs.NameLists.{text_cmp-same, head_below, tail_by_name, at_name-at}
use Rattle.ocsf_schema.specs.Lookups.{class_number as number_of, is_number, class_at}
use Rattle.ocsf_schema.specs.declared.records.Item.{Item}
use Rattle.ocsf_bundle.specs.Active.{active_files}
use Rattle.ocsf_bundle.specs.Listing.{listing}
use Rattle.ocsf_bundle.specs.Looks.{Looks}
use Rattle.ocsf_bundle.specs.Stored.{Stored}
use Rattle.ocsf_bundle.proofs.KeysInOrder.{keys_of_items}
use Rattle.ocsf_kind.specs.Numbers.{class_uid}
use Rattle.ocsf_rules.specs.Names.{key, ext_of}
use Rattle.ocsf_rules.specs.Chain.{own_file}
use Rattle.ocsf_rules.specs.Compiled.{is_class_side, starts_low, ext_uid, category, class_number, item}
use Rattle.ocsf_rules.specs.Compilation.{compilation}
use Rattle.ocsf_rules.specs.PrintedSchema.{schema_parts}
use Rattle.ocsf_rules.specs.SchemaFaults.{has_number, comes_before, is_taken, number_clash, uid_clash}
use Rattle.ocsf_rules.specs.Verdict.{IsFaultless}
use Rattle.ocsf_rule_laws.specs.ClosedLaws.{AreNumbersShown, AreFoundByNumber}
use Rattle.ocsf_rule_laws.proofs.Faultless.{no_clash}
use Rattle.ocsf_rule_laws.proofs.TypesAgree.{looks_in}
use Rattle.ocsf_rule_laws.proofs.Closed.{all_of}

-- ---- only what is shown has a number

abbrev if_class : Side → Option ℕ → Option ℕ
if_class side given = if is_class_side side then given else None

shown : (side : Side) (given : Option ℕ) (low : Bool) (f : ℕ → Option ℕ)
    → (if same_side side Class && not (if is_class_side side then is_none (if_class side given) else low)
    then option_and_then f (if_class side given) else None) ≡ option_and_then f (if_class side given)
shown Class None low f = refl
shown Class (Some n) low f = refl
shown Object given low f = refl

shown_number : (b : Looks) (k : Key) → number_of (item b k) ≡ (item b k).class_uid
unfolding item
shown_number b k =
    shown k.side (option_and_then (λ file. file.uid) (own_file b k))
    (option_map_or starts_low (option_and_then (λ file. file.name) (own_file b k)) false)
    (λ u. option_map (λ c. class_uid (ext_uid b (ext_of k.name)) c.uid u) (category b k))

pub numbers_shown : AreNumbersShown
unfolding compilation schema_parts
numbers_shown bundle =
    let P : Item → Type 0 = λ i. number_of i ≡ i.class_uid in
    All-map P (item (looks_in bundle)) (listing bundle).items
    (all_of (λ k. P (item (looks_in bundle) k)) (shown_number (looks_in bundle)) (listing bundle).items)

-- ---- a class is found by its number

find_mapped : {X Y : Type 0} (f : X → Y) (p : Y → Bool) (xs : List X)
    → find p (map f xs) ≡ option_map f (find (λ x. p (f x)) xs)
find_mapped f p [] = refl
find_mapped f p (x ∷ xs) =
    elim (p (f x)) as (λ (b : Bool). cond b (Some (f x)) (find p (map f xs))
    ≡ option_map f (cond b (Some x) (find (λ x. p (f x)) xs))) [
      | true ↦ refl
      | false ↦ find_mapped f p xs
    ]

same_find : {X : Type 0} (p q : X → Bool) → ((x : X) → p x ≡ q x) → (xs : List X) → find p xs ≡ find q xs
same_find p q same [] = refl
same_find p q same (x ∷ xs) =
    ap (λ b. cond b (Some x) (find p xs)) (same x) ∙ ap (cond (q x) (Some x)) (same_find p q same xs)

same_test : (n : ℕ) (o : Option ℕ) → is_number n o ≡ option_map_or (λ m. m == n) o false
same_test n None = refl
same_test n (Some m) = refl

some_is : {X : Type 0} (x y : X) → Some x ≡ Some y → x ≡ y
some_is x y e = ap (λ o. unwrap_or o x) e

-- what is found in a list is past what comes before all of it
found_past : (q : List ℕ) (js : List Key) (k : Key) → below_all text_cmp q (named key_text js) ≡ true
    → at_name key_text (key_text k) js ≡ Some k → is_lt (text_cmp q (key_text k)) ≡ true
found_past q [] k below e = cc
found_past q (j ∷ js) k below e =
    let parts = and_parts (is_lt (text_cmp q (key_text j))) (below_all text_cmp q (named key_text js)) below in
    elim (is_eq (text_cmp (key_text k) (key_text j))) as (λ (b : Bool).
    cond b (Some j) (at_name key_text (key_text k) js) ≡ Some k → is_lt (text_cmp q (key_text k)) ≡ true) [
      | true ↦ λ same. ap (λ (i : Key). is_lt (text_cmp q (key_text i))) (sym (some_is j k same)) ∙ parts.0
      | false ↦ λ later. found_past q js k parts.1 later
    ] e

no_and : (a b : Bool) → (a && b) ≡ false → a ≡ true → b ≡ false
no_and true b e h = e
no_and false b e h = cc

any_fails : {X : Type 0} (p : X → Bool) (x : X) (xs : List X) → list_any p (x ∷ xs) ≡ false
    → (p x ≡ false) × (list_any p xs ≡ false)
any_fails p x xs e =
    elim (p x) as (λ (b : Bool). p x ≡ b → (b || list_any p xs) ≡ false → (p x ≡ false) × (list_any p xs ≡ false)) [
      | true ↦ λ h e. cc
      | false ↦ λ h e. (h, e)
    ] refl e

-- of keys in order, none of which before that one has the number, it is the first that has it
first_found : (b : Looks) (n : ℕ) (ks : List Key) (k : Key) → IsByName key_text ks
    → list_any (λ j. comes_before j k && has_number b n j) ks ≡ false
    → at_name key_text (key_text k) ks ≡ Some k → has_number b n k ≡ true → find (has_number b n) ks ≡ Some k
first_found b n [] k ordered free there has = there
first_found b n (j ∷ js) k ordered free there has =
    let rest = any_fails (λ j. comes_before j k && has_number b n j) j js free in
    elim (is_eq (text_cmp (key_text k) (key_text j))) as (λ (c : Bool).
    cond c (Some j) (at_name key_text (key_text k) js) ≡ Some k → find (has_number b n) (j ∷ js) ≡ Some k) [
      | true ↦ λ same.
          ap (λ c. cond c (Some j) (find (has_number b n) js)) (ap (has_number b n) (some_is j k same) ∙ has) ∙ same
      | false ↦ λ later.
          let before : comes_before j k ≡ true =
          found_past (key_text j) js k (head_below key_text j js ordered) later in
          ap (λ c. cond c (Some j) (find (has_number b n) js))
          (no_and (comes_before j k) (has_number b n j) rest.0 before)
          ∙ first_found b n js k (tail_by_name key_text j js ordered) rest.1 later has
    ] there

not_taken : (taken : Bool) (f : Blame) → (if taken then f ∷ [] else []) ≡ [] → taken ≡ false
not_taken true f e = cc
not_taken false f e = refl

module _ (bundle : Stored) (sound : IsFaultless bundle) where
  abbrev b : Looks
  b = looks_in bundle

  abbrev keys : List Key
  keys = (listing bundle).items

  by_number : (n : ℕ) (k : Key) → at_name key_text (key_text k) keys ≡ Some k → is_taken b keys k n ≡ false
      → class_number b k ≡ Some n → class_at n (compilation bundle).pieces ≡ Some (item b k)
  unfolding compilation schema_parts item
  by_number n k there free has =
      let ordered = (keys_of_items (active_files bundle.files bundle.enabled)).ordered in
      let mine : has_number b n k ≡ true = ap (λ o. option_map_or (λ m. m == n) o false) has ∙ eq-eqb n n refl in
      find_mapped (item b) (λ i. is_number n (number_of i)) keys
      ∙ ap (option_map (item b)) (
      same_find (λ j. is_number n (number_of (item b j))) (has_number b n)
      (λ j. ap (is_number n) (shown_number b j) ∙ same_test n (class_number b j)) keys
      ∙ first_found b n keys k ordered free there mine)

  abbrev IsFound : Key → Option ℕ → Type 0
  IsFound k number = IfSome number (λ n. class_at n (compilation bundle).pieces ≡ Some (item b k))

  found_number : (k : Key) (o : Option ℕ) → class_number b k ≡ o → at_name key_text (key_text k) keys ≡ Some k
      → option_map_or (number_clash b keys k) o [] ≡ [] → IsFound k o
  found_number k None same there none = tt
  found_number k (Some n) same there none =
      by_number n k there (not_taken (is_taken b keys k n) (blame (key_text k) (decimal n)) none) same

  each_found : All (λ k. IsFound k (class_number b k)) keys
  each_found =
      let d = key Class [] in
      let ordered = (keys_of_items (active_files bundle.files bundle.enabled)).ordered in
      All-from_get_or (λ k. IsFound k (class_number b k)) keys d
      (λ i h.
      let k = get_or keys i d in
      found_number k (class_number b k) refl
      (at_name-at key_text (key_text k) keys i d ordered h (text_cmp-same (key_text k)))
      (All-get_or (λ j. uid_clash b keys j ≡ []) keys i d h (no_clash bundle sound)))

pub found_by_number : AreFoundByNumber
unfolding compilation schema_parts item
found_by_number bundle sound =
    let P : Item → Type 0 = λ i. IfSome i.class_uid (λ number. class_at number (compilation bundle).pieces ≡ Some i) in
    All-map P (item (looks_in bundle)) (listing bundle).items (each_found bundle sound)
