-- Numbers that a class of a lesser key has: asked of the first class of a number, and of all classes.
use Rattle.std.proofs.Common.{◌≡◌, ℕ, List, [], ◌∷◌, ◌++◌, map, Bool, true, false, cond, ◌&&◌, ◌||◌, not, Option, Some, None, refl, sym, ◌∙◌, ap}
use Rattle.std.specs.Prelude.{◌==◌, if◌then◌else◌, is_none, flat_map, decimal, nat_lt, length, codes}
use Rattle.std.specs.Option.{option_map, option_map_or, option_and_then, option_or}
use Rattle.std.specs.List.{find, filter_map, cons_option, list_any}
use Rattle.std.specs.declared.cmp.Ordering.{Ordering}
use Rattle.std.specs.declared.cmp.Ordering.TheVariants.{Less, Equal, Greater}
use Rattle.std.specs.Ordering.{is_lt}
use Rattle.std.specs.Cmp.Lexicographic.{nat_list_cmp_total}
use Rattle.std.specs.FinMap.Entries.{below_all}
use Rattle.std.proofs.lemmas.Bool.{and_parts}
use Rattle.std.proofs.lemmas.List.{map-append}
use Rattle.ocsf_tree.specs.declared.fault.Fault.{Fault}
use Rattle.ocsf_tree.specs.declared.fault.Code.TheVariants as code
use Rattle.ocsf_tree.specs.declared.key.Side.{Side}
use Rattle.ocsf_tree.specs.declared.key.Side.TheVariants.{Class, Object}
use Rattle.ocsf_tree.specs.declared.key.Key.{Key}
use Rattle.ocsf_tree.specs.Key.{key_text}
use Rattle.ocsf_lists.specs.ByName.{text_cmp, named, is_by_name, IsByName}
use Rattle.ocsf_tree.specs.LeastFault.{least_fault}
use Rattle.ocsf_tree.specs.FaultGroups.{Blame, blame, fault_of, group_of, faults_of, faults_in}
use Rattle.ocsf_tree.proofs.FaultGroups.{least-faults_in}
use Rattle.ocsf_schema.specs.declared.records.Item.{Item}
use Rattle.ocsf_schema.specs.Lookups as lookups
use Rattle.ocsf_bundle.specs.Looks.{Looks}
use Rattle.ocsf_bundle.specs.BundleFaults.{fault_if}
use Rattle.ocsf_kind.specs.Numbers.{class_uid}
use Rattle.ocsf_rules.specs.Names.{ext_of}
use Rattle.ocsf_rules.specs.Compiled.{item, uid, category, ext_uid, class_number}
use Rattle.ocsf_rules.specs.ItemFaults.{fault}
use Rattle.ocsf_rules.specs.SchemaFaults.{has_number, comes_before, is_taken, number_clash, uid_clash, max_print, schema_groups}
use Rattle.ocsf_compiler.specs.Building.{is_taken_in, clash_of, clash_in, large_fault}

-- ---- the first of them decides

is_less : (r : Ordering) → is_lt r ≡ true → r ≡ Less
is_less Less e = refl
is_less Equal e = cc
is_less Greater e = cc

lesser_of_three : (i j k : Key) → comes_before i j ≡ true → comes_before j k ≡ true → comes_before i k ≡ true
lesser_of_three i j k a b =
    ap is_lt (nat_list_cmp_total.trans (key_text i) (key_text j) (key_text k) (is_less (text_cmp (key_text i) (key_text j)) a) (is_less (text_cmp (key_text j) (key_text k)) b))

module _ (x : Key) (q : Key → Bool) where
  abbrev IsBefore : Key → Bool
  IsBefore j = comes_before j x

  still_none : (j i : Key) → IsBefore j ≡ false → comes_before j i ≡ true → (c : Bool) → IsBefore i ≡ c → c ≡ false
  still_none j i e h true f = sym (lesser_of_three j i x h f) ∙ e
  still_none j i e h false f = refl

  none_before : (j : Key) (js : List Key) → IsBefore j ≡ false → below_all text_cmp (key_text j) (named key_text js) ≡ true → list_any (λ i. IsBefore i && q i) js ≡ false
  none_before j [] e s = refl
  none_before j (i ∷ js) e s =
      let parts = and_parts (comes_before j i) (below_all text_cmp (key_text j) (named key_text js)) s in
      ap (λ (c : Bool). (c && q i) || list_any (λ k. IsBefore k && q k) js) (still_none j i e parts.0 (IsBefore i) refl)
      ∙ none_before j js e parts.1

  or_none : (c d : Bool) → c ≡ false → d ≡ ((d && true) || c)
  or_none c true e = refl
  or_none c false e = sym e

  passed : (c d : Bool) → c ≡ ((d && false) || c)
  passed c true = refl
  passed c false = refl

  at_first : (j : Key) (js : List Key) → below_all text_cmp (key_text j) (named key_text js) ≡ true → (d : Bool) → IsBefore j ≡ d → d ≡ ((d && true) || list_any (λ k. IsBefore k && q k) js)
  at_first j js s true e = refl
  at_first j js s false e = sym (none_before j js e s)

  -- whether the first that passes comes before is whether any that passes does
  pub first_decides : (ks : List Key) → IsByName key_text ks → option_map_or IsBefore (find q ks) false ≡ list_any (λ j. IsBefore j && q j) ks
  first_decides [] s = refl
  first_decides (j ∷ js) s =
      let parts = and_parts (below_all text_cmp (key_text j) (named key_text js)) (is_by_name key_text js) s in
      elim (q j) as (λ (c : Bool). option_map_or IsBefore (cond c (Some j) (find q js)) false ≡ ((IsBefore j && c) || list_any (λ k. IsBefore k && q k) js)) [
        | true ↦ at_first j js parts.0 (IsBefore j) refl
        | false ↦ first_decides js parts.1 ∙ passed (list_any (λ k. IsBefore k && q k) js) (IsBefore j)
      ]

-- ---- items for keys

abbrev key : Side → List ℕ → Key
key s name = record { side = s; name = name }

test : (n : ℕ) (o : Option ℕ) → lookups.is_number n o ≡ option_map_or (λ m. m == n) o false
test n None = refl
test n (Some m) = refl

by_uid : (n : ℕ) (f : Option ℕ → Option ℕ) → f None ≡ None → (o : Option ℕ) → lookups.is_number n (if not (is_none o) then f o else None) ≡ option_map_or (λ m. m == n) (f o) false
by_uid n f e None = ap (λ o. option_map_or (λ m. m == n) o false) (sym e)
by_uid n f e (Some u) = test n (f (Some u))

abbrev numbered : Looks → Key → Option ℕ → Option ℕ
numbered b k o = option_and_then (λ u. option_map (λ c. class_uid (ext_uid b (ext_of k.name)) c.uid u) (category b k)) o

number_is : (b : Looks) (n : ℕ) (s : Side) (name : List ℕ) → lookups.is_number n (lookups.class_number (item b (key s name))) ≡ has_number b n (key s name)
unfolding item
number_is b n Class name = by_uid n (numbered b (key Class name)) refl (uid b (key Class name))
number_is b n Object name = refl

module _ (b : Looks) (n : ℕ) (x : Key) where
  abbrev Has : Item → Bool
  Has i = lookups.is_number n (lookups.class_number i)

  abbrev found : List Key → Option Item
  found ks = find Has (map (item b) ks)

  abbrev first : List Key → Option Key
  first ks = find (has_number b n) ks

  abbrev IsFirst : Item → Bool
  IsFirst i = comes_before i.key x

  abbrev IsKey : Key → Bool
  IsKey j = comes_before j x

  one_more : (k : Key) (ks : List Key) → option_map_or IsFirst (found ks) false ≡ option_map_or IsKey (first ks) false → (c : Bool)
      → option_map_or IsFirst (cond c (Some (item b k)) (found ks)) false ≡ option_map_or IsKey (cond c (Some k) (first ks)) false
  unfolding item
  one_more k ks e true = refl
  one_more k ks e false = e

  first_item : (ks : List Key) → option_map_or IsFirst (found ks) false ≡ option_map_or IsKey (first ks) false
  first_item [] = refl
  first_item (k ∷ ks) =
      ap (λ (c : Bool). option_map_or IsFirst (cond c (Some (item b k)) (found ks)) false) (number_is b n k.side k.name)
      ∙ one_more k ks (first_item ks) (has_number b n k)

  taken : (ks : List Key) → IsByName key_text ks → option_map_or IsFirst (found ks) false ≡ is_taken b ks x n
  taken ks s = first_item ks ∙ first_decides x (has_number b n) ks s

-- ---- the faults of numbers

module _ (b : Looks) (ks : List Key) (s : IsByName key_text ks) where
  abbrev items : List Item
  items = map (item b) ks

  if_listed : (c : Bool) (b : Blame) (rest : List Fault) → cons_option (fault_if c (fault_of code.UidClash b)) rest ≡ map (fault_of code.UidClash) (if c then b ∷ [] else []) ++ rest
  if_listed true b rest = refl
  if_listed false b rest = refl

  abbrev clash : Key → ℕ → Bool → Option Fault
  clash x n c = fault_if c (fault code.UidClash (key_text x) (decimal n))

  by_number : (x : Key) (rest : List Fault) (o : Option ℕ) → cons_option (option_and_then (clash_of items (item b x)) o) rest ≡ map (fault_of code.UidClash) (option_map_or (number_clash b ks x) o []) ++ rest
  unfolding item
  by_number x rest None = refl
  by_number x rest (Some n) =
      ap (λ (c : Bool). cons_option (clash x n c) rest) (taken b n x ks s)
      ∙ if_listed (is_taken b ks x n) (blame (key_text x) (decimal n)) rest

  of_one : (x : Key) (rest : List Fault) → cons_option (clash_in items (item b x)) rest ≡ map (fault_of code.UidClash) (uid_clash b ks x) ++ rest
  unfolding item
  of_one x rest = by_number x rest (class_number b x)

  -- the faults of items are those of their keys
  of_each : (xs : List Key) → filter_map (clash_in items) (map (item b) xs) ≡ faults_of (group_of code.UidClash (flat_map (uid_clash b ks) xs))
  of_each [] = refl
  of_each (x ∷ xs) =
      let rest = flat_map (uid_clash b ks) xs in
      ap (cons_option (clash_in items (item b x))) (of_each xs)
      ∙ of_one x (map (fault_of code.UidClash) rest)
      ∙ sym (map-append (fault_of code.UidClash) (uid_clash b ks x) rest)

-- ---- with that of the print

if_large : (c : Bool) (b : Blame) → fault_if c (fault_of code.TooLarge b) ≡ option_or (least_fault (map (fault_of code.TooLarge) (if c then b ∷ [] else []))) None
if_large true b = refl
if_large false b = refl

-- the least fault of a schema
pub schema_least : (b : Looks) (ks : List Key) (print : List ℕ) → IsByName key_text ks
    → option_or (least_fault (filter_map (clash_in (map (item b) ks)) (map (item b) ks))) (large_fault (length print)) ≡ least_fault (faults_in (schema_groups b ks print))
schema_least b ks print s =
    (λ i. option_or (least_fault (of_each b ks s ks i)) (if_large (nat_lt max_print (length print)) (blame (codes "bundle") (codes "print")) i))
    ∙ sym (least-faults_in (schema_groups b ks print) refl)
