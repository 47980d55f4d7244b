-- A text has exactly one reading, besides want of memory.
use Rattle.std.proofs.Common.{◌≡◌, ℕ, List, true, false, ◌||◌, Option, Some, None, Result, Ok, Err, refl, sym, ap, ap₂, ◌∙◌, subst, true≢false, Bool}
use Rattle.std.proofs.lemmas.Bool.{and_parts}
use Rattle.serde_json.specs.Data.{Num, unsigned, negative, float, Data, null, boolean, number, string, array, object, Items, no_items, item, Members, no_members, member}
use Rattle.serde_json.specs.Find.{is_float}
use Rattle.serde_json.specs.Read.{read}
use Rattle.serde_json.specs.Written.{has_float, items_have_float, members_have_float}
use Rattle.ocsf_tree.specs.declared.tree.Tree.{Tree}
use Rattle.ocsf_tree.specs.declared.place.Step.{Step}
use Rattle.ocsf_tree.specs.declared.reader.TreeError.{TreeError}
use Rattle.ocsf_tree.specs.declared.reader.TreeError.TheVariants.{NotJson, NumberNotWhole, Memory}
use Rattle.ocsf_tree.specs.Data.{data_of}
use Rattle.ocsf_tree.specs.Valid.{is_before, is_whole, is_valid, are_valid, members_valid}
use Rattle.ocsf_tree.specs.Reading.{IsJson, IsInexactAt, IsFirstInexact, IsReading}
use Rattle.ocsf_tree.specs.Laws.{IsReadOnce, IsAlwaysRead}
use Rattle.ocsf_tree.proofs.FirstFound.{no_float_at, none_first, first_found}
use Rattle.ocsf_tree.proofs.Places.{first_of_both}
use Rattle.ocsf_tree.proofs.Same.{trees_by_data, tree_from, data_of-tree_from}
use Rattle.std.specs.Str.{IsUtf8, is_utf8}
use Rattle.std.proofs.lemmas.Str.{IsUtf8-from_is_utf8, is_utf8-from_IsUtf8}
use Rattle.ocsf_tree.specs.FirstInexact.{first}
use Rattle.ocsf_tree.proofs.Order.{IfSomeIs, read-InOrder, is_valid-InOrder}

-- ---- one at most

whole_number : (n : Num) → is_whole n ≡ true → is_float n ≡ false
whole_number (unsigned n) h = refl
whole_number (negative z) h = refl
whole_number (float x) h = absurd (true≢false (sym h))

mutual
  no_float_valid : (d : Data) → is_valid d ≡ true → has_float d ≡ false
  no_float_valid null h = refl
  no_float_valid (boolean b) h = refl
  no_float_valid (number n) h = whole_number n h
  no_float_valid (string s) h = refl
  no_float_valid (array ds) h = no_float_items ds h
  no_float_valid (object ms) h = no_float_members ms h

  no_float_items : (ds : Items) → are_valid ds ≡ true → items_have_float ds ≡ false
  no_float_items no_items h = refl
  no_float_items (item d ds) h = let p = and_parts (is_valid d) _ h in ap₂ (λ a b. a || b) (no_float_valid d p.0) (no_float_items ds p.1)

  no_float_members : (ms : Members) → members_valid ms ≡ true → members_have_float ms ≡ false
  no_float_members no_members h = refl
  no_float_members (member k d ms) h =
      let p = and_parts (is_valid d) _ (and_parts (is_before k ms) _ h).1 in ap₂ (λ a b. a || b) (no_float_valid d p.0) (no_float_members ms p.1)

same_data : (o : Option Data) (d e : Data) → o ≡ Some d → o ≡ Some e → d ≡ e
same_data o d e a b = let both : Some d ≡ Some e = sym a ∙ b in cc

-- a text is the JSON of one value
pub one_value : (bytes : List ℕ) (d e : Data) → IsJson bytes d → IsJson bytes e → d ≡ e
one_value bytes d e a b = same_data (read bytes) d e a.1 b.1

abbrev inexact_there : (d : Data) (p : List Step) → is_valid d ≡ true → IsInexactAt d p → ⊥
inexact_there d p v f = no_float_at d (no_float_valid d v) p f.0 f.1

pub one_reading : IsReadOnce
one_reading bytes (Ok t) (Ok u) a b m n = ap Ok (trees_by_data t u (one_value bytes (data_of t) (data_of u) a.0 b.0))
one_reading bytes (Ok t) (Err NotJson) a b m n = absurd (b (data_of t) a.0)
one_reading bytes (Ok t) (Err (NumberNotWhole q)) a b m n =
    absurd (inexact_there (data_of t) q.steps a.1 (subst (λ d. IsInexactAt d q.steps) (one_value bytes b.0 (data_of t) b.1 a.0) b.2.0))
one_reading bytes (Err NotJson) (Ok u) a b m n = absurd (a (data_of u) b.0)
one_reading bytes (Err NotJson) (Err NotJson) a b m n = refl
one_reading bytes (Err NotJson) (Err (NumberNotWhole q)) a b m n = absurd (a b.0 b.1)
one_reading bytes (Err (NumberNotWhole p)) (Ok u) a b m n =
    absurd (inexact_there (data_of u) p.steps b.1 (subst (λ d. IsInexactAt d p.steps) (one_value bytes a.0 (data_of u) a.1 b.0) a.2.0))
one_reading bytes (Err (NumberNotWhole p)) (Err NotJson) a b m n = absurd (b a.0 a.1)
one_reading bytes (Err (NumberNotWhole p)) (Err (NumberNotWhole q)) a b m n =
    let first = subst (λ d. IsFirstInexact d p.steps) (one_value bytes a.0 b.0 a.1 b.1) a.2 in
    ap (λ steps. Err (NumberNotWhole (record { steps = steps }))) (first_of_both p.steps q.steps (first.1 q.steps b.2.0) (b.2.1 p.steps first.0))
one_reading bytes (Err Memory) s a b m n = absurd (m refl)
one_reading bytes (Ok t) (Err Memory) a b m n = absurd (n refl)
one_reading bytes (Err NotJson) (Err Memory) a b m n = absurd (n refl)
one_reading bytes (Err (NumberNotWhole p)) (Err Memory) a b m n = absurd (n refl)

-- ---- one at least

abbrev Outcome : List ℕ → Type 0
Outcome bytes = (r : Result Tree TreeError) × IsReading bytes r × (r ≡ Err Memory → ⊥)

no_json : (bytes : List ℕ) → ((d : Data) → IsJson bytes d → ⊥) → Outcome bytes
no_json bytes h = (Err NotJson, h, λ e. cc)

of_value : (bytes : List ℕ) (d : Data) → IsJson bytes d → (o : Option (List Step)) → first d ≡ o → Outcome bytes
of_value bytes d is (Some p) e =
    let found : IsFirstInexact d p = subst (IfSomeIs (IsFirstInexact d)) e (first_found d (read-InOrder bytes d is.1)) in
    (Err (NumberNotWhole (record { steps = p })), (d, is, found), λ e. cc)
of_value bytes d is None e =
    let valid : is_valid d ≡ true = is_valid-InOrder d (read-InOrder bytes d is.1) (none_first d e) in
    let same : d ≡ data_of (tree_from d) = sym (data_of-tree_from d valid) in
    (Ok (tree_from d), (subst (IsJson bytes) same is, subst (λ x. is_valid x ≡ true) same valid), λ e. cc)

of_utf8 : (bytes : List ℕ) → IsUtf8 bytes → (o : Option Data) → read bytes ≡ o → Outcome bytes
of_utf8 bytes utf8 None e = no_json bytes (λ d is. let both : None ≡ Some d = sym e ∙ is.1 in cc)
of_utf8 bytes utf8 (Some d) e = of_value bytes d (utf8, e) (first d) refl

of_bytes : (bytes : List ℕ) (b : Bool) → is_utf8 bytes ≡ b → Outcome bytes
of_bytes bytes true e = of_utf8 bytes (IsUtf8-from_is_utf8 bytes e) (read bytes) refl
of_bytes bytes false e = no_json bytes (λ d is. true≢false (sym (is_utf8-from_IsUtf8 bytes is.0) ∙ e))

pub some_reading : IsAlwaysRead
some_reading bytes = of_bytes bytes (is_utf8 bytes) refl
