-- What a comparison of two trees tells.
use Rattle.std.proofs.Common.{◌≡◌, List, [], ◌∷◌, length, Bool, true, false, ◌&&◌, true≢false, refl, sym, ap, ap₂, ◌∙◌, arith}
use Rattle.std.specs.Str.{bytes_eq}
use Rattle.std.proofs.lemmas.Bool.{and_parts, eqb-true, eq-eqb}
use Rattle.std.proofs.lemmas.Bool.Decides.{Decides-int_eq}
use Rattle.std.proofs.lemmas.Slice.Eq.{bytes_eq-Decides}
use Rattle.std.proofs.Math.Bool.{and-false}
use Rattle.serde_json.specs.Data.{Num, unsigned, negative, float, Data, null, boolean, number, string, array, object, Items, no_items, item, Members, no_members, member}
use Rattle.ocsf_tree.specs.declared.tree.Tree.{Tree}
use Rattle.ocsf_tree.specs.declared.tree.Member.{Member}
use Rattle.ocsf_tree.specs.Data.{data_of, list_data, members_data}
use Rattle.ocsf_tree.specs.Valid.{is_before, is_whole, is_valid, are_valid, members_valid}
use Rattle.ocsf_tree.specs.Equality.{same_flag, same_number, same, same_items, same_members}

pub other_lengths : (xs ys : List Tree) → (length xs ≡ length ys → ⊥) → same_items (list_data xs) (list_data ys) ≡ false
other_lengths [] [] h = absurd (h refl)
other_lengths [] (y ∷ ys) h = refl
other_lengths (x ∷ xs) [] h = refl
other_lengths (x ∷ xs) (y ∷ ys) h =
    ap (λ b. same (data_of x) (data_of y) && b) (other_lengths xs ys (λ e. h (omega arith))) ∙ and-false (same (data_of x) (data_of y))

pub other_counts : (xs ys : List Member) → (length xs ≡ length ys → ⊥) → same_members (members_data xs) (members_data ys) ≡ false
other_counts [] [] h = absurd (h refl)
other_counts [] (y ∷ ys) h = refl
other_counts (x ∷ xs) [] h = refl
other_counts (x ∷ xs) (y ∷ ys) h =
    let d = same (data_of x.value) (data_of y.value) in
    ap (λ b. bytes_eq x.name y.name && (d && b)) (other_counts xs ys (λ e. h (omega arith))) ∙ ap (λ b. bytes_eq x.name y.name && b) (and-false d) ∙ and-false (bytes_eq x.name y.name)

flag_is : (b c : Bool) → same_flag b c ≡ true → b ≡ c
flag_is true true e = refl
flag_is true false e = sym e
flag_is false true e = absurd (true≢false (sym e))
flag_is false false e = refl

number_is : (m n : Num) → same_number m n ≡ true → m ≡ n
number_is (unsigned m) (unsigned n) e = ap unsigned (eqb-true m n e)
number_is (unsigned m) (negative z) e = absurd (true≢false (sym e))
number_is (unsigned m) (float x) e = absurd (true≢false (sym e))
number_is (negative y) (unsigned n) e = absurd (true≢false (sym e))
number_is (negative y) (negative z) e = ap negative ((Decides-int_eq y z).0 e)
number_is (negative y) (float x) e = absurd (true≢false (sym e))
number_is (float x) n e = absurd (true≢false (sym e))

mutual
  pub same_is : (d e : Data) → same d e ≡ true → d ≡ e
  same_is null null h = refl
  same_is (boolean b) (boolean c) h = ap boolean (flag_is b c h)
  same_is (number m) (number n) h = ap number (number_is m n h)
  same_is (string s) (string t) h = ap string ((bytes_eq-Decides s t).0 h)
  same_is (array ds) (array es) h = ap array (same_items_is ds es h)
  same_is (object ms) (object ns) h = ap object (same_members_is ms ns h)
  same_is null (boolean c) h = absurd (true≢false (sym h))
  same_is null (number n) h = absurd (true≢false (sym h))
  same_is null (string t) h = absurd (true≢false (sym h))
  same_is null (array es) h = absurd (true≢false (sym h))
  same_is null (object ns) h = absurd (true≢false (sym h))
  same_is (boolean b) null h = absurd (true≢false (sym h))
  same_is (boolean b) (number n) h = absurd (true≢false (sym h))
  same_is (boolean b) (string t) h = absurd (true≢false (sym h))
  same_is (boolean b) (array es) h = absurd (true≢false (sym h))
  same_is (boolean b) (object ns) h = absurd (true≢false (sym h))
  same_is (number m) null h = absurd (true≢false (sym h))
  same_is (number m) (boolean c) h = absurd (true≢false (sym h))
  same_is (number m) (string t) h = absurd (true≢false (sym h))
  same_is (number m) (array es) h = absurd (true≢false (sym h))
  same_is (number m) (object ns) h = absurd (true≢false (sym h))
  same_is (string s) null h = absurd (true≢false (sym h))
  same_is (string s) (boolean c) h = absurd (true≢false (sym h))
  same_is (string s) (number n) h = absurd (true≢false (sym h))
  same_is (string s) (array es) h = absurd (true≢false (sym h))
  same_is (string s) (object ns) h = absurd (true≢false (sym h))
  same_is (array ds) null h = absurd (true≢false (sym h))
  same_is (array ds) (boolean c) h = absurd (true≢false (sym h))
  same_is (array ds) (number n) h = absurd (true≢false (sym h))
  same_is (array ds) (string t) h = absurd (true≢false (sym h))
  same_is (array ds) (object ns) h = absurd (true≢false (sym h))
  same_is (object ms) null h = absurd (true≢false (sym h))
  same_is (object ms) (boolean c) h = absurd (true≢false (sym h))
  same_is (object ms) (number n) h = absurd (true≢false (sym h))
  same_is (object ms) (string t) h = absurd (true≢false (sym h))
  same_is (object ms) (array es) h = absurd (true≢false (sym h))

  same_items_is : (ds es : Items) → same_items ds es ≡ true → ds ≡ es
  same_items_is no_items no_items h = refl
  same_items_is no_items (item e es) h = absurd (true≢false (sym h))
  same_items_is (item d ds) no_items h = absurd (true≢false (sym h))
  same_items_is (item d ds) (item e es) h = let p = and_parts (same d e) _ h in ap₂ item (same_is d e p.0) (same_items_is ds es p.1)

  same_members_is : (ms ns : Members) → same_members ms ns ≡ true → ms ≡ ns
  same_members_is no_members no_members h = refl
  same_members_is no_members (member l e ns) h = absurd (true≢false (sym h))
  same_members_is (member k d ms) no_members h = absurd (true≢false (sym h))
  same_members_is (member k d ms) (member l e ns) h =
      let p = and_parts (bytes_eq k l) _ h in
      let q = and_parts (same d e) _ p.1 in
      ap (λ n. member n d ms) ((bytes_eq-Decides k l).0 p.0) ∙ ap₂ (member l) (same_is d e q.0) (same_members_is ms ns q.1)

flag_itself : (b : Bool) → same_flag b b ≡ true
flag_itself true = refl
flag_itself false = refl

number_itself : (n : Num) → is_whole n ≡ true → same_number n n ≡ true
number_itself (unsigned n) h = eq-eqb n n refl
number_itself (negative z) h = (Decides-int_eq z z).1 refl
number_itself (float x) h = absurd (true≢false (sym h))

mutual
  pub same_itself : (d : Data) → is_valid d ≡ true → same d d ≡ true
  same_itself null h = refl
  same_itself (boolean b) h = flag_itself b
  same_itself (number n) h = number_itself n h
  same_itself (string s) h = (bytes_eq-Decides s s).1 refl
  same_itself (array ds) h = same_items_itself ds h
  same_itself (object ms) h = same_members_itself ms h

  same_items_itself : (ds : Items) → are_valid ds ≡ true → same_items ds ds ≡ true
  same_items_itself no_items h = refl
  same_items_itself (item d ds) h = let p = and_parts (is_valid d) _ h in ap₂ (λ a b. a && b) (same_itself d p.0) (same_items_itself ds p.1)

  same_members_itself : (ms : Members) → members_valid ms ≡ true → same_members ms ms ≡ true
  same_members_itself no_members h = refl
  same_members_itself (member k d ms) h =
      let p = and_parts (is_valid d) _ (and_parts (is_before k ms) _ h).1 in
      ap₂ (λ a b. a && b) ((bytes_eq-Decides k k).1 refl) (ap₂ (λ a b. a && b) (same_itself d p.0) (same_members_itself ms p.1))
