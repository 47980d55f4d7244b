-- The names of an object that was read stand strictly by their bytes.
use Rattle.std.proofs.Common.{◌≡◌, ℕ, zero, suc, ◌^◌, ◌==◌, ℤ, List, drop, Bool, true, false, cond, ◌&&◌, ◌||◌, nat_lt, Float, true≢false, arith, lt-ltb, Option, Some, None, option_map, option_and_then, Ordering, Less, Equal, Greater, nat_cmp, refl, ap, ap₂, ◌∙◌, subst}
use Rattle.std.specs.Prelude.{⊤, nat_le, slice_index}
use Rattle.std.specs.Option.{IfSome}
use Rattle.std.specs.Float.{binary64, float_is_finite}
use Rattle.std.proofs.lemmas.Bool.{ltb-true, leb-true}
use Rattle.fast_float.specs.Text.{minus, Parts, scan, digits_of, nearest, with_sign}
use Rattle.std.specs.Ordering.{match_ordering, ordering_reverse}
use Rattle.std.specs.Cmp.Lexicographic.{slice_cmp}
use Rattle.std.proofs.lemmas.Cmp.{nat_list_cmp_total}
use Rattle.json.specs.Lex.{tokens}
use Rattle.json.specs.Json as json
use Rattle.serde_json.specs.Data.{Num, unsigned, negative, float, Data, null, boolean, number, string, array, object, Items, no_items, item, Members, no_members, member, put}
use Rattle.serde_json.specs.Read.{is_integer, float_of, number_from, number_of, of_json, of_items, of_members, max_depth, read}
use Rattle.serde_json.specs.Find.{is_float}
use Rattle.serde_json.specs.Written.{has_float, items_have_float, members_have_float}
use Rattle.ocsf_tree.specs.Valid.{is_before, is_whole, is_valid, are_valid, members_valid}

-- the name stands before each of these
abbrev pub AllAfter : List ℕ → Members → Type 0
AllAfter n no_members = ⊤
AllAfter n (member l d ms) = (slice_cmp nat_cmp n l ≡ Less) × AllAfter n ms

-- a 64-bit number, where it is no float
abbrev pub IsWholeOrFloat : Num → Type 0
IsWholeOrFloat n = is_float n ≡ false → is_whole n ≡ true

abbrev mutual
  pub InOrder : Data → Type 0
  InOrder null = ⊤
  InOrder (boolean b) = ⊤
  InOrder (number n) = IsWholeOrFloat n
  InOrder (string s) = ⊤
  InOrder (array ds) = ItemsInOrder ds
  InOrder (object ms) = MembersInOrder ms

  pub ItemsInOrder : Items → Type 0
  ItemsInOrder no_items = ⊤
  ItemsInOrder (item d ds) = InOrder d × ItemsInOrder ds

  pub MembersInOrder : Members → Type 0
  MembersInOrder no_members = ⊤
  MembersInOrder (member k d ms) = AllAfter k ms × InOrder d × MembersInOrder ms

pub AllAfter-below : (n l : List ℕ) (ms : Members) → slice_cmp nat_cmp n l ≡ Less → AllAfter l ms → AllAfter n ms
AllAfter-below n l no_members h a = tt
AllAfter-below n l (member k d ms) h a = (nat_list_cmp_total.trans n l k h a.0, AllAfter-below n l ms h a.1)

pub is_before-AllAfter : (n : List ℕ) (ms : Members) → AllAfter n ms → is_before n ms ≡ true
is_before-AllAfter n no_members a = refl
is_before-AllAfter n (member k d ms) a = ap (λ o. match_ordering o true false false) a.0

turned : (k l : List ℕ) → slice_cmp nat_cmp k l ≡ Greater → slice_cmp nat_cmp l k ≡ Less
turned k l e = nat_list_cmp_total.antisymm l k ∙ ap ordering_reverse e

chosen : (P : Members → Type 0) (o : Ordering) (a b c : Members) → (o ≡ Less → P a) → (o ≡ Equal → P b) → (o ≡ Greater → P c) → P (match_ordering o a b c)
chosen P Less a b c f g h = f refl
chosen P Equal a b c f g h = g refl
chosen P Greater a b c f g h = h refl

AllAfter-put : (n k : List ℕ) (d : Data) (ms : Members) → slice_cmp nat_cmp n k ≡ Less → AllAfter n ms → AllAfter n (put k d ms)
AllAfter-put n k d no_members h a = (h, tt)
AllAfter-put n k d (member l e ms) h a =
    chosen (AllAfter n) (slice_cmp nat_cmp k l) (member k d (member l e ms)) (member l d ms) (member l e (put k d ms))
    (λ _. (h, a)) (λ _. a) (λ _. (a.0, AllAfter-put n k d ms h a.1))

MembersInOrder-put : (k : List ℕ) (d : Data) (ms : Members) → InOrder d → MembersInOrder ms → MembersInOrder (put k d ms)
MembersInOrder-put k d no_members h o = (tt, h, tt)
MembersInOrder-put k d (member l e ms) h o =
    chosen MembersInOrder (slice_cmp nat_cmp k l) (member k d (member l e ms)) (member l d ms) (member l e (put k d ms))
    (λ less. ((less, AllAfter-below k l ms less o.0), h, o)) (λ _. (o.0, h, o.2))
    (λ greater. (AllAfter-put l k d ms (turned k l greater) o.0, o.1, MembersInOrder-put k d ms h o.2))

-- ---- what was read

abbrev pub IfSomeIs : {A : Type 0} → (A → Type 0) → Option A → Type 0
IfSomeIs P o = IfSome o P

IfSomeIs-map : {A B : Type 0} (P : A → Type 0) (Q : B → Type 0) (h : A → B) → ((a : A) → P a → Q (h a)) → (o : Option A) → IfSomeIs P o → IfSomeIs Q (option_map h o)
IfSomeIs-map P Q h k None x = tt
IfSomeIs-map P Q h k (Some a) x = k a x

IfSomeIs-and_then : {A B : Type 0} (P : A → Type 0) (Q : B → Type 0) (h : A → Option B) → ((a : A) → P a → IfSomeIs Q (h a)) → (o : Option A) → IfSomeIs P o → IfSomeIs Q (option_and_then h o)
IfSomeIs-and_then P Q h k None x = tt
IfSomeIs-and_then P Q h k (Some a) x = k a x

unsigned_so : (b c : Bool) (n : ℕ) (o : Option Num) → (c ≡ true → nat_lt n (2 ^ 64) ≡ true) → IfSomeIs IsWholeOrFloat o → IfSomeIs IsWholeOrFloat (cond (b && c) (Some (unsigned n)) o)
unsigned_so true true n o h x = λ _. h refl
unsigned_so true false n o h x = x
unsigned_so false c n o h x = x

negative_so : (b c d : Bool) (z : ℤ) (o : Option Num) → (c ≡ true → d ≡ true → is_whole (negative z) ≡ true) → IfSomeIs IsWholeOrFloat o → IfSomeIs IsWholeOrFloat (cond (b && c && d) (Some (negative z)) o)
negative_so true true true z o h x = λ _. h refl refl
negative_so true true false z o h x = x
negative_so true false d z o h x = x
negative_so false c d z o h x = x

float_so : (b : Bool) (x : Float) → IfSomeIs IsWholeOrFloat (cond b (Some (float x)) None)
float_so true x = λ e. absurd (true≢false e)
float_so false x = tt

below_zero : (n : ℕ) → nat_lt 0 n ≡ true → nat_le n (2 ^ 63) ≡ true → is_whole (negative (with_sign true n)) ≡ true
below_zero zero some fits = absurd (let h = ltb-true 0 0 some in omega arith)
below_zero (suc n) some fits = let h = leb-true (suc n) (2 ^ 63) fits in lt-ltb n (2 ^ 63) (omega arith)

number_from-whole : (sign : Bool) (p : Parts) → IfSomeIs IsWholeOrFloat (number_from sign p)
number_from-whole false p = unsigned_so (is_integer p) (nat_lt (digits_of p) (2 ^ 64)) (digits_of p) (float_of false p) (λ e. e) (float_so (float_is_finite (nearest binary64 false p)) (nearest binary64 false p))
number_from-whole true p =
    negative_so (is_integer p) (nat_lt 0 (digits_of p)) (nat_le (digits_of p) (2 ^ 63)) (with_sign true (digits_of p)) (float_of true p) (below_zero (digits_of p))
    (float_so (float_is_finite (nearest binary64 true p)) (nearest binary64 true p))

either_sign : (b : Bool) (s t : Parts) → IfSomeIs IsWholeOrFloat (cond b (number_from true s) (number_from false t))
either_sign true s t = number_from-whole true s
either_sign false s t = number_from-whole false t

number_of-whole : (s : List ℕ) → IfSomeIs IsWholeOrFloat (number_of s)
unfolding number_of
number_of-whole s = either_sign (slice_index s 0 == minus) (scan (drop 1 s)) (scan s)

anything : {A : Type 0} (o : Option A) → IfSomeIs (λ _. ⊤) o
anything None = tt
anything (Some a) = tt

mutual
  of_json-InOrder : (j : json.Json) → IfSomeIs InOrder (of_json j)
  of_json-InOrder json.null = tt
  of_json-InOrder (json.boolean b) = tt
  of_json-InOrder (json.number s) = IfSomeIs-map IsWholeOrFloat InOrder number (λ a x. x) (number_of s) (number_of-whole s)
  of_json-InOrder (json.string s) = tt
  of_json-InOrder (json.array js) = IfSomeIs-map ItemsInOrder InOrder array (λ a x. x) (of_items js) (of_items-InOrder js)
  of_json-InOrder (json.object ms) = IfSomeIs-map MembersInOrder InOrder object (λ a x. x) (of_members ms no_members) (of_members-InOrder ms no_members tt)

  of_items-InOrder : (js : json.Items) → IfSomeIs ItemsInOrder (of_items js)
  of_items-InOrder json.no_items = tt
  of_items-InOrder (json.item j js) =
      IfSomeIs-and_then InOrder ItemsInOrder (λ d. option_map (item d) (of_items js))
      (λ d x. IfSomeIs-map ItemsInOrder ItemsInOrder (item d) (λ ds y. (x, y)) (of_items js) (of_items-InOrder js)) (of_json j) (of_json-InOrder j)

  of_members-InOrder : (ms : json.Members) (found : Members) → MembersInOrder found → IfSomeIs MembersInOrder (of_members ms found)
  of_members-InOrder json.no_members found o = o
  of_members-InOrder (json.member k j ms) found o =
      IfSomeIs-and_then InOrder MembersInOrder (λ d. of_members ms (put k d found)) (λ d x. of_members-InOrder ms (put k d found) (MembersInOrder-put k d found x o)) (of_json j) (of_json-InOrder j)

pub read-InOrder : (text : List ℕ) (d : Data) → read text ≡ Some d → InOrder d
read-InOrder text d e =
    subst (IfSomeIs InOrder) e (IfSomeIs-and_then (λ _. ⊤) InOrder of_json (λ j _. of_json-InOrder j) (option_and_then (λ p. json.if_last p.0 p.1) (json.value max_depth (tokens text))) (anything _))

-- ---- without a float it is valid

pub or_false : (a b : Bool) → (a || b) ≡ false → (a ≡ false) × (b ≡ false)
or_false true b e = absurd (true≢false e)
or_false false b e = (refl, e)

mutual
  pub is_valid-InOrder : (d : Data) → InOrder d → has_float d ≡ false → is_valid d ≡ true
  is_valid-InOrder null o h = refl
  is_valid-InOrder (boolean b) o h = refl
  is_valid-InOrder (number n) o h = o h
  is_valid-InOrder (string s) o h = refl
  is_valid-InOrder (array ds) o h = are_valid-InOrder ds o h
  is_valid-InOrder (object ms) o h = members_valid-InOrder ms o h

  are_valid-InOrder : (ds : Items) → ItemsInOrder ds → items_have_float ds ≡ false → are_valid ds ≡ true
  are_valid-InOrder no_items o h = refl
  are_valid-InOrder (item d ds) o h = let p = or_false (has_float d) _ h in ap₂ (λ a b. a && b) (is_valid-InOrder d o.0 p.0) (are_valid-InOrder ds o.1 p.1)

  members_valid-InOrder : (ms : Members) → MembersInOrder ms → members_have_float ms ≡ false → members_valid ms ≡ true
  members_valid-InOrder no_members o h = refl
  members_valid-InOrder (member k d ms) o h =
      let p = or_false (has_float d) _ h in
      ap₂ (λ a b. a && b) (is_before-AllAfter k ms o.0) (ap₂ (λ a b. a && b) (is_valid-InOrder d o.1 p.0) (members_valid-InOrder ms o.2 p.1))
