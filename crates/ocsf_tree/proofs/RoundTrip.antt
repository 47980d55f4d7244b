-- The compact text reads back, and texts that are equal are of equal data.
use Rattle.std.proofs.Common.{◌≡◌, ℕ, suc, ◌+◌, ◌^◌, ◌≤◌, max, pos, negsuc, List, [], true, Option, Some, option_map, option_and_then, Less, Greater, nat_cmp, refl, sym, ap, ap₂, ◌∙◌, arith, true≢false, append-nil}
use Rattle.std.specs.Prelude.{⊤}
use Rattle.std.specs.Ordering.{ordering_reverse}
use Rattle.std.specs.Cmp.Lexicographic.{slice_cmp}
use Rattle.std.proofs.lemmas.Bool.{and_parts, ltb-true}
use Rattle.std.proofs.lemmas.Cmp.{nat_list_cmp_total}
use Rattle.json.specs.Token.{Token}
use Rattle.json.specs.Lex.{tokens}
use Rattle.json.specs.Json as json
use Rattle.json.specs.Tree as tree
use Rattle.json.proofs.Printed.Tokens.{tokens-print}
use Rattle.json.proofs.Printed.Trees.{value-json_tokens, ArePrintable-json_tokens}
use Rattle.json.proofs.Printed.Decimals.{IsNumber-decimal, IsNumber-signed_decimal}
use Rattle.serde_json.specs.Data.{Num, unsigned, negative, float, Data, null, boolean, number, string, array, object, Items, no_items, item, Members, no_members, member, put, depth, items_depth, members_depth}
use Rattle.serde_json.specs.Read.{number_of, of_json, of_items, of_members, max_depth, read}
use Rattle.serde_json.specs.Written.{number_text, outline, items_outline, members_outline, compact_text}
use Rattle.serde_json.proofs.Numbers.{number_of-decimal, number_of-negative}
use Rattle.serde_json.proofs.Texts.{print-outline}
use Rattle.ocsf_tree.specs.Valid.{is_before, is_whole, is_valid, are_valid, members_valid}
use Rattle.ocsf_tree.proofs.Order.{AllAfter, AllAfter-below}
use Rattle.ocsf_tree.proofs.Valid.{less_so}

-- ---- its numbers are numbers

number_so : (n : Num) → is_whole n ≡ true → tree.HasNumbers (json.number (number_text n))
number_so (unsigned n) h = IsNumber-decimal n (ltb-true n (2 ^ 64) h)
number_so (negative (pos n)) h = absurd (true≢false (sym h))
number_so (negative (negsuc n)) h = IsNumber-signed_decimal (negsuc n) (ltb-true n (2 ^ 63) h)
number_so (float x) h = absurd (true≢false (sym h))

number_read : (n : Num) → is_whole n ≡ true → number_of (number_text n) ≡ Some n
number_read (unsigned n) h = number_of-decimal n (ltb-true n (2 ^ 64) h)
number_read (negative (pos n)) h = absurd (true≢false (sym h))
number_read (negative (negsuc n)) h = number_of-negative n (ltb-true n (2 ^ 63) h)
number_read (float x) h = absurd (true≢false (sym h))

mutual
  HasNumbers-outline : (d : Data) → is_valid d ≡ true → tree.HasNumbers (outline d)
  HasNumbers-outline null h = tt
  HasNumbers-outline (boolean b) h = tt
  HasNumbers-outline (number n) h = number_so n h
  HasNumbers-outline (string s) h = tt
  HasNumbers-outline (array ds) h = ItemsHaveNumbers-outline ds h
  HasNumbers-outline (object ms) h = MembersHaveNumbers-outline ms h

  ItemsHaveNumbers-outline : (ds : Items) → are_valid ds ≡ true → tree.ItemsHaveNumbers (items_outline ds)
  ItemsHaveNumbers-outline no_items h = tt
  ItemsHaveNumbers-outline (item d ds) h = let p = and_parts (is_valid d) _ h in (HasNumbers-outline d p.0, ItemsHaveNumbers-outline ds p.1)

  MembersHaveNumbers-outline : (ms : Members) → members_valid ms ≡ true → tree.MembersHaveNumbers (members_outline ms)
  MembersHaveNumbers-outline no_members h = tt
  MembersHaveNumbers-outline (member k d ms) h =
      let p = and_parts (is_valid d) _ (and_parts (is_before k ms) _ h).1 in (HasNumbers-outline d p.0, MembersHaveNumbers-outline ms p.1)

-- ---- its names go in one after another

valid_after : (k : List ℕ) (ms : Members) → is_before k ms ≡ true → members_valid ms ≡ true → AllAfter k ms
valid_after k no_members b v = tt
valid_after k (member l d ms) b v =
    let first = less_so (slice_cmp nat_cmp k l) b in
    let p = and_parts (is_before l ms) _ v in
    (first, AllAfter-below k l ms first (valid_after l ms p.0 (and_parts (is_valid d) _ p.1).1))

abbrev joined : Members → Members → Members
joined no_members ms = ms
joined (member k d found) ms = member k d (joined found ms)

joined-member : (found : Members) (k : List ℕ) (d : Data) (ms : Members) → joined (joined found (member k d no_members)) ms ≡ joined found (member k d ms)
joined-member no_members k d ms = refl
joined-member (member l e found) k d ms = ap (member l e) (joined-member found k d ms)

joined-nil : (found : Members) → joined found no_members ≡ found
joined-nil no_members = refl
joined-nil (member l e found) = ap (member l e) (joined-nil found)

-- each of the names stands before this one
abbrev AllBelow : List ℕ → Members → Type 0
AllBelow k no_members = ⊤
AllBelow k (member l e found) = (slice_cmp nat_cmp l k ≡ Less) × AllBelow k found

put_end : (k : List ℕ) (d : Data) (found : Members) → AllBelow k found → put k d found ≡ joined found (member k d no_members)
put_end k d no_members b = refl
put_end k d (member l e found) b =
    let later : slice_cmp nat_cmp k l ≡ Greater = nat_list_cmp_total.antisymm k l ∙ ap ordering_reverse b.0 in
    rw later (ap (member l e) (put_end k d found b.1))

AllBelow-joined : (k l : List ℕ) (d : Data) (found : Members) → slice_cmp nat_cmp k l ≡ Less → AllBelow k found → AllBelow l (joined found (member k d no_members))
AllBelow-joined k l d no_members h b = (h, tt)
AllBelow-joined k l d (member m e found) h b = (nat_list_cmp_total.trans m k l b.0 h, AllBelow-joined k l d found h b.1)

-- the names found stand before all that follow
abbrev AllBefore : Members → Members → Type 0
AllBefore found no_members = ⊤
AllBefore found (member k d ms) = AllBelow k found

AllBefore-joined : (k : List ℕ) (d : Data) (ms found : Members) → AllAfter k ms → AllBelow k found → AllBefore (joined found (member k d no_members)) ms
AllBefore-joined k d no_members found a b = tt
AllBefore-joined k d (member l e ms) found a b = AllBelow-joined k l d found a.0 b

mutual
  of_json-outline : (d : Data) → is_valid d ≡ true → of_json (outline d) ≡ Some d
  of_json-outline null h = refl
  of_json-outline (boolean b) h = refl
  of_json-outline (number n) h = ap (option_map number) (number_read n h)
  of_json-outline (string s) h = refl
  of_json-outline (array ds) h = ap (option_map array) (of_items-outline ds h)
  of_json-outline (object ms) h = ap (option_map object) (of_members-outline ms no_members h (nothing_before ms))

  of_items-outline : (ds : Items) → are_valid ds ≡ true → of_items (items_outline ds) ≡ Some ds
  of_items-outline no_items h = refl
  of_items-outline (item d ds) h =
      let p = and_parts (is_valid d) _ h in
      ap (option_and_then (λ e. option_map (item e) (of_items (items_outline ds)))) (of_json-outline d p.0) ∙ ap (option_map (item d)) (of_items-outline ds p.1)

  of_members-outline : (ms found : Members) → members_valid ms ≡ true → AllBefore found ms → of_members (members_outline ms) found ≡ Some (joined found ms)
  of_members-outline no_members found h b = ap Some (sym (joined-nil found))
  of_members-outline (member k d ms) found h b =
      let p = and_parts (is_before k ms) _ h in
      let q = and_parts (is_valid d) _ p.1 in
      ap (option_and_then (λ e. of_members (members_outline ms) (put k e found))) (of_json-outline d q.0)
      ∙ ap (of_members (members_outline ms)) (put_end k d found b)
      ∙ of_members-outline ms (joined found (member k d no_members)) q.1 (AllBefore-joined k d ms found (valid_after k ms p.0 q.1) b)
      ∙ ap Some (joined-member found k d ms)

  nothing_before : (ms : Members) → AllBefore no_members ms
  nothing_before no_members = tt
  nothing_before (member k d ms) = tt

mutual
  depth-outline : (d : Data) → tree.depth (outline d) ≡ depth d
  depth-outline null = refl
  depth-outline (boolean b) = refl
  depth-outline (number n) = refl
  depth-outline (string s) = refl
  depth-outline (array ds) = ap suc (items_depth-outline ds)
  depth-outline (object ms) = ap suc (members_depth-outline ms)

  items_depth-outline : (ds : Items) → tree.items_depth (items_outline ds) ≡ items_depth ds
  items_depth-outline no_items = refl
  items_depth-outline (item d ds) = ap₂ max (depth-outline d) (items_depth-outline ds)

  members_depth-outline : (ms : Members) → tree.members_depth (members_outline ms) ≡ members_depth ms
  members_depth-outline no_members = refl
  members_depth-outline (member k d ms) = ap₂ max (depth-outline d) (members_depth-outline ms)

-- ---- the text

tokens-text : (d : Data) → is_valid d ≡ true → tokens (compact_text d) ≡ tree.json_tokens (outline d)
tokens-text d h = ap tokens (sym (print-outline d)) ∙ tokens-print (tree.json_tokens (outline d)) (ArePrintable-json_tokens (outline d) (HasNumbers-outline d h))

parsed : (d : Data) (n : ℕ) → depth d ≤ n → json.value n (tree.json_tokens (outline d)) ≡ Some (outline d, [])
parsed d n h = ap (json.value n) (sym (append-nil (tree.json_tokens (outline d)))) ∙ value-json_tokens (outline d) n [] (omega (arith, depth-outline d))

pub read-text : (d : Data) → is_valid d ≡ true → depth d ≤ max_depth → read (compact_text d) ≡ Some d
read-text d h shallow =
    ap (λ ts. option_and_then of_json (option_and_then (λ p. json.if_last p.0 p.1) (json.value max_depth ts))) (tokens-text d h)
    ∙ ap (λ r. option_and_then of_json (option_and_then (λ p. json.if_last p.0 p.1) r)) (parsed d max_depth shallow)
    ∙ of_json-outline d h

abbrev first_of : Option (json.Json × List Token) → Option json.Json
first_of r = option_map (λ p. p.0) r

pub data_by_text : (d e : Data) → is_valid d ≡ true → is_valid e ≡ true → compact_text d ≡ compact_text e → d ≡ e
data_by_text d e h k same =
    let n = depth d + depth e in
    let outlines : tree.json_tokens (outline d) ≡ tree.json_tokens (outline e) = sym (tokens-text d h) ∙ ap tokens same ∙ tokens-text e k in
    let both : Some (outline d) ≡ Some (outline e) =
    ap first_of (sym (parsed d n (omega arith)) ∙ ap (json.value n) outlines ∙ parsed e n (omega arith)) in
    let found : Some d ≡ Some e = sym (of_json-outline d h) ∙ ap (option_and_then of_json) both ∙ of_json-outline e k in
    cc
