-- A path at which a file may stand is ASCII, and so it is UTF-8.
use Rattle.std.proofs.Common.{◌≡◌, ℕ, ◌<◌, List, [], ◌∷◌, Bool, true, false, not, ◌&&◌, ◌==◌, cond, Option, None, refl, arith}
use Rattle.std.specs.Prelude.{nat_le, length, is_some, if◌then◌else◌, ⊤}
use Rattle.std.specs.List.{list_all, slice_split, onto_first}
use Rattle.std.specs.Str.{IsAscii, IsUtf8}
use Rattle.std.proofs.lemmas.Bool.{and_parts}
use Rattle.std.proofs.lemmas.Bool.Decides.{nat_tests}
use Rattle.std.proofs.lemmas.Str.{IsAscii-drop, IsUtf8-from_ascii}
use Rattle.std.proofs.lemmas.Str.Ascii.{IsAscii-nil, IsAscii-cons}
use Rattle.ocsf_raw.specs.Names.{is_slash, is_segment_byte, is_segment, parts, is_path}
use Rattle.ocsf_raw.specs.Forms.{has_form}

segment_byte : (b : ℕ) → is_segment_byte b ≡ true → b < 128
segment_byte b h = grind (arith, nat_tests, h)

bytes_ascii : (bs : List ℕ) → list_all is_segment_byte bs ≡ true → IsAscii bs
bytes_ascii [] h = IsAscii-nil
bytes_ascii (b ∷ bs) h =
    let both = and_parts (is_segment_byte b) (list_all is_segment_byte bs) h in
    IsAscii-cons b bs (segment_byte b both.0) (bytes_ascii bs both.1)

segment_ascii : (bs : List ℕ) → is_segment bs ≡ true → IsAscii bs
segment_ascii [] h = IsAscii-nil
segment_ascii (b ∷ bs) h =
    let first = and_parts (not (b == 46)) (nat_le (length (b ∷ bs)) 100 && list_all is_segment_byte (b ∷ bs)) h in
    let rest = and_parts (nat_le (length (b ∷ bs)) 100) (list_all is_segment_byte (b ∷ bs)) first.1 in
    bytes_ascii (b ∷ bs) rest.1

abbrev AreAscii : List (List ℕ) → Type 0
AreAscii [] = ⊤
AreAscii (bs ∷ rest) = IsAscii bs × AreAscii rest

parts_ascii : (ps : List (List ℕ)) → list_all is_segment ps ≡ true → AreAscii ps
parts_ascii [] h = tt
parts_ascii (bs ∷ ps) h =
    let both = and_parts (is_segment bs) (list_all is_segment ps) h in
    (segment_ascii bs both.0, parts_ascii ps both.1)

-- the byte before the first part is ASCII, and the parts are
onto_ascii : (x : ℕ) (ps : List (List ℕ)) → AreAscii (onto_first x ps) → (x < 128) × AreAscii ps
onto_ascii x [] h = (h.0 0, tt)
onto_ascii x (bs ∷ ps) h = (h.0 0, (IsAscii-drop (x ∷ bs) 1 h.0, h.1))

slash_ascii : (x : ℕ) → is_slash x ≡ true → x < 128
slash_ascii x h = grind (arith, nat_tests, h)

byte_more : (x : ℕ) (xs : List ℕ) → (AreAscii (slice_split is_slash xs) → IsAscii xs)
    → (b : Bool) → is_slash x ≡ b → AreAscii (cond b ([] ∷ slice_split is_slash xs) (onto_first x (slice_split is_slash xs))) → IsAscii (x ∷ xs)
byte_more x xs rest true e h = IsAscii-cons x xs (slash_ascii x e) (rest h.1)
byte_more x xs rest false e h =
    let both = onto_ascii x (slice_split is_slash xs) h in
    IsAscii-cons x xs both.0 (rest both.1)

text_ascii : (xs : List ℕ) → AreAscii (slice_split is_slash xs) → IsAscii xs
text_ascii [] h = IsAscii-nil
text_ascii (x ∷ xs) h = byte_more x xs (text_ascii xs) (is_slash x) refl h

path_ascii : (path : List ℕ) → is_path path ≡ true → IsAscii path
path_ascii path h =
    let first = and_parts (nat_le (length path) 200) (nat_le (length (parts path)) 8 && list_all is_segment (parts path)) h in
    let rest = and_parts (nat_le (length (parts path)) 8) (list_all is_segment (parts path)) first.1 in
    text_ascii path (parts_ascii (parts path) rest.1)

is_so : {X : Type 0} (b : Bool) (o : Option X) → is_some (if b then o else None) ≡ true → b ≡ true
is_so true o h = refl
is_so false o h = h

pub formed_utf8 : (path : List ℕ) → has_form path ≡ true → IsUtf8 path
formed_utf8 path h = IsUtf8-from_ascii path (path_ascii path (is_so (is_path path) _ h))
