-- The lines of a stream as more bytes come.
use Rattle.std.proofs.Common.{◌≡◌, ℕ, suc, ◌≤◌, List, [], ◌∷◌, ◌++◌, Bool, true, false, cond, eqb, eqb-true, length, refl, sym, ◌∙◌, ap, append_assoc, arith}
use Rattle.std.proofs.lemmas.List.{append-nil}
use Rattle.std.proofs.lemmas.Bool.{ne_eqb}
use Rattle.ocsf_lines.specs.Lines.{lf, HasNoLf, onto_line, onto_rest, whole_lines, rest_of, rest_lines, lines_of}

whole_on_lf : (t : Bool) (x : ℕ) (w : List (List ℕ)) (r : List ℕ) → cond t ([] ∷ (w ++ r ∷ [])) (onto_line x (w ++ r ∷ [])) ≡ cond t ([] ∷ w) (onto_line x w) ++ cond t r (onto_rest x w r) ∷ []
whole_on_lf true x w r = refl
whole_on_lf false x [] r = refl
whole_on_lf false x (l ∷ ls) r = refl

rest_on_lf : (t : Bool) (x : ℕ) (w : List (List ℕ)) (r : List ℕ) → cond t [] (onto_rest x (w ++ r ∷ []) []) ≡ []
rest_on_lf true x w r = refl
rest_on_lf false x [] r = refl
rest_on_lf false x (l ∷ ls) r = refl

rest_on_byte : (t : Bool) (x b : ℕ) (w : List (List ℕ)) (r : List ℕ) → cond t (r ++ b ∷ []) (onto_rest x w (r ++ b ∷ [])) ≡ cond t r (onto_rest x w r) ++ b ∷ []
rest_on_byte true x b w r = refl
rest_on_byte false x b [] r = refl
rest_on_byte false x b (l ∷ ls) r = refl

-- one more byte: a LF ends the line, and any other byte goes to the rest
whole_lf : (xs : List ℕ) → whole_lines (xs ++ lf ∷ []) ≡ whole_lines xs ++ rest_of xs ∷ []
whole_lf [] = refl
whole_lf (x ∷ xs) =
    ap (λ (w : List (List ℕ)). cond (eqb x lf) ([] ∷ w) (onto_line x w)) (whole_lf xs) ∙ whole_on_lf (eqb x lf) x (whole_lines xs) (rest_of xs)

rest_lf : (xs : List ℕ) → rest_of (xs ++ lf ∷ []) ≡ []
rest_lf [] = refl
rest_lf (x ∷ xs) =
    ap (λ (r : List ℕ). cond (eqb x lf) r (onto_rest x (whole_lines (xs ++ lf ∷ [])) r)) (rest_lf xs)
    ∙ (ap (λ (w : List (List ℕ)). cond (eqb x lf) [] (onto_rest x w [])) (whole_lf xs) ∙ rest_on_lf (eqb x lf) x (whole_lines xs) (rest_of xs))

whole_byte : (xs : List ℕ) (b : ℕ) → eqb b lf ≡ false → whole_lines (xs ++ b ∷ []) ≡ whole_lines xs
whole_byte [] b e = ap (λ (t : Bool). cond t ([] ∷ []) []) e
whole_byte (x ∷ xs) b e = ap (λ (w : List (List ℕ)). cond (eqb x lf) ([] ∷ w) (onto_line x w)) (whole_byte xs b e)

rest_byte : (xs : List ℕ) (b : ℕ) → eqb b lf ≡ false → rest_of (xs ++ b ∷ []) ≡ rest_of xs ++ b ∷ []
rest_byte [] b e = ap (λ (t : Bool). cond t [] (b ∷ [])) e
rest_byte (x ∷ xs) b e =
    ap (λ (r : List ℕ). cond (eqb x lf) r (onto_rest x (whole_lines (xs ++ b ∷ [])) r)) (rest_byte xs b e)
    ∙ (ap (λ (w : List (List ℕ)). cond (eqb x lf) (rest_of xs ++ b ∷ []) (onto_rest x w (rest_of xs ++ b ∷ []))) (whole_byte xs b e)
    ∙ rest_on_byte (eqb x lf) x b (whole_lines xs) (rest_of xs))

no_lf_first : (b : ℕ) (bs : List ℕ) → HasNoLf (b ∷ bs) → eqb b lf ≡ false
no_lf_first b bs h = ne_eqb b lf (h 0 0 (omega arith))

no_lf_after : (b : ℕ) (bs : List ℕ) → HasNoLf (b ∷ bs) → HasNoLf bs
no_lf_after b bs h = λ k d l. h (suc k) d (omega arith)

-- bytes without a LF end no line
pub whole_lines-no_lf : (ys xs : List ℕ) → HasNoLf ys → whole_lines (xs ++ ys) ≡ whole_lines xs
whole_lines-no_lf [] xs h = ap whole_lines (append-nil xs)
whole_lines-no_lf (y ∷ ys) xs h =
    ap whole_lines (sym (append_assoc xs (y ∷ []) ys)) ∙ (whole_lines-no_lf ys (xs ++ y ∷ []) (no_lf_after y ys h) ∙ whole_byte xs y (no_lf_first y ys h))

-- they go to the rest
pub rest_of-no_lf : (ys xs : List ℕ) → HasNoLf ys → rest_of (xs ++ ys) ≡ rest_of xs ++ ys
rest_of-no_lf [] xs h = ap rest_of (append-nil xs) ∙ sym (append-nil (rest_of xs))
rest_of-no_lf (y ∷ ys) xs h =
    ap rest_of (sym (append_assoc xs (y ∷ []) ys))
    ∙ (rest_of-no_lf ys (xs ++ y ∷ []) (no_lf_after y ys h)
    ∙ (ap (λ (r : List ℕ). r ++ ys) (rest_byte xs y (no_lf_first y ys h)) ∙ append_assoc (rest_of xs) (y ∷ []) ys))

-- the line that a LF ends
pub whole_lines-line : (line xs : List ℕ) → HasNoLf line → whole_lines (xs ++ (line ++ lf ∷ [])) ≡ whole_lines xs ++ (rest_of xs ++ line) ∷ []
whole_lines-line line xs h =
    ap whole_lines (sym (append_assoc xs line (lf ∷ [])))
    ∙ (whole_lf (xs ++ line)
    ∙ (ap (λ (w : List (List ℕ)). w ++ rest_of (xs ++ line) ∷ []) (whole_lines-no_lf line xs h)
    ∙ ap (λ (r : List ℕ). whole_lines xs ++ r ∷ []) (rest_of-no_lf line xs h)))

pub rest_of-line : (line xs : List ℕ) → rest_of (xs ++ (line ++ lf ∷ [])) ≡ []
rest_of-line line xs = ap rest_of (sym (append_assoc xs line (lf ∷ []))) ∙ rest_lf (xs ++ line)

shorter : (t : Bool) (x n : ℕ) (w : List (List ℕ)) (r : List ℕ) → length r ≤ n → length (cond t r (onto_rest x w r)) ≤ suc n
shorter true x n w r l = omega arith
shorter false x n [] r l = omega arith
shorter false x n (v ∷ vs) r l = omega arith

pub length-rest_of : (xs : List ℕ) → length (rest_of xs) ≤ length xs
length-rest_of [] = omega arith
length-rest_of (x ∷ xs) = shorter (eqb x lf) x (length xs) (whole_lines xs) (rest_of xs) (length-rest_of xs)

one_more : (xs : List ℕ) (b : ℕ) (t : Bool) → eqb b lf ≡ t → (others : List (List ℕ)) × (whole_lines (xs ++ b ∷ []) ≡ whole_lines xs ++ others)
one_more xs b true e = (rest_of xs ∷ [], ap (λ (c : ℕ). whole_lines (xs ++ c ∷ [])) (eqb-true b lf e) ∙ whole_lf xs)
one_more xs b false e = ([], whole_byte xs b e ∙ sym (append-nil (whole_lines xs)))

whole_go_on : (ys xs : List ℕ) → (others : List (List ℕ)) × (whole_lines (xs ++ ys) ≡ whole_lines xs ++ others)
whole_go_on [] xs = ([], ap whole_lines (append-nil xs) ∙ sym (append-nil (whole_lines xs)))
whole_go_on (y ∷ ys) xs =
    let one = one_more xs y (eqb y lf) refl in
    let rest = whole_go_on ys (xs ++ y ∷ []) in
    (one.0 ++ rest.0, ap whole_lines (sym (append_assoc xs (y ∷ []) ys)) ∙ (rest.1 ∙ (ap (λ (l : List (List ℕ)). l ++ rest.0) one.1 ∙ append_assoc (whole_lines xs) one.0 rest.0)))

-- the lines that were there stay, whatever comes
pub lines_of-append : (xs ys : List ℕ) → (others : List (List ℕ)) × (lines_of (xs ++ ys) ≡ whole_lines xs ++ others)
lines_of-append xs ys =
    let w = whole_go_on ys xs in
    (w.0 ++ rest_lines (rest_of (xs ++ ys)), ap (λ (l : List (List ℕ)). l ++ rest_lines (rest_of (xs ++ ys))) w.1 ∙ append_assoc (whole_lines xs) w.0 (rest_lines (rest_of (xs ++ ys))))
