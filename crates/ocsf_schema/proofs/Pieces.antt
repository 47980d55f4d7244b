-- Bytes in pieces, cut at one of the pieces.
use Rattle.std.proofs.Common.{◌≡◌, ℕ, ◌+◌, ◌^◌, ◌<◌, ◌≤◌, List, ◌∷◌, ◌++◌, length, get_or, take, drop, suc, sym, ap, ◌∙◌, inl, inr, arith, append_assoc}
use Rattle.std.specs.Prelude.{flat_map}
use Rattle.std.proofs.Math.Seq.{drop-cons}
use Rattle.std.proofs.lemmas.Grind.{flat_map-append}
use Rattle.std.proofs.lemmas.Bool.{cases_lt}
use Rattle.std.proofs.lemmas.List.{take-append-drop}
use Rattle.std.proofs.lemmas.List.Folds.{length-flat_map-take}

abbrev joined : List (List ℕ) → List ℕ
joined = flat_map (λ (piece : List ℕ). piece)

-- the pieces before one, this one, and those behind it
pub cut_at : (pieces : List (List ℕ)) (i : ℕ) (piece : List ℕ) → i < length pieces → piece ≡ get_or pieces i piece
    → joined pieces ≡ (joined (take i pieces) ++ piece) ++ joined (drop (suc i) pieces)
cut_at pieces i piece h at =
    ap joined (sym (take-append-drop i pieces) ∙ ap (λ (l : List (List ℕ)). take i pieces ++ l) (drop-cons pieces i piece h ∙ ap (λ (p : List ℕ). p ∷ drop (suc i) pieces) (sym at)))
    ∙ flat_map-append (λ (p : List ℕ). p) (take i pieces) (piece ∷ drop (suc i) pieces)
    ∙ sym (append_assoc (joined (take i pieces)) piece (joined (drop (suc i) pieces)))

-- with so many bytes before a piece and in it, all have as many
pub too_many : (pieces : List (List ℕ)) (i : ℕ) (piece : List ℕ) (before more : ℕ) → i < length pieces → piece ≡ get_or pieces i piece
    → before ≡ length (joined (take i pieces)) → more ≡ length piece → (before + more < 2 ^ 64 → ⊥) → 2 ^ 64 ≤ length (joined pieces)
too_many pieces i piece before more inside at b m over =
    let all : length (joined (take i pieces)) + length (get_or pieces i piece) ≤ length (joined pieces) =
    length-flat_map-take (λ (p : List ℕ). p) pieces i piece inside in
    let size : more ≡ length (get_or pieces i piece) = m ∙ ap length at in
    elim (cases_lt (before + more) (2 ^ 64)) [
      | inl less ↦ absurd (over less)
      | inr least ↦ omega arith
    ]
