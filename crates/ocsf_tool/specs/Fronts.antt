-- The front of a text, one byte longer than a limit.
use Rattle.std.proofs.Common.{◌≡◌, ℕ, ◌+◌, ◌<◌, ◌≤◌, List, length, take, sym, subst, arith}
use Rattle.std.proofs.lemmas.List.{take_all, length-take-le}

pub past : (m n : ℕ) → m < n → n ≤ m → ⊥
past m n h k = omega (arith, h, k)

-- it is too long where the text is
pub front_long : (limit : ℕ) (bytes : List ℕ) → limit < length bytes → limit < length (take (limit + 1) bytes)
front_long limit bytes h =
    let all : limit + 1 ≤ length bytes = omega (arith, h) in
    subst (λ n. limit < n) (sym (length-take-le (limit + 1) bytes all)) (omega arith)

-- else it is the text
pub front_whole : (limit : ℕ) (bytes : List ℕ) → length bytes ≤ limit → take (limit + 1) bytes ≡ bytes
front_whole limit bytes h = take_all (limit + 1) bytes (omega (arith, h))
