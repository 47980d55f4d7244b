-- Bytes that an object tells, along several calls.
use Rattle.std.proofs.Common.{ℕ, ◌+◌, ◌≤◌, min, List, [], ◌++◌, length, take, drop, Option, None, Some, refl, sym, ◌∙◌, ap, subst, append_assoc, arith}
use Rattle.std.proofs.Math.Seq.{take-append-add}
use Rattle.std.proofs.lemmas.List.{append-nil, take_min, take-append-le}
use Rattle.std.specs.Io.KnownBytes.{Appends, Consumes, Keeps}
use Rattle.ocsf_edge.specs.Sink.{AppendsPrefix}
use Rattle.ocsf_edge.proofs.Parts.{take_split}

pub Appends-none : (a : Option (List ℕ)) → Appends a a []
Appends-none None = tt
Appends-none (Some xs) = sym (append-nil xs)

pub Appends-keeps : (a b : Option (List ℕ)) → Keeps a b → Appends a b []
Appends-keeps None b k = tt
Appends-keeps (Some xs) None k = k
Appends-keeps (Some xs) (Some ys) k = k ∙ sym (append-nil xs)

pub Appends-append : (a b c : Option (List ℕ)) (xs ys : List ℕ) → Appends a b xs → Appends b c ys → Appends a c (xs ++ ys)
Appends-append None b c xs ys p q = tt
Appends-append (Some zs) None c xs ys p q = absurd p
Appends-append (Some zs) (Some bs) None xs ys p q = q
Appends-append (Some zs) (Some bs) (Some cs) xs ys p q = q ∙ ap (λ (l : List ℕ). l ++ ys) p ∙ append_assoc zs xs ys

pub Appends-take : (a b c : Option (List ℕ)) (bs : List ℕ) (at n : ℕ) → Appends a b (take at bs) → Appends b c (take n (drop at bs)) → Appends a c (take (at + n) bs)
Appends-take a b c bs at n p q = rw (take_split bs at n) (Appends-append a b c (take at bs) (take n (drop at bs)) p q)

pub Consumes-none : (a : Option (List ℕ)) → Consumes a a []
Consumes-none None = tt
Consumes-none (Some xs) = refl

pub Consumes-keeps : (a b : Option (List ℕ)) → Keeps a b → Consumes a b []
Consumes-keeps None b k = tt
Consumes-keeps (Some xs) None k = k
Consumes-keeps (Some xs) (Some ys) k = sym k

pub Consumes-append : (a b c : Option (List ℕ)) (xs ys : List ℕ) → Consumes a b xs → Consumes b c ys → Consumes a c (xs ++ ys)
Consumes-append None b c xs ys p q = tt
Consumes-append (Some zs) None c xs ys p q = absurd p
Consumes-append (Some zs) (Some bs) None xs ys p q = q
Consumes-append (Some zs) (Some bs) (Some cs) xs ys p q = p ∙ ap (λ (l : List ℕ). xs ++ l) q ∙ sym (append_assoc xs ys cs)

-- a front of the first part is a front of both
pub AppendsPrefix-first : (a b : Option (List ℕ)) (xs ys : List ℕ) → AppendsPrefix a b xs → AppendsPrefix a b (xs ++ ys)
AppendsPrefix-first a b xs ys (n, p) =
    let m : min n (length xs) ≤ length xs = omega arith in
    (min n (length xs), subst (λ (l : List ℕ). Appends a b l) (sym (take_min n xs) ∙ sym (take-append-le (min n (length xs)) xs ys m)) p)

-- all of the first part, and a front of the second
pub AppendsPrefix-second : (a b c : Option (List ℕ)) (xs ys : List ℕ) → Appends a b xs → AppendsPrefix b c ys → AppendsPrefix a c (xs ++ ys)
AppendsPrefix-second a b c xs ys p (n, q) =
    (length xs + n, subst (λ (l : List ℕ). Appends a c l) (sym (take-append-add xs ys n)) (Appends-append a b c xs (take n ys) p q))
