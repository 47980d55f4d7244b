-- What can be decided, and what can be listed: a list has just those of which it holds.
use Rattle.std.proofs.Common.{◌≡◌, ℕ, zero, suc, List, [], ◌∷◌, ◌++◌, Bool, true, false, true≢false, Option, Some, None}
use Rattle.std.proofs.Common.{◌⊎◌, inl, inr, refl, sym, subst, arith}
use Rattle.std.specs.Prelude.{◌↔◌, Contains, IfSome, IsSomeAnd, slice_get}
use Rattle.std.proofs.lemmas.Option.{none-some, same_Some}
use Rattle.std.proofs.lemmas.List.Elements.{Contains-append_left, Contains-append_right, Contains-append_cases}

-- ---- what can be decided

abbrev pub Decided : Type 0 → Type 0
Decided A = A ⊎ (A → ⊥)

-- what is decided holds where it isn't refuted
pub holds : {A : Type 0} → Decided A → ((A → ⊥) → ⊥) → A
holds (inl a) not_refuted = a
holds (inr not) not_refuted = absurd (not_refuted not)

pub both : {A B : Type 0} → Decided A → Decided B → Decided (A × B)
both (inl a) (inl b) = inl (a, b)
both (inl a) (inr not) = inr (λ p. not p.1)
both (inr not) b = inr (λ p. not p.0)

pub either_one : {A B : Type 0} → Decided A → Decided B → Decided (A ⊎ B)
either_one (inl a) b = inl (inl a)
either_one (inr a) (inl b) = inl (inr b)
either_one (inr a) (inr b) = inr (λ s. elim s [ inl x ↦ a x | inr y ↦ b y ])

pub refuted : {A : Type 0} → Decided A → Decided (A → ⊥)
refuted (inl a) = inr (λ not. not a)
refuted (inr not) = inl not

pub same_test : (a b : Bool) → Decided (a ≡ b)
same_test true true = inl refl
same_test false false = inl refl
same_test true false = inr (λ e. true≢false e)
same_test false true = inr (λ e. true≢false (sym e))

pub is_none : {X : Type 0} (o : Option X) → Decided (o ≡ None)
is_none None = inl refl
is_none (Some x) = inr (λ e. none-some x (sym e))

pub is_nil : {X : Type 0} (xs : List X) → Decided (xs ≡ [])
is_nil [] = inl refl
is_nil (x ∷ xs) = inr (λ e. cc)

pub if_some : {X : Type 0} (P : X → Type 0) (o : Option X) → ((x : X) → Decided (P x)) → Decided (IfSome o P)
if_some P None each = inl tt
if_some P (Some x) each = each x

pub some_and : {X : Type 0} (P : X → Type 0) (o : Option X) → ((x : X) → Decided (P x)) → Decided (IsSomeAnd o P)
some_and P None each = inr (λ w. w)
some_and P (Some x) each = each x

-- ---- the elements of a list

pub contains_none : {X : Type 0} (x : X) → Contains [] x → ⊥
contains_none x c = let lt = c.1 in absurd (omega (arith, lt))

pub here : {X : Type 0} (x : X) (xs : List X) → Contains (x ∷ xs) x
here x xs = (0, omega arith, refl)

pub later : {X : Type 0} (y : X) (xs : List X) (x : X) → Contains xs x → Contains (y ∷ xs) x
later y xs x c = Contains-append_right (y ∷ []) xs x c

alone : {X : Type 0} (y x : X) → Contains (y ∷ []) x → y ≡ x
alone y x (zero, lt, e) = e
alone y x (suc k, lt, e) = absurd (omega (arith, lt))

pub first_or_later : {X : Type 0} (y : X) (xs : List X) (x : X) → Contains (y ∷ xs) x → (y ≡ x) ⊎ Contains xs x
first_or_later y xs x c =
    elim (Contains-append_cases (y ∷ []) xs x c) [ inl one ↦ inl (alone y x one) | inr rest ↦ inr rest ]

-- ---- what can be listed

abbrev pub Listed : {X : Type 0} → (X → Type 0) → Type 0
Listed {X} P = (xs : List X) × ((x : X) → Contains xs x ↔ P x)

pub nothing : {X : Type 0} (P : X → Type 0) → ((x : X) → P x → ⊥) → Listed P
nothing P none = ([], λ x. (λ c. absurd (contains_none x c), λ p. absurd (none x p)))

pub those : {X : Type 0} (xs : List X) → Listed (Contains xs)
those xs = (xs, λ x. (λ c. c, λ c. c))

pub alike : {X : Type 0} (P Q : X → Type 0) → ((x : X) → P x → Q x) → ((x : X) → Q x → P x) → Listed P → Listed Q
alike P Q there back l = (l.0, λ x. (λ c. there x ((l.1 x).0 c), λ q. (l.1 x).1 (back x q)))

pub only : {X : Type 0} (A : Type 0) (d : X) → Decided A → Listed (λ x. A × (x ≡ d))
only A d (inl a) = (
  d ∷ [],
  λ x. (λ c. (a, sym (alone d x c)), λ p. subst (Contains (d ∷ [])) (sym p.1) (here d [])),
)
only A d (inr not) = nothing (λ x. A × (x ≡ d)) (λ x p. not p.0)

pub either : {X : Type 0} (P Q : X → Type 0) → Listed P → Listed Q → Listed (λ x. P x ⊎ Q x)
either P Q l m = (
  l.0 ++ m.0,
  λ x. (
    λ c. elim (Contains-append_cases l.0 m.0 x c) [ inl a ↦ inl ((l.1 x).0 a) | inr b ↦ inr ((m.1 x).0 b) ],
    λ s. elim s [
      | inl p ↦ Contains-append_left l.0 m.0 x ((l.1 x).1 p)
      | inr q ↦ Contains-append_right l.0 m.0 x ((m.1 x).1 q)
    ],
  ),
)

pub with_fact : {X : Type 0} (A : Type 0) (P : X → Type 0) → Decided A → Listed P → Listed (λ x. A × P x)
with_fact A P (inl a) l = alike P (λ x. A × P x) (λ x p. (a, p)) (λ x p. p.1) l
with_fact A P (inr not) l = nothing (λ x. A × P x) (λ x p. not p.0)

abbrev AnyOf : {X Y : Type 0} → (Y → X → Type 0) → List Y → X → Type 0
AnyOf {X} {Y} Q ys x = (y : Y) × Contains ys y × Q y x

abbrev AnyAt : {X Y : Type 0} → (ℕ → Y → X → Type 0) → List Y → X → Type 0
AnyAt {X} {Y} Q ys x = (k : ℕ) × (y : Y) × (slice_get ys k ≡ Some y) × Q k y x

-- of each element
pub each : {X Y : Type 0} (Q : Y → X → Type 0) (ys : List Y) → ((y : Y) → Contains ys y → Listed (Q y))
    → Listed (AnyOf Q ys)
each Q [] l = nothing (AnyOf Q []) (λ x p. contains_none p.0 p.1)
each {X} {Y} Q (y ∷ ys) l =
    alike (λ x. Q y x ⊎ AnyOf Q ys x) (AnyOf Q (y ∷ ys))
    (λ x s. elim s [ inl q ↦ (y, here y ys, q) | inr r ↦ (r.0, later y ys r.0 r.1, r.2) ])
    (λ x p. back x p.0 p.2 (first_or_later y ys p.0 p.1))
    (either (Q y) (AnyOf Q ys) (l y (here y ys)) (each Q ys (λ z c. l z (later y ys z c))))
  where
    back : (x : X) (z : Y) → Q z x → (y ≡ z) ⊎ Contains ys z → Q y x ⊎ AnyOf Q ys x
    back x z q (inl e) = inl (subst (λ w. Q w x) (sym e) q)
    back x z q (inr c) = inr (z, c, q)

-- of each element and its position
pub each_at : {X Y : Type 0} (Q : ℕ → Y → X → Type 0) (ys : List Y)
    → ((k : ℕ) (y : Y) → slice_get ys k ≡ Some y → Listed (Q k y))
    → Listed (AnyAt Q ys)
each_at Q [] l = nothing (AnyAt Q []) (λ x p. none-some p.1 p.2)
each_at {X} {Y} Q (y ∷ ys) l =
    alike (λ x. Q 0 y x ⊎ AnyAt (λ k. Q (suc k)) ys x) (AnyAt Q (y ∷ ys))
    (λ x s. elim s [ inl q ↦ (0, y, refl, q) | inr r ↦ (suc r.0, r.1, r.2, r.3) ])
    (λ x p. back x p.0 p.1 p.2 p.3)
    (either (Q 0 y) (AnyAt (λ k. Q (suc k)) ys) (l 0 y refl) (each_at (λ k. Q (suc k)) ys (λ k z e. l (suc k) z e)))
  where
    back : (x : X) (k : ℕ) (z : Y) → slice_get (y ∷ ys) k ≡ Some z → Q k z x → Q 0 y x ⊎ AnyAt (λ k. Q (suc k)) ys x
    back x zero z e q = inl (subst (λ w. Q 0 w x) (sym (same_Some y z e)) q)
    back x (suc k) z e q = inr (k, z, e, q)

-- of what is there
pub of_some : {X Y : Type 0} (Q : Y → X → Type 0) (o : Option Y) → ((y : Y) → o ≡ Some y → Listed (Q y))
    → Listed (λ x. (y : Y) × (o ≡ Some y) × Q y x)
of_some {X} {Y} Q None l = nothing (λ x. (y : Y) × (None ≡ Some y) × Q y x) (λ x p. none-some p.0 p.1)
of_some {X} {Y} Q (Some y) l =
    alike (Q y) (λ x. (z : Y) × (Some y ≡ Some z) × Q z x) (λ x q. (y, refl, q))
    (λ x p. subst (λ w. Q w x) (sym (same_Some y p.0 p.1)) p.2) (l y refl)

pub of_some_and : {X Y : Type 0} (Q : Y → X → Type 0) (o : Option Y) → ((y : Y) → Listed (Q y))
    → Listed (λ x. IsSomeAnd o (λ y. Q y x))
of_some_and Q None l = nothing (λ x. ⊥) (λ x p. p)
of_some_and Q (Some y) l = l y

-- of each of those that are listed
pub along : {X Y : Type 0} (P : Y → Type 0) (Q : Y → X → Type 0) → Listed P → ((y : Y) → P y → Listed (Q y))
    → Listed (λ x. (y : Y) × P y × Q y x)
along {X} {Y} P Q l m =
    alike (λ x. (y : Y) × Contains l.0 y × Q y x) (λ x. (y : Y) × P y × Q y x)
    (λ x p. (p.0, (l.1 p.0).0 p.1, p.2)) (λ x p. (p.0, (l.1 p.0).1 p.1, p.2))
    (each Q l.0 (λ y c. m y ((l.1 y).0 c)))

pub one : {X : Type 0} (d : X) → Listed (λ x. x ≡ d)
one d = (d ∷ [], λ x. (λ c. sym (alone d x c), λ e. subst (Contains (d ∷ [])) (sym e) (here d [])))

pub mapped : {X Y : Type 0} (P : Y → Type 0) (f : Y → X) → Listed P → Listed (λ x. (y : Y) × P y × (x ≡ f y))
mapped P f l = along P (λ y x. x ≡ f y) l (λ y p. one (f y))

-- whether there is none
pub none_of : {X : Type 0} (P : X → Type 0) → Listed P → Decided ((x : X) → P x → ⊥)
none_of P ([], is) = inl (λ x p. contains_none x ((is x).1 p))
none_of P (x ∷ xs, is) = inr (λ none. none x ((is x).0 (here x xs)))
