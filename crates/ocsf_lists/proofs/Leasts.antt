-- The least of several, by a test that ranks them.
use Rattle.std.proofs.Common.{◌≡◌, ℕ, ◌+◌, ◌<◌, ◌≤◌, List, [], ◌∷◌, ◌++◌, length, get_or, drop, Bool, true, false, cond, Option, Some, None, refl, sym, ◌∙◌, ap, subst}
use Rattle.std.specs.Prelude.{All, Contains}
use Rattle.std.specs.Option.{IfSome, option_or}
use Rattle.std.specs.List.{best_of, filter_map, cons_option}
use Rattle.std.specs.Cmp.{IsStrictWeakOrder}
use Rattle.std.specs.declared.cmp.Ordering.{Ordering}
use Rattle.std.specs.declared.cmp.Ordering.TheVariants.{Less, Equal, Greater}
use Rattle.std.specs.Ordering.{is_lt}
use Rattle.std.proofs.lemmas.Bool.{both_ways}
use Rattle.std.proofs.lemmas.List.{at_drop_more, at_drop_all}
use Rattle.std.proofs.lemmas.List.Elements.{All-contains, All-from_get_or, Contains-get_or}
use Rattle.std.proofs.lemmas.List.MinMax.{IsFirstBest-from_best_of}
use Rattle.ocsf_lists.specs.Least.{lesser, least_after, IsLeastBy}

-- less by the test is less
pub is_less : (r : Ordering) → is_lt r ≡ true → r ≡ Less
is_less Less e = refl
is_less Equal e = cc
is_less Greater e = cc

module _ {X : Type 0} {before : X → X → Bool} (o : IsStrictWeakOrder before) where
  abbrev pub least_of : List X → Option X
  least_of xs = least_after before None xs

  -- ---- two and three of them

  pub before_both : (x y z : X) → before x y ≡ true → before y z ≡ true → before x z ≡ true
  before_both x y z h k =
      elim (before x z) as (λ (b : Bool). before x z ≡ b → b ≡ true) [
        | true ↦ λ e. refl
        | false ↦ λ e. absurd (both_ways (before x y) (o.chain x z y e (o.one_way y z k)) h)
      ] refl

  pub before_other : (x y z : X) → before x z ≡ true → before y z ≡ false → before x y ≡ true
  before_other x y z h k =
      elim (before x y) as (λ (b : Bool). before x y ≡ b → b ≡ true) [
        | true ↦ λ e. refl
        | false ↦ λ e. absurd (both_ways (before x z) (o.chain x y z e k) h)
      ] refl

  pub other_before : (x y z : X) → before x y ≡ false → before x z ≡ true → before y z ≡ true
  other_before x y z h k =
      elim (before y z) as (λ (b : Bool). before y z ≡ b → b ≡ true) [
        | true ↦ λ e. refl
        | false ↦ λ e. absurd (both_ways (before x z) (o.chain x y z h e) k)
      ] refl

  abbrev first : X → X → X
  first y x = cond (before x y) x y

  some_first : (b : Bool) (x y : X) → cond b (Some x) (Some y) ≡ Some (cond b x y)
  some_first true x y = refl
  some_first false x y = refl

  pub lesser_first : (y x : X) → lesser before (Some y) (Some x) ≡ Some (first y x)
  lesser_first y x = some_first (before x y) x y

  by_cases : (x y z : X) (a b : Bool) → before y x ≡ a → before z y ≡ b
      → cond (before z (cond a y x)) z (cond a y x) ≡ cond (before (cond b z y) x) (cond b z y) x
  by_cases x y z true true h k = rw (k, before_both z y x k h) refl
  by_cases x y z true false h k = rw (k, h) refl
  by_cases x y z false true h k = refl
  by_cases x y z false false h k = rw (h, o.chain z y x k h) refl

  pub lesser-none : (a : Option X) → lesser before None a ≡ a
  lesser-none None = refl
  lesser-none (Some x) = refl

  pub lesser-assoc : (a b c : Option X) → lesser before (lesser before a b) c ≡ lesser before a (lesser before b c)
  lesser-assoc a b None = refl
  lesser-assoc a None (Some z) = refl
  lesser-assoc None (Some y) (Some z) = sym (lesser-none (lesser before (Some y) (Some z)))
  lesser-assoc (Some x) (Some y) (Some z) =
      ap (λ l. lesser before l (Some z)) (lesser_first x y)
      ∙ lesser_first (first x y) z
      ∙ ap Some (by_cases x y z (before y x) (before z y) refl refl)
      ∙ sym (lesser_first x (first y z))
      ∙ ap (lesser before (Some x)) (sym (lesser_first y z))

  -- ---- the least of a list

  pub least_after-is : (a : Option X) (xs : List X) → least_after before a xs ≡ lesser before a (least_of xs)
  least_after-is a [] = refl
  least_after-is a (x ∷ xs) =
      least_after-is (lesser before a (Some x)) xs
      ∙ lesser-assoc a (Some x) (least_of xs)
      ∙ ap (lesser before a) (sym (least_after-is (Some x) xs))

  pub least_after-append : (a : Option X) (xs ys : List X)
      → least_after before a (xs ++ ys) ≡ least_after before (least_after before a xs) ys
  least_after-append a [] ys = refl
  least_after-append a (x ∷ xs) ys = least_after-append (lesser before a (Some x)) xs ys

  pub least-append : (xs ys : List X) → least_of (xs ++ ys) ≡ lesser before (least_of xs) (least_of ys)
  least-append xs ys = least_after-append None xs ys ∙ least_after-is (least_of xs) ys

  pub least_after-cons : (a b : Option X) (xs : List X)
      → least_after before a (cons_option b xs) ≡ least_after before (lesser before a b) xs
  least_after-cons a None xs = refl
  least_after-cons a (Some x) xs = refl

  pub least-cons : (b : Option X) (xs : List X) → least_of (cons_option b xs) ≡ lesser before b (least_of xs)
  least-cons b xs =
      least_after-cons None b xs ∙ ap (λ l. least_after before l xs) (lesser-none b) ∙ least_after-is b xs

  after_best : (x : X) (xs : List X) → least_after before (Some x) xs ≡ Some (best_of before x xs)
  after_best x [] = refl
  after_best x (y ∷ ys) = ap (λ l. least_after before l ys) (lesser_first x y) ∙ after_best (first x y) ys

  pub least-is_least : (xs : List X) → IsLeastBy before xs (least_of xs)
  least-is_least [] = refl
  least-is_least (x ∷ xs) =
      let best = IsFirstBest-from_best_of o x xs in
      let b = best.0 in
      let is : get_or (x ∷ xs) b x ≡ best_of before x xs = best.2 in
      let there : Contains (x ∷ xs) (get_or (x ∷ xs) b x) = Contains-get_or (x ∷ xs) b x best.1.0 in
      subst (IsLeastBy before (x ∷ xs)) (sym (after_best x xs)) (
        subst (Contains (x ∷ xs)) is there,
        All-from_get_or (λ y. before y (best_of before x xs) ≡ false) (x ∷ xs) x
            (λ k h. subst (λ y. before (get_or (x ∷ xs) k x) y ≡ false) is (best.1.1 k x h)),
      )

  -- what holds of each holds of the least
  pub of_least : (P : X → Type 0) (xs : List X) → All P xs → IfSome (least_of xs) P
  of_least P xs all = go (least_of xs) (least-is_least xs)
    where
      go : (l : Option X) → IsLeastBy before xs l → IfSome l P
      go None is = tt
      go (Some x) is = All-contains P xs x all is.0

  -- and where there is no least there is none
  pub none_least : (xs : List X) → least_of xs ≡ None → xs ≡ []
  none_least xs e = subst (IsLeastBy before xs) e (least-is_least xs)

  -- ---- two groups, of which each of the one comes before each of the other

  pub lesser-keeps : (x y : X) → before x y ≡ true → lesser before (Some x) (Some y) ≡ Some x
  lesser-keeps x y h = lesser_first x y ∙ ap (λ b. Some (cond b y x)) (o.one_way x y h)

  pub lesser-takes : (x y : X) → before x y ≡ true → lesser before (Some y) (Some x) ≡ Some x
  lesser-takes x y h = lesser_first y x ∙ ap (λ b. Some (cond b x y)) h

  module _ (P Q : X → Type 0) (apart : (x y : X) → P x → Q y → before x y ≡ true) where
    pub lesser-parted : (a b : Option X) → IfSome a P → IfSome b Q → lesser before a b ≡ option_or a b
    lesser-parted None b p q = lesser-none b
    lesser-parted (Some x) None p q = refl
    lesser-parted (Some x) (Some y) p q = lesser-keeps x y (apart x y p q)

    pub least-parted : (xs ys : List X) → All P xs → All Q ys → least_of (xs ++ ys) ≡ option_or (least_of xs) (least_of ys)
    least-parted xs ys p q =
        least-append xs ys ∙ lesser-parted (least_of xs) (least_of ys) (of_least P xs p) (of_least Q ys q)

    -- the first group's least, and else the second's: pair by pair, or all at once
    pub lesser-groups : (a b c d : Option X) → IfSome a P → IfSome b Q → IfSome c P → IfSome d Q
        → lesser before (option_or a b) (option_or c d) ≡ option_or (lesser before a c) (lesser before b d)
    lesser-groups None b None d w x y z = refl
    lesser-groups None None (Some h) d w x y z = refl
    lesser-groups None (Some g) (Some h) d w x y z = lesser-takes h g (apart h g y x)
    lesser-groups (Some f) b None None w x y z = refl
    lesser-groups (Some f) b None (Some i) w x y z = lesser-keeps f i (apart f i w z)
    lesser-groups (Some f) b (Some h) d w x y z =
        lesser_first f h ∙ ap (λ l. option_or l (lesser before b d)) (sym (lesser_first f h))

  -- ---- one item after the other

  module _ {Y : Type 0} (f : Y → Option X) (ys : List Y) where
    -- the least of what f finds at the items that are left, and of the least so far
    abbrev pub left_of : Option X → ℕ → Option X
    left_of least i = least_after before least (filter_map f (drop i ys))

    pub noted : (start least next : Option X) (i : ℕ) (y : Y) → i < length ys → y ≡ get_or ys i y
        → next ≡ lesser before least (f y) → left_of least i ≡ start → left_of next (i + 1) ≡ start
    noted start least next i y h at is so_far =
        ap (λ l. left_of l (i + 1)) is
        ∙ sym (at_drop_more (λ zs. least_after before least (filter_map f zs)) ys i y h
        ∙ ap (λ z. least_after before least (filter_map f (z ∷ drop (i + 1) ys))) (sym at)
        ∙ least_after-cons least (f y) (filter_map f (drop (i + 1) ys)))
        ∙ so_far

    pub all_noted : (start least : Option X) (i : ℕ) → length ys ≤ i → left_of least i ≡ start → least ≡ start
    all_noted start least i h so_far =
        sym (at_drop_all (λ zs. least_after before least (filter_map f zs)) ys i h) ∙ so_far
