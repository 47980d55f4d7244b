-- What is found in a list, in one that is made item by item, and in what a test keeps.
use Rattle.std.proofs.Common.{◌≡◌, ℕ, List, [], ◌∷◌, map, Bool, true, false, cond, Some, None, true≢false}
use Rattle.std.proofs.Common.{◌⊎◌, inl, inr, refl, sym, ◌∙◌, ap, subst, arith}
use Rattle.std.specs.Prelude.{Contains, AllPairs, filter, find, length, ◌==◌}
use Rattle.std.specs.Ordering.{is_eq}
use Rattle.std.specs.declared.cmp.Ordering.{Ordering}
use Rattle.std.specs.declared.cmp.Ordering.TheVariants.{Less, Equal}
use Rattle.std.proofs.lemmas.Option.{none-some, same_Some}
use Rattle.std.proofs.lemmas.Bool.Decides.{Decides-eqb}
use Rattle.std.proofs.lemmas.List.Kept.{AllPairs-filter}
use Rattle.ocsf_lists.specs.ByName.{text_cmp, at_name, IsByName}
use Rattle.ocsf_lists.proofs.NameLists.{text_cmp-same, at_name-at, in_order}
use Rattle.ocsf_event_rules.proofs.Listed.{contains_none, here, later, first_or_later}

-- ---- by name

module _ {X : Type 0} (name : X → List ℕ) where
  -- what is found stands in the list
  pub found_there : (q : List ℕ) (xs : List X) (x : X) → at_name name q xs ≡ Some x → Contains xs x
  found_there q [] x e = absurd (none-some x e)
  found_there q (y ∷ ys) x e = by_test (is_eq (text_cmp q (name y))) (λ f. found_there q ys x f) e
    where
      by_test : (b : Bool) → (at_name name q ys ≡ Some x → Contains ys x)
          → cond b (Some y) (at_name name q ys) ≡ Some x → Contains (y ∷ ys) x
      by_test true more e = subst (Contains (y ∷ ys)) (same_Some y x e) (here y ys)
      by_test false more e = later y ys x (more e)

  -- and in a list by name what stands there is found
  pub there_found : (xs : List X) (x : X) → IsByName name xs → Contains xs x → at_name name (name x) xs ≡ Some x
  there_found xs x ordered c =
      at_name-at name (name x) xs c.0 x ordered c.1
      (ap (λ y. text_cmp (name y) (name x)) c.2 ∙ text_cmp-same (name x))
      ∙ ap Some c.2

  -- where none is found there is none
  pub nothing_named : (xs : List X) → ((q : List ℕ) → at_name name q xs ≡ None) → xs ≡ []
  nothing_named [] none = refl
  nothing_named (x ∷ xs) none =
      absurd (none-some x
      (sym (none (name x))
      ∙ ap (λ (r : Ordering). cond (is_eq r) (Some x) (at_name name (name x) xs)) (text_cmp-same (name x))))

-- ---- item by item

module _ {X Y : Type 0} (f : X → Y) where
  pub mapped_back : (xs : List X) (y : Y) → Contains (map f xs) y → (x : X) × Contains xs x × (f x ≡ y)
  mapped_back [] y c = absurd (contains_none y c)
  mapped_back (x ∷ xs) y c = by_place (λ d. mapped_back xs y d) (first_or_later (f x) (map f xs) y c)
    where
      by_place : (Contains (map f xs) y → (z : X) × Contains xs z × (f z ≡ y))
          → (f x ≡ y) ⊎ Contains (map f xs) y → (z : X) × Contains (x ∷ xs) z × (f z ≡ y)
      by_place more (inl e) = (x, here x xs, e)
      by_place more (inr d) = let found = more d in (found.0, later x xs found.0 found.1, found.2)

  pub mapped_there : (xs : List X) (x : X) → Contains xs x → Contains (map f xs) (f x)
  mapped_there [] x c = absurd (contains_none x c)
  mapped_there (y ∷ ys) x c = by_place (λ d. mapped_there ys x d) (first_or_later y ys x c)
    where
      by_place : (Contains ys x → Contains (map f ys) (f x)) → (y ≡ x) ⊎ Contains ys x
          → Contains (f y ∷ map f ys) (f x)
      by_place more (inl e) = subst (λ z. Contains (f y ∷ map f ys) (f z)) e (here (f y) (map f ys))
      by_place more (inr d) = later (f y) (map f ys) (f x) (more d)

-- ---- the first that passes a test

module _ {X : Type 0} (p : X → Bool) where
  pub first_passes : (xs : List X) (x : X) → find p xs ≡ Some x → Contains xs x × (p x ≡ true)
  first_passes [] x e = absurd (none-some x e)
  first_passes (y ∷ ys) x e = by_test (p y) refl (λ f. first_passes ys x f) e
    where
      by_test : (b : Bool) → p y ≡ b → (find p ys ≡ Some x → Contains ys x × (p x ≡ true))
          → cond b (Some y) (find p ys) ≡ Some x → Contains (y ∷ ys) x × (p x ≡ true)
      by_test true is more e =
          let same = same_Some y x e in (
            subst (Contains (y ∷ ys)) same (here y ys),
            subst (λ z. p z ≡ true) same is,
          )
      by_test false is more e = let found = more e in (later y ys x found.0, found.1)

  -- ---- what a test keeps

  pub kept_back : (xs : List X) (x : X) → Contains (filter p xs) x → Contains xs x × (p x ≡ true)
  kept_back [] x c = absurd (contains_none x c)
  kept_back (y ∷ ys) x c = by_test (p y) refl (λ d. kept_back ys x d) c
    where
      further : (Contains (filter p ys) x → Contains ys x × (p x ≡ true)) → Contains (filter p ys) x
          → Contains (y ∷ ys) x × (p x ≡ true)
      further more d = let found = more d in (later y ys x found.0, found.1)

      by_test : (b : Bool) → p y ≡ b → (Contains (filter p ys) x → Contains ys x × (p x ≡ true))
          → Contains (cond b (y ∷ filter p ys) (filter p ys)) x → Contains (y ∷ ys) x × (p x ≡ true)
      by_test true is more c = elim (first_or_later y (filter p ys) x c) [
        | inl e ↦ (subst (Contains (y ∷ ys)) e (here y ys), subst (λ z. p z ≡ true) e is)
        | inr d ↦ further more d
      ]
      by_test false is more c = further more c

  pub kept_there : (xs : List X) (x : X) → Contains xs x → p x ≡ true → Contains (filter p xs) x
  kept_there [] x c is = absurd (contains_none x c)
  kept_there (y ∷ ys) x c is = by_test (p y) refl (λ d. kept_there ys x d is) (first_or_later y ys x c)
    where
      by_test : (b : Bool) → p y ≡ b → (Contains ys x → Contains (filter p ys) x) → (y ≡ x) ⊎ Contains ys x
          → Contains (cond b (y ∷ filter p ys) (filter p ys)) x
      by_test true at more (inl e) = subst (Contains (y ∷ filter p ys)) e (here y (filter p ys))
      by_test true at more (inr d) = later y (filter p ys) x (more d)
      by_test false at more (inl e) = absurd (true≢false (sym is ∙ sym (ap p e) ∙ at))
      by_test false at more (inr d) = more d

  -- ---- how many it keeps

  pub one_kept : (xs : List X) → (length (filter p xs) == 0) ≡ false → (x : X) × Contains xs x × (p x ≡ true)
  one_kept xs some = by_list (filter p xs) some (λ x c. kept_back xs x c)
    where
      by_list : (kept : List X) → (length kept == 0) ≡ false
          → ((x : X) → Contains kept x → Contains xs x × (p x ≡ true)) → (x : X) × Contains xs x × (p x ≡ true)
      by_list [] some back = absurd (true≢false some)
      by_list (x ∷ kept) some back = let found = back x (here x kept) in (x, found.0, found.1)

  pub kept_some : (xs : List X) (x : X) → Contains xs x → p x ≡ true → (length (filter p xs) == 0) ≡ false
  kept_some xs x c is = by_list (filter p xs) (kept_there xs x c is) (length (filter p xs) == 0) refl
    where
      by_list : (kept : List X) → Contains kept x → (b : Bool) → (length kept == 0) ≡ b → (length kept == 0) ≡ false
      by_list kept c false is = is
      by_list [] c true is = absurd (contains_none x c)
      by_list (y ∷ kept) c true is = let none = (Decides-eqb (length (y ∷ kept)) 0).0 is in absurd (omega (arith, none))

  pub just_kept : (xs : List X) → (length (filter p xs) == 1) ≡ true
      → (x : X) × Contains xs x × (p x ≡ true) × ((other : X) → Contains xs other → p other ≡ true → x ≡ other)
  just_kept xs one =
      by_list (filter p xs) ((Decides-eqb (length (filter p xs)) 1).0 one) (λ x c. kept_back xs x c)
      (λ x c is. kept_there xs x c is)
    where
      by_list : (kept : List X) → length kept ≡ 1 → ((x : X) → Contains kept x → Contains xs x × (p x ≡ true))
          → ((x : X) → Contains xs x → p x ≡ true → Contains kept x)
          → (x : X) × Contains xs x × (p x ≡ true) × ((other : X) → Contains xs other → p other ≡ true → x ≡ other)
      by_list [] one back there = absurd (omega (arith, one))
      by_list (x ∷ y ∷ kept) one back there = absurd (omega (arith, one))
      by_list (x ∷ []) one back there =
          let found = back x (here x []) in (
            x,
            found.0,
            found.1,
            λ other c is. elim (first_or_later x [] other (there other c is)) [
              | inl e ↦ e
              | inr d ↦ absurd (contains_none other d)
            ],
          )

  pub kept_one : (name : X → List ℕ) (xs : List X) (x : X) → AllPairs (λ y z. text_cmp (name y) (name z) ≡ Less) xs
      → Contains xs x → p x ≡ true
      → ((other : X) → Contains xs other → p other ≡ true → name other ≡ name x) → (length (filter p xs) == 1) ≡ true
  kept_one name xs x apart c is only =
      by_list (filter p xs) (AllPairs-filter (λ y z. text_cmp (name y) (name z) ≡ Less) p xs apart)
      (kept_there xs x c is) (λ y d. kept_back xs y d)
    where
      same : (y z : X) → name y ≡ name x → name z ≡ name x → text_cmp (name y) (name z) ≡ Less → ⊥
      same y z e f less = equal_less (sym (ap (λ n. text_cmp n (name z)) (e ∙ sym f) ∙ text_cmp-same (name z)) ∙ less)
        where
          equal_less : Equal ≡ Less → ⊥
          equal_less e = cc

      by_list : (kept : List X) → AllPairs (λ y z. text_cmp (name y) (name z) ≡ Less) kept → Contains kept x
          → ((y : X) → Contains kept y → Contains xs y × (p y ≡ true)) → (length kept == 1) ≡ true
      by_list [] pairs there back = absurd (contains_none x there)
      by_list (y ∷ []) pairs there back = refl
      by_list (y ∷ z ∷ kept) pairs there back =
          let first = back y (here y (z ∷ kept)) in
          let second = back z (later y (z ∷ kept) z (here z kept)) in
          absurd (same y z (only y first.0 first.1) (only z second.0 second.1)
          (pairs 0 1 y (omega arith) (omega arith)))

pub apart_by_name : {X : Type 0} (name : X → List ℕ) (xs : List X) → IsByName name xs
    → AllPairs (λ y z. text_cmp (name y) (name z) ≡ Less) xs
apart_by_name name xs ordered = λ i j d before within. in_order name xs i j d ordered before within
