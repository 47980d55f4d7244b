-- Lists in ascending order of a number, in which those of one number keep their order.
use Rattle.std.proofs.Common.{◌≡◌, ◌≢◌, ℕ, ◌<◌, ◌≤◌, ◌==◌, suc, List, [], ◌∷◌, length, get_or, Bool, true, false, cond, filter, refl, sym, ◌∙◌, ap, arith, ⊎_elim}
use Rattle.std.specs.Prelude.{⊤, nat_lt, nat_le}
use Rattle.std.specs.Ordering.{nat_cmp, is_lt}
use Rattle.std.specs.List.Sorted.{ties, IsNonDecreasingBy}
use Rattle.std.proofs.lemmas.Bool.{cases_order, cases_eq, cases_lt, eq-eqb, ne_eqb, le-leb, lt-leb}
use Rattle.ocsf_bundle.specs.Active.{into_order, in_order}

module _ {X : Type 0} (n : X → ℕ) where
  -- each has at least that number
  abbrev pub AtLeast : ℕ → List X → Type 0
  AtLeast m [] = ⊤
  AtLeast m (x ∷ xs) = (m ≤ n x) × AtLeast m xs

  abbrev pub Ascends : List X → Type 0
  Ascends [] = ⊤
  Ascends (x ∷ xs) = AtLeast (n x) xs × Ascends xs

  -- those of the same number
  abbrev pub like : X → List X → List X
  like v xs = filter (λ x. n v == n x) xs

  at_least_less : (m k : ℕ) (xs : List X) → m ≤ k → AtLeast k xs → AtLeast m xs
  at_least_less m k [] h a = tt
  at_least_less m k (x ∷ xs) h a = (omega (arith, a.0), at_least_less m k xs h a.1)

  like-self : (x : X) (xs : List X) → like x (x ∷ xs) ≡ x ∷ like x xs
  like-self x xs = let t : (n x == n x) ≡ true = eq-eqb (n x) (n x) refl in rw t refl

  like-same : (v x : X) (xs : List X) → n v ≡ n x → like v (x ∷ xs) ≡ x ∷ like v xs
  like-same v x xs e = let t : (n v == n x) ≡ true = eq-eqb (n v) (n x) e in rw t refl

  like-other : (v x : X) (xs : List X) → n v ≢ n x → like v (x ∷ xs) ≡ like v xs
  like-other v x xs ne = let t : (n v == n x) ≡ false = ne_eqb (n v) (n x) ne in rw t refl

  none_like : (v : X) (k : ℕ) (xs : List X) → AtLeast k xs → n v < k → like v xs ≡ []
  none_like v k [] a h = refl
  none_like v k (x ∷ xs) a h = like-other v x xs (λ e. omega (arith, e, a.0)) ∙ none_like v k xs a.1 h

  like-tail : (y : X) (ys zs : List X) → ((v : X) → like v (y ∷ ys) ≡ like v (y ∷ zs)) → (v : X) → like v ys ≡ like v zs
  like-tail y ys zs same v =
      ⊎_elim
      (λ (e : n v ≡ n y). let f = like-same v y ys e in let g = like-same v y zs e in let h = same v in cc)
      (λ (ne : n v ≢ n y). sym (like-other v y ys ne) ∙ same v ∙ like-other v y zs ne)
      (cases_eq (n v) (n y))

  -- two ascending lists that have the same of each number are equal
  pub same_order : (ys zs : List X) → Ascends ys → Ascends zs → ((v : X) → like v ys ≡ like v zs) → ys ≡ zs
  same_order [] [] a b same = refl
  same_order [] (z ∷ zs) a b same = let e = same z in let f = like-self z zs in cc
  same_order (y ∷ ys) [] a b same = let e = same y in let f = like-self y ys in cc
  same_order (y ∷ ys) (z ∷ zs) a b same =
      ⊎_elim
      (λ (e : n y ≡ n z).
      let f = like-self y ys in
      let g = like-same y z zs e in
      let h = same y in
      let one : y ≡ z = cc in
      let again : (v : X) → like v (y ∷ ys) ≡ like v (y ∷ zs) = λ v. same v ∙ ap (λ x. like v (x ∷ zs)) (sym one) in
      let rest = same_order ys zs a.1 b.1 (like-tail y ys zs again) in
      cc)
      (⊎_elim
      (λ (h : n y < n z).
      let f = like-self y ys in
      let g = none_like y (n z) (z ∷ zs) (omega arith, b.0) h in
      let e = same y in
      cc)
      (λ (h : n z < n y).
      let f = like-self z zs in
      let g = none_like z (n y) (y ∷ ys) (omega arith, a.0) h in
      let e = same z in
      cc))
      (cases_order (n y) (n z))

  into-at_least : (m : ℕ) (x : X) (xs : List X) → m ≤ n x → AtLeast m xs → AtLeast m (into_order n x xs)
  into-at_least m x [] h a = (h, tt)
  into-at_least m x (y ∷ ys) h a =
      elim (nat_le (n x) (n y)) as (λ b. AtLeast m (cond b (x ∷ y ∷ ys) (y ∷ into_order n x ys))) [
        | true ↦ (h, a)
        | false ↦ (a.0, into-at_least m x ys h a.1)
      ]

  into-ascends : (x : X) (xs : List X) → Ascends xs → Ascends (into_order n x xs)
  into-ascends x [] a = (tt, tt)
  into-ascends x (y ∷ ys) a =
      ⊎_elim
      (λ (h : n y < n x).
      let t : nat_le (n x) (n y) ≡ false = lt-leb (n x) (n y) h in
      rw t (into-at_least (n y) x ys (omega arith) a.0, into-ascends x ys a.1))
      (λ (h : n x ≤ n y).
      let t : nat_le (n x) (n y) ≡ true = le-leb (n x) (n y) h in
      rw t ((h, at_least_less (n x) (n y) ys h a.0), a))
      (cases_lt (n y) (n x))

  like-swap : (v x y : X) (rest : List X) → n y < n x → like v (y ∷ x ∷ rest) ≡ like v (x ∷ y ∷ rest)
  like-swap v x y rest h =
      ⊎_elim
      (λ (e : n v ≡ n x).
      let ne : n v ≢ n y = λ f. omega (arith, e, f) in
      like-other v y (x ∷ rest) ne ∙ like-same v x rest e ∙ sym (like-same v x (y ∷ rest) e ∙ ap (λ l. x ∷ l) (like-other v y rest ne)))
      (λ (ne : n v ≢ n x). ap-front v y (x ∷ rest) rest (like-other v x rest ne) ∙ sym (like-other v x (y ∷ rest) ne))
      (cases_eq (n v) (n x))
    where
      ap-front : (v y : X) (a b : List X) → like v a ≡ like v b → like v (y ∷ a) ≡ like v (y ∷ b)
      ap-front v y a b e = ap (λ l. cond (n v == n y) (y ∷ l) l) e

  like-into : (v x : X) (xs : List X) → like v (into_order n x xs) ≡ like v (x ∷ xs)
  like-into v x [] = refl
  like-into v x (y ∷ ys) =
      ⊎_elim
      (λ (h : n y < n x).
      let t : nat_le (n x) (n y) ≡ false = lt-leb (n x) (n y) h in
      rw t (ap (λ l. cond (n v == n y) (y ∷ l) l) (like-into v x ys) ∙ like-swap v x y ys h))
      (λ (h : n x ≤ n y).
      let t : nat_le (n x) (n y) ≡ true = le-leb (n x) (n y) h in
      rw t refl)
      (cases_lt (n y) (n x))

  in_order-ascends : (xs : List X) → Ascends (in_order n xs)
  in_order-ascends [] = tt
  in_order-ascends (x ∷ xs) = into-ascends x (in_order n xs) (in_order-ascends xs)

  like-in_order : (v : X) (xs : List X) → like v (in_order n xs) ≡ like v xs
  like-in_order v [] = refl
  like-in_order v (x ∷ xs) =
      like-into v x (in_order n xs) ∙ ap (λ l. cond (n v == n x) (x ∷ l) l) (like-in_order v xs)

  at_least-from : (m : ℕ) (xs : List X) → ((j : ℕ) (d : X) → j < length xs → m ≤ n (get_or xs j d)) → AtLeast m xs
  at_least-from m [] all = tt
  at_least-from m (x ∷ xs) all = (all 0 x (omega arith), at_least-from m xs (λ j d h. all (suc j) d (omega arith)))

  ascends-from : (xs : List X) → IsNonDecreasingBy n xs → Ascends xs
  ascends-from [] up = tt
  ascends-from (x ∷ xs) up =
      (at_least-from (n x) xs (λ j d h. up 0 (suc j) d (omega arith) (omega arith)), ascends-from xs (λ i j d le h. up (suc i) (suc j) d (omega arith) (omega arith)))

  abbrev tie : X → X → Bool
  tie = ties (λ x y. is_lt (nat_cmp (n x) (n y)))

  tie-like : (v x : X) → tie v x ≡ (n v == n x)
  tie-like v x =
      ⊎_elim
      (λ (e : n v ≡ n x).
      let a : nat_lt (n v) (n x) ≡ false = grind (arith, e) in
      let b : nat_lt (n x) (n v) ≡ false = grind (arith, e) in
      let c : (n v == n x) ≡ true = eq-eqb (n v) (n x) e in
      let d : (n x == n v) ≡ true = eq-eqb (n x) (n v) (sym e) in
      rw (a, b, c, d) refl)
      (⊎_elim
      (λ (h : n v < n x).
      let a : nat_lt (n v) (n x) ≡ true = grind (arith, h) in
      let c : (n v == n x) ≡ false = ne_eqb (n v) (n x) (λ e. omega (arith, e)) in
      rw (a, c) refl)
      (λ (h : n x < n v).
      let b : nat_lt (n x) (n v) ≡ true = grind (arith, h) in
      let a : nat_lt (n v) (n x) ≡ false = grind (arith, h) in
      let c : (n v == n x) ≡ false = ne_eqb (n v) (n x) (λ e. omega (arith, e)) in
      rw (a, b, c) refl))
      (cases_order (n v) (n x))

  filter-tie : (v : X) (xs : List X) → filter (tie v) xs ≡ like v xs
  filter-tie v [] = refl
  filter-tie v (x ∷ xs) =
      ap (λ b. cond b (x ∷ filter (tie v) xs) (filter (tie v) xs)) (tie-like v x)
      ∙ ap (λ l. cond (n v == n x) (x ∷ l) l) (filter-tie v xs)

  -- a stable sort by the number is that order
  pub sorted-in_order : (xs ys : List X) → IsNonDecreasingBy n ys → ((v : X) → filter (tie v) ys ≡ filter (tie v) xs) → ys ≡ in_order n xs
  sorted-in_order xs ys up stable =
      same_order ys (in_order n xs) (ascends-from ys up) (in_order-ascends xs)
      (λ v. sym (filter-tie v ys) ∙ stable v ∙ filter-tie v xs ∙ sym (like-in_order v xs))
