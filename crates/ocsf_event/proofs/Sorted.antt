-- Items put in order stand strictly in order, and are just these.
use Rattle.std.proofs.Common.{◌≡◌, zero, suc, List, [], ◌∷◌, ◌⊎◌, inl, inr, refl, sym, ◌∙◌, ap, subst, arith}
use Rattle.std.specs.Prelude.{AllPairs, Contains}
use Rattle.std.specs.List.{AllByRecursion}
use Rattle.std.specs.declared.cmp.Ordering.{Ordering}
use Rattle.std.specs.declared.cmp.Ordering.TheVariants.{Less, Equal, Greater}
use Rattle.std.specs.Ordering.{ordering_reverse}
use Rattle.std.specs.Cmp.{IsTotalOrder}
use Rattle.std.specs.FinMap.Entries.{by_order}
use Rattle.std.proofs.lemmas.List.Elements.{Contains-append_right, Contains-append_cases, All-from_recursion}
use Rattle.ocsf_event.specs.InOrder.{put_in_order, in_order}

module _ {X : Type 0} where
  head_or_rest : (v w : X) (vs : List X) → Contains (v ∷ vs) w → (v ≡ w) ⊎ Contains vs w
  head_or_rest v w vs c = elim (Contains-append_cases (v ∷ []) vs w c) [ inl one ↦ inl (alone one) | inr rest ↦ inr rest ]
    where
      alone : Contains (v ∷ []) w → v ≡ w
      alone (zero, lt, e) = e
      alone (suc k, lt, e) = absurd (omega (arith, lt))

  in_rest : (v w : X) (vs : List X) → Contains vs w → Contains (v ∷ vs) w
  in_rest v w vs c = Contains-append_right (v ∷ []) vs w c

  here : (v : X) (vs : List X) → Contains (v ∷ vs) v
  here v vs = (0, omega arith, refl)

  same_here : (v w : X) (vs : List X) → v ≡ w → Contains (v ∷ vs) w
  same_here v w vs e = subst (λ u. Contains (v ∷ vs) u) e (here v vs)

  none_in : (w : X) → Contains [] w → ⊥
  none_in w c = let lt = c.1 in absurd (omega (arith, lt))

module _ {X : Type 0} (cmp : X → X → Ordering) (total : IsTotalOrder cmp) (same : (x y : X) → cmp x y ≡ Equal → x ≡ y) where
  abbrev Below : X → List X → Type 0
  Below x ys = AllByRecursion (λ y. cmp x y ≡ Less) ys

  abbrev Rising : List X → Type 0
  Rising [] = Unit
  Rising (x ∷ xs) = Below x xs × Rising xs

  all_below : (a x : X) (ys : List X) → cmp a x ≡ Less → Below x ys → Below a ys
  all_below a x [] e b = tt
  all_below a x (y ∷ ys) e b = (total.trans a x y e b.0, all_below a x ys e b.1)

  put_below : (a x : X) (ys : List X) → cmp a x ≡ Less → Below a ys → Below a (put_in_order cmp x ys)
  put_below a x [] e b = (e, tt)
  put_below a x (y ∷ ys) e b = elim (cmp x y) as (λ r. Below a (by_order r (x ∷ y ∷ ys) (y ∷ ys) (y ∷ put_in_order cmp x ys))) [
    | Less ↦ (e, b)
    | Equal ↦ b
    | Greater ↦ (b.0, put_below a x ys e b.1)
  ]

  put_rising : (x : X) (ys : List X) → Rising ys → Rising (put_in_order cmp x ys)
  put_rising x [] r = (tt, tt)
  put_rising x (y ∷ ys) r = elim (cmp x y) as (λ o. cmp x y ≡ o → Rising (by_order o (x ∷ y ∷ ys) (y ∷ ys) (y ∷ put_in_order cmp x ys))) [
    | Less ↦ λ e. ((e, all_below x y ys e r.0), r)
    | Equal ↦ λ e. r
    | Greater ↦ λ e. (put_below y x ys (total.antisymm y x ∙ ap ordering_reverse e) r.0, put_rising x ys r.1)
  ] refl

  rising : (xs : List X) → Rising (in_order cmp xs)
  rising [] = tt
  rising (x ∷ xs) = put_rising x (in_order cmp xs) (rising xs)

  pairs : (xs : List X) → Rising xs → AllPairs (λ x y. cmp x y ≡ Less) xs
  pairs [] r = λ i j d h l. absurd (omega (arith, l))
  pairs (x ∷ xs) r = both (pairs xs r.1)
    where
      both : AllPairs (λ x y. cmp x y ≡ Less) xs → AllPairs (λ x y. cmp x y ≡ Less) (x ∷ xs)
      both more i zero d h l = absurd (omega (arith, h))
      both more zero (suc j) d h l = All-from_recursion (λ y. cmp x y ≡ Less) xs r.0 j d (omega (arith, l))
      both more (suc i) (suc j) d h l = more i j d (omega (arith, h)) (omega (arith, l))

  -- strictly in order
  pub in_order_rises : (xs : List X) → AllPairs (λ x y. cmp x y ≡ Less) (in_order cmp xs)
  in_order_rises xs = pairs (in_order cmp xs) (rising xs)

  put_there : (x z : X) (ys : List X) → Contains (put_in_order cmp x ys) z → (x ≡ z) ⊎ Contains ys z
  put_there x z [] c = head_or_rest x z [] c
  put_there x z (y ∷ ys) c = (elim (cmp x y) as (λ r. Contains (by_order r (x ∷ y ∷ ys) (y ∷ ys) (y ∷ put_in_order cmp x ys)) z → (x ≡ z) ⊎ Contains (y ∷ ys) z) [
    | Less ↦ λ c. head_or_rest x z (y ∷ ys) c
    | Equal ↦ λ c. inr c
    | Greater ↦ λ c. elim (head_or_rest y z (put_in_order cmp x ys) c) [
      | inl e ↦ inr (same_here y z ys e)
      | inr rest ↦ elim (put_there x z ys rest) [ inl e ↦ inl e | inr more ↦ inr (in_rest y z ys more) ]
    ]
  ]) c

  put_back : (x z : X) (ys : List X) → (x ≡ z) ⊎ Contains ys z → Contains (put_in_order cmp x ys) z
  put_back x z [] (inl e) = same_here x z [] e
  put_back x z [] (inr c) = absurd (none_in z c)
  put_back x z (y ∷ ys) w = elim (cmp x y) as (λ r. cmp x y ≡ r → Contains (by_order r (x ∷ y ∷ ys) (y ∷ ys) (y ∷ put_in_order cmp x ys)) z) [
    | Less ↦ λ e. elim w [ inl is ↦ same_here x z (y ∷ ys) is | inr c ↦ in_rest x z (y ∷ ys) c ]
    | Equal ↦ λ e. elim w [ inl is ↦ same_here y z ys (sym (same x y e) ∙ is) | inr c ↦ c ]
    | Greater ↦ λ e. elim w [
      | inl is ↦ in_rest y z (put_in_order cmp x ys) (put_back x z ys (inl is))
      | inr c ↦ elim (head_or_rest y z ys c) [ inl is ↦ same_here y z (put_in_order cmp x ys) is | inr rest ↦ in_rest y z (put_in_order cmp x ys) (put_back x z ys (inr rest)) ]
    ]
  ] refl

  -- and just these
  pub in_order_there : (xs : List X) (z : X) → Contains (in_order cmp xs) z → Contains xs z
  in_order_there [] z c = c
  in_order_there (x ∷ xs) z c = elim (put_there x z (in_order cmp xs) c) [ inl e ↦ same_here x z xs e | inr rest ↦ in_rest x z xs (in_order_there xs z rest) ]

  pub in_order_back : (xs : List X) (z : X) → Contains xs z → Contains (in_order cmp xs) z
  in_order_back [] z c = c
  in_order_back (x ∷ xs) z c = put_back x z (in_order cmp xs) (
      elim (head_or_rest x z xs c) [ inl e ↦ inl e | inr rest ↦ inr (in_order_back xs z rest) ])
