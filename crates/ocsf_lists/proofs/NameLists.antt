-- Lists in byte order of names: what is found in them, and what they are after a put.
use Rattle.std.proofs.Common.{◌≡◌, ◌≢◌, ℕ, zero, suc, ◌<◌, ◌≤◌, List, [], ◌∷◌, Bool, true, false, cond, ◌&&◌, length, get_or, set, Option, Some, None, Result, Ok, Err, HoldsAt, IfOk, IfErr, ◌⊎◌, inl, inr, ltb, refl, sym, ◌∙◌, ap, subst, arith}
use Rattle.std.specs.declared.cmp.Ordering.{Ordering}
use Rattle.std.specs.declared.cmp.Ordering.TheVariants.{Less, Equal, Greater}
use Rattle.std.specs.Ordering.{is_lt, is_eq, ordering_reverse, ordering_index}
use Rattle.std.proofs.lemmas.Bool.Decides.{nat_tests}
use Rattle.std.specs.Cmp.{IsTotalOrder}
use Rattle.std.specs.Cmp.Lexicographic.{nat_list_cmp_total}
use Rattle.std.specs.FinMap.{slice_cmp-IsAntisymmetric, nat_cmp-IsAntisymmetric}
use Rattle.std.specs.FinMap.Entries.{by_order, below_all}
use Rattle.std.specs.List.{insert}
use Rattle.std.specs.List.Sorted.{IsNonDecreasingBy, IsPartitionPoint, IsBinarySearchResult}
use Rattle.ocsf_lists.proofs.Leasts.{is_less}
use Rattle.ocsf_lists.specs.ByName.{text_cmp, named, at_name, is_by_name, IsByName, put_by_name}

o : IsTotalOrder text_cmp
o = nat_list_cmp_total

pub same_text : (a b : List ℕ) → text_cmp a b ≡ Equal → a ≡ b
same_text a b e = slice_cmp-IsAntisymmetric nat_cmp-IsAntisymmetric a b e

pub text_cmp-same : (a : List ℕ) → text_cmp a a ≡ Equal
text_cmp-same a = level (text_cmp a a) (o.antisymm a a)
  where
    level : (r : Ordering) → r ≡ ordering_reverse r → r ≡ Equal
    level Less e = cc
    level Equal e = refl
    level Greater e = cc

flip_less : (a b : List ℕ) → text_cmp a b ≡ Less → text_cmp b a ≡ Greater
flip_less a b e = o.antisymm b a ∙ ap ordering_reverse e

flip_equal : (a b : List ℕ) → text_cmp a b ≡ Equal → text_cmp b a ≡ Equal
flip_equal a b e = o.antisymm b a ∙ ap ordering_reverse e

flip_greater : (a b : List ℕ) → text_cmp a b ≡ Greater → text_cmp b a ≡ Less
flip_greater a b e = o.antisymm b a ∙ ap ordering_reverse e

first : (a b : Bool) → (a && b) ≡ true → a ≡ true
first true b h = refl
first false b h = h

second : (a b : Bool) → (a && b) ≡ true → b ≡ true
second true b h = h
second false b h = cc

both : (a b : Bool) → a ≡ true → b ≡ true → (a && b) ≡ true
both true b p q = q
both false b p q = p

lt : (a b : List ℕ) → text_cmp a b ≡ Less → is_lt (text_cmp a b) ≡ true
lt a b e = ap is_lt e

compared : (i j : ℕ) → i ≤ j → (i ≡ j) ⊎ (i < j)
compared i j p =
    elim (ltb i j) as (λ t. ltb i j ≡ t → (i ≡ j) ⊎ (i < j)) [
      | true ↦ λ e. let s : i < j = grind (arith, nat_tests) in inr s
      | false ↦ λ e. let s : i ≡ j = grind (arith, nat_tests) in inl s
    ] refl

compared_to : (i k : ℕ) → (k < i) ⊎ (i ≤ k)
compared_to i k =
    elim (ltb k i) as (λ t. ltb k i ≡ t → (k < i) ⊎ (i ≤ k)) [
      | true ↦ λ e. let s : k < i = grind (arith, nat_tests) in inl s
      | false ↦ λ e. let s : i ≤ k = grind (arith, nat_tests) in inr s
    ] refl

apart_from : {A : Type 0} (a : A) (r : Ordering) → r ≢ Equal → (rest : Option A) → cond (is_eq r) (Some a) rest ≡ rest
apart_from a Less n rest = refl
apart_from a Equal n rest = absurd (n refl)
apart_from a Greater n rest = refl

module _ {X : Type 0} (name : X → List ℕ) where
  pub below_at : (k : List ℕ) (xs : List X) (i : ℕ) (d : X) → below_all text_cmp k (named name xs) ≡ true → i < length xs → text_cmp k (name (get_or xs i d)) ≡ Less
  below_at k [] i d h l = absurd (omega arith)
  below_at k (x ∷ xs) zero d h l = is_less (text_cmp k (name x)) (first (is_lt (text_cmp k (name x))) (below_all text_cmp k (named name xs)) h)
  below_at k (x ∷ xs) (suc i) d h l = below_at k xs i d (second (is_lt (text_cmp k (name x))) (below_all text_cmp k (named name xs)) h) (omega arith)

  pub head_below : (x : X) (xs : List X) → IsByName name (x ∷ xs) → below_all text_cmp (name x) (named name xs) ≡ true
  head_below x xs h = first (below_all text_cmp (name x) (named name xs)) (is_by_name name xs) h

  pub tail_by_name : (x : X) (xs : List X) → IsByName name (x ∷ xs) → IsByName name xs
  tail_by_name x xs h = second (below_all text_cmp (name x) (named name xs)) (is_by_name name xs) h

  -- each stands before each later one
  pub in_order : (xs : List X) (i j : ℕ) (d : X) → IsByName name xs → i < j → j < length xs → text_cmp (name (get_or xs i d)) (name (get_or xs j d)) ≡ Less
  in_order [] i j d h p l = absurd (omega arith)
  in_order (x ∷ xs) i zero d h p l = absurd (omega arith)
  in_order (x ∷ xs) zero (suc j) d h p l = below_at (name x) xs j d (head_below x xs h) (omega arith)
  in_order (x ∷ xs) (suc i) (suc j) d h p l = in_order xs i j d (tail_by_name x xs h) (omega arith) (omega arith)

  -- an item is found at its name
  pub at_name-at : (q : List ℕ) (xs : List X) (i : ℕ) (d : X) → IsByName name xs → i < length xs → text_cmp (name (get_or xs i d)) q ≡ Equal → at_name name q xs ≡ Some (get_or xs i d)
  at_name-at q [] i d h l e = absurd (omega arith)
  at_name-at q (x ∷ xs) zero d h l e = ap (λ (r : Ordering). cond (is_eq r) (Some x) (at_name name q xs)) (flip_equal (name x) q e)
  at_name-at q (x ∷ xs) (suc i) d h l e =
      let far : text_cmp q (name x) ≡ Greater = sym (o.congr (name (get_or xs i d)) q (name x) e) ∙ flip_less (name x) (name (get_or xs i d)) (below_at (name x) xs i d (head_below x xs h) (omega arith)) in
      ap (λ (r : Ordering). cond (is_eq r) (Some x) (at_name name q xs)) far ∙ at_name-at q xs i d (tail_by_name x xs h) (omega arith) e

  -- and nothing at a name that no item has
  pub at_name-none : (q : List ℕ) (xs : List X) → ((k : ℕ) (d : X) → k < length xs → text_cmp (name (get_or xs k d)) q ≢ Equal) → at_name name q xs ≡ None
  at_name-none q [] h = refl
  at_name-none q (x ∷ xs) h =
      let rest : at_name name q xs ≡ None = at_name-none q xs (λ k d l. h (suc k) d (omega arith)) in
      elim (text_cmp q (name x)) as (λ r. text_cmp q (name x) ≡ r → cond (is_eq r) (Some x) (at_name name q xs) ≡ None) [
        | Less ↦ λ e. rest
        | Equal ↦ λ e. absurd (h zero x (omega arith) (flip_equal q (name x) e))
        | Greater ↦ λ e. rest
      ] refl

  index_rises : (a b q : List ℕ) → text_cmp a b ≡ Less → ordering_index (text_cmp a q) ≤ ordering_index (text_cmp b q)
  index_rises a b q e =
      elim (text_cmp b q) as (λ r. text_cmp b q ≡ r → ordering_index (text_cmp a q) ≤ ordering_index r) [
        | Less ↦ λ f. rw (o.trans a b q e f) (omega arith)
        | Equal ↦ λ f. let g : text_cmp a q ≡ Less = o.antisymm a q ∙ (ap ordering_reverse (sym (o.congr b q a f)) ∙ (ap ordering_reverse (flip_less a b e))) in rw g (omega arith)
        | Greater ↦ λ f. most (text_cmp a q)
      ] refl
    where
      most : (r : Ordering) → ordering_index r ≤ 2
      most Less = omega arith
      most Equal = omega arith
      most Greater = omega arith

  -- what a binary search asks
  pub searchable : (q : List ℕ) (xs : List X) → IsByName name xs → IsNonDecreasingBy (λ x. ordering_index (text_cmp (name x) q)) xs
  searchable q xs h i j d p l =
      elim (compared i j p) [
        | inl e ↦ rw e (omega arith)
        | inr s ↦ index_rises (name (get_or xs i d)) (name (get_or xs j d)) q (in_order xs i j d h s l)
      ]

  -- what a binary search found
  pub searched : (q : List ℕ) (xs : List X) (r : Result ℕ ℕ) → IsByName name xs → IsBinarySearchResult (λ x. text_cmp (name x) q) xs r → IfOk r (HoldsAt (λ x. text_cmp (name x) q ≡ Equal) xs) × IfErr r (IsPartitionPoint (λ x. text_cmp (name x) q ≡ Less) (λ x. text_cmp (name x) q ≡ Greater) xs)
  searched q xs (Ok at) h p = (p, tt)
  searched q xs (Err at) h p = (tt, p (searchable q xs h))

  -- below the place all are less, and from it on all are greater
  pub never_tied : (q : List ℕ) (xs : List X) (i : ℕ) → IsPartitionPoint (λ x. text_cmp (name x) q ≡ Less) (λ x. text_cmp (name x) q ≡ Greater) xs i → (k : ℕ) (d : X) → k < length xs → text_cmp (name (get_or xs k d)) q ≢ Equal
  never_tied q xs i p k d l e =
      elim (compared_to i k) [
        | inl low ↦ let f = p.0 k d (omega arith) low in cc
        | inr high ↦ let f = p.1 k d high l in cc
      ]

  -- a put at the place between
  pub put_by_name-insert : (x : X) (xs : List X) (i : ℕ) → i ≤ length xs → IsPartitionPoint (λ y. text_cmp (name y) (name x) ≡ Less) (λ y. text_cmp (name y) (name x) ≡ Greater) xs i → put_by_name name x xs ≡ insert xs i x
  put_by_name-insert x [] zero l p = refl
  put_by_name-insert x [] (suc i) l p = absurd (omega arith)
  put_by_name-insert x (y ∷ ys) zero l p =
      ap (λ (r : Ordering). by_order r (x ∷ y ∷ ys) (x ∷ ys) (y ∷ put_by_name name x ys)) (flip_greater (name y) (name x) (p.1 zero y (omega arith) (omega arith)))
  put_by_name-insert x (y ∷ ys) (suc i) l p =
      ap (λ (r : Ordering). by_order r (x ∷ y ∷ ys) (x ∷ ys) (y ∷ put_by_name name x ys)) (flip_less (name y) (name x) (p.0 zero y (omega arith) (omega arith)))
      ∙ ap (λ (zs : List X). y ∷ zs) (put_by_name-insert x ys i (omega arith) (λ k d a b. p.0 (suc k) d (omega arith) (omega arith), λ k d a b. p.1 (suc k) d (omega arith) (omega arith)))

  -- a put at the name of an item
  pub put_by_name-set : (x : X) (xs : List X) (i : ℕ) (d : X) → IsByName name xs → i < length xs → text_cmp (name (get_or xs i d)) (name x) ≡ Equal → put_by_name name x xs ≡ set xs i x
  put_by_name-set x [] i d h l e = absurd (omega arith)
  put_by_name-set x (y ∷ ys) zero d h l e = ap (λ (r : Ordering). by_order r (x ∷ y ∷ ys) (x ∷ ys) (y ∷ put_by_name name x ys)) (flip_equal (name y) (name x) e)
  put_by_name-set x (y ∷ ys) (suc i) d h l e =
      let far : text_cmp (name x) (name y) ≡ Greater = sym (o.congr (name (get_or ys i d)) (name x) (name y) e) ∙ flip_less (name y) (name (get_or ys i d)) (below_at (name y) ys i d (head_below y ys h) (omega arith)) in
      ap (λ (r : Ordering). by_order r (x ∷ y ∷ ys) (x ∷ ys) (y ∷ put_by_name name x ys)) far
      ∙ ap (λ (zs : List X). y ∷ zs) (put_by_name-set x ys i d (tail_by_name y ys h) (omega arith) e)

  below_less : (a b : List ℕ) (xs : List X) → text_cmp a b ≡ Less → below_all text_cmp b (named name xs) ≡ true → below_all text_cmp a (named name xs) ≡ true
  below_less a b [] e h = refl
  below_less a b (x ∷ xs) e h =
      both (is_lt (text_cmp a (name x))) (below_all text_cmp a (named name xs))
      (lt a (name x) (o.trans a b (name x) e (is_less (text_cmp b (name x)) (first (is_lt (text_cmp b (name x))) (below_all text_cmp b (named name xs)) h))))
      (below_less a b xs e (second (is_lt (text_cmp b (name x))) (below_all text_cmp b (named name xs)) h))

  below_put : (a : List ℕ) (x : X) (xs : List X) → text_cmp a (name x) ≡ Less → below_all text_cmp a (named name xs) ≡ true → below_all text_cmp a (named name (put_by_name name x xs)) ≡ true
  below_put a x [] e h = both (is_lt (text_cmp a (name x))) true (lt a (name x) e) refl
  below_put a x (y ∷ ys) e h =
      let head = first (is_lt (text_cmp a (name y))) (below_all text_cmp a (named name ys)) h in
      let rest = second (is_lt (text_cmp a (name y))) (below_all text_cmp a (named name ys)) h in
      elim (text_cmp (name x) (name y)) as (λ r. below_all text_cmp a (named name (by_order r (x ∷ y ∷ ys) (x ∷ ys) (y ∷ put_by_name name x ys))) ≡ true) [
        | Less ↦ both (is_lt (text_cmp a (name x))) (below_all text_cmp a (named name (y ∷ ys))) (lt a (name x) e) h
        | Equal ↦ both (is_lt (text_cmp a (name x))) (below_all text_cmp a (named name ys)) (lt a (name x) e) rest
        | Greater ↦ both (is_lt (text_cmp a (name y))) (below_all text_cmp a (named name (put_by_name name x ys))) head (below_put a x ys e rest)
      ]

  -- a put keeps the order
  pub IsByName-put : (x : X) (xs : List X) → IsByName name xs → IsByName name (put_by_name name x xs)
  IsByName-put x [] h = refl
  IsByName-put x (y ∷ ys) h =
      let head = head_below y ys h in
      let rest = tail_by_name y ys h in
      elim (text_cmp (name x) (name y)) as (λ r. text_cmp (name x) (name y) ≡ r → IsByName name (by_order r (x ∷ y ∷ ys) (x ∷ ys) (y ∷ put_by_name name x ys))) [
        | Less ↦ λ e. both (below_all text_cmp (name x) (named name (y ∷ ys))) (is_by_name name (y ∷ ys)) (both (is_lt (text_cmp (name x) (name y))) (below_all text_cmp (name x) (named name ys)) (lt (name x) (name y) e) (below_less (name x) (name y) ys e head)) h
        | Equal ↦ λ e. both (below_all text_cmp (name x) (named name ys)) (is_by_name name ys) (subst (λ (k : List ℕ). below_all text_cmp k (named name ys) ≡ true) (sym (same_text (name x) (name y) e)) head) rest
        | Greater ↦ λ e. both (below_all text_cmp (name y) (named name (put_by_name name x ys))) (is_by_name name (put_by_name name x ys)) (below_put (name y) x ys (flip_greater (name x) (name y) e) head) (IsByName-put x ys rest)
      ] refl

  -- what a put leaves at its own name
  pub at_name-put_same : (q : List ℕ) (x : X) (xs : List X) → text_cmp q (name x) ≡ Equal → at_name name q (put_by_name name x xs) ≡ Some x
  at_name-put_same q x [] e = ap (λ (r : Ordering). cond (is_eq r) (Some x) None) e
  at_name-put_same q x (y ∷ ys) e =
      elim (text_cmp (name x) (name y)) as (λ r. text_cmp (name x) (name y) ≡ r → at_name name q (by_order r (x ∷ y ∷ ys) (x ∷ ys) (y ∷ put_by_name name x ys)) ≡ Some x) [
        | Less ↦ λ f. ap (λ (r : Ordering). cond (is_eq r) (Some x) (at_name name q (y ∷ ys))) e
        | Equal ↦ λ f. ap (λ (r : Ordering). cond (is_eq r) (Some x) (at_name name q ys)) e
        | Greater ↦ λ f. ap (λ (r : Ordering). cond (is_eq r) (Some y) (at_name name q (put_by_name name x ys))) (o.congr q (name x) (name y) e ∙ f) ∙ at_name-put_same q x ys e
      ] refl

  -- and at every other name
  pub at_name-put_other : (q : List ℕ) (x : X) (xs : List X) → text_cmp q (name x) ≢ Equal → at_name name q (put_by_name name x xs) ≡ at_name name q xs
  at_name-put_other q x [] n = apart_from x (text_cmp q (name x)) n None
  at_name-put_other q x (y ∷ ys) n =
      elim (text_cmp (name x) (name y)) as (λ r. text_cmp (name x) (name y) ≡ r → at_name name q (by_order r (x ∷ y ∷ ys) (x ∷ ys) (y ∷ put_by_name name x ys)) ≡ at_name name q (y ∷ ys)) [
        | Less ↦ λ f. apart_from x (text_cmp q (name x)) n (at_name name q (y ∷ ys))
        | Equal ↦ λ f.
            let m : text_cmp q (name y) ≢ Equal = λ e. n (subst (λ (k : List ℕ). text_cmp q k ≡ Equal) (sym (same_text (name x) (name y) f)) e) in
            apart_from x (text_cmp q (name x)) n (at_name name q ys) ∙ sym (apart_from y (text_cmp q (name y)) m (at_name name q ys))
        | Greater ↦ λ f. ap (λ (found : Option X). cond (is_eq (text_cmp q (name y))) (Some y) found) (at_name-put_other q x ys n)
      ] refl
