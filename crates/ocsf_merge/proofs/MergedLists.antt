-- Two lists by name, joined: the outcome stands by name, and what it has at each name.
use Rattle.std.proofs.Common.{◌≡◌, ℕ, List, [], ◌∷◌, ◌++◌, Bool, true, cond, ◌&&◌, Option, Some, None, unwrap_or, refl, sym, ◌∙◌, ap, ap₂, subst}
use Rattle.std.specs.Option.{option_or}
use Rattle.std.specs.declared.cmp.Ordering.{Ordering}
use Rattle.std.specs.declared.cmp.Ordering.TheVariants.{Less, Equal, Greater}
use Rattle.std.specs.List.{cons_option}
use Rattle.std.specs.Ordering.{is_lt, is_eq, ordering_reverse}
use Rattle.std.specs.Cmp.Lexicographic.{nat_list_cmp_total}
use Rattle.std.specs.FinMap.Entries.{by_order, below_all}
use Rattle.std.proofs.lemmas.Bool.{and_parts}
use Rattle.ocsf_lists.specs.ByName.{text_cmp, named, at_name, is_by_name, IsByName}
use Rattle.ocsf_lists.specs.FirstOfEach.{first_of_each}
use Rattle.ocsf_lists.proofs.NameLists.{same_text, head_below, tail_by_name}
use Rattle.ocsf_lists.proofs.FirstOfEach.{same_lists, at_name-append, IsByName-first_of_each, at_name-first_of_each}
use Rattle.ocsf_merge.specs.Merged.{with_entry, merged, newer}

both : (a b : Bool) → a ≡ true → b ≡ true → (a && b) ≡ true
both a b p q = ap₂ (λ x y. x && y) p q

less_so : (r : Ordering) → is_lt r ≡ true → r ≡ Less
less_so Less h = refl
less_so Equal h = cc
less_so Greater h = cc

module _ {X : Type 0} (name : X → List ℕ) where
  -- the name stands before each of them
  abbrev pub IsBelow : List ℕ → List X → Type 0
  IsBelow k xs = below_all text_cmp k (named name xs) ≡ true

  IsBelow-cons : (k : List ℕ) (x : X) (xs : List X) → text_cmp k (name x) ≡ Less → IsBelow k xs → IsBelow k (x ∷ xs)
  IsBelow-cons k x xs e h = both (is_lt (text_cmp k (name x))) (below_all text_cmp k (named name xs)) (ap is_lt e) h

  first_above : (k : List ℕ) (x : X) (xs : List X) → IsBelow k (x ∷ xs) → text_cmp k (name x) ≡ Less
  first_above k x xs h = less_so (text_cmp k (name x)) (and_parts (is_lt (text_cmp k (name x))) (below_all text_cmp k (named name xs)) h).0

  rest_above : (k : List ℕ) (x : X) (xs : List X) → IsBelow k (x ∷ xs) → IsBelow k xs
  rest_above k x xs h = (and_parts (is_lt (text_cmp k (name x))) (below_all text_cmp k (named name xs)) h).1

  IsByName-cons : (x : X) (xs : List X) → IsBelow (name x) xs → IsByName name xs → IsByName name (x ∷ xs)
  IsByName-cons x xs p q = both (below_all text_cmp (name x) (named name xs)) (is_by_name name xs) p q

  IsBelow-less : (k l : List ℕ) (xs : List X) → text_cmp k l ≡ Less → IsBelow l xs → IsBelow k xs
  IsBelow-less k l [] e h = refl
  IsBelow-less k l (x ∷ xs) e h =
      IsBelow-cons k x xs (nat_list_cmp_total.trans k l (name x) e (first_above l x xs h)) (IsBelow-less k l xs e (rest_above l x xs h))

  IsBelow-tied : (k l : List ℕ) (xs : List X) → text_cmp k l ≡ Equal → IsBelow l xs → IsBelow k xs
  IsBelow-tied k l xs e h = subst (λ (m : List ℕ). IsBelow m xs) (sym (same_text k l e)) h

  -- what stands before the first stands before all
  below_by_less : (k : List ℕ) (x : X) (xs : List X) → text_cmp k (name x) ≡ Less → IsByName name (x ∷ xs) → IsBelow k (x ∷ xs)
  below_by_less k x xs e h = IsBelow-cons k x xs e (IsBelow-less k (name x) xs e (head_below name x xs h))

  below_by_tie : (k : List ℕ) (x : X) (xs : List X) → text_cmp k (name x) ≡ Equal → IsByName name (x ∷ xs) → IsBelow k xs
  below_by_tie k x xs e h = IsBelow-tied k (name x) xs e (head_below name x xs h)

  -- nothing is found before the first
  at_name-below : (q : List ℕ) (xs : List X) → IsBelow q xs → at_name name q xs ≡ None
  at_name-below q [] h = refl
  at_name-below q (x ∷ xs) h =
      ap (λ (r : Ordering). cond (is_eq r) (Some x) (at_name name q xs)) (first_above q x xs h) ∙ at_name-below q xs (rest_above q x xs h)

  missed : (q k : List ℕ) (xs : List X) → text_cmp q k ≡ Equal → IsBelow k xs → at_name name q xs ≡ None
  missed q k xs e h = at_name-below q xs (IsBelow-tied q k xs e h)

module _ {E R : Type 0} (en : E → List ℕ) (rn : R → List ℕ) (join : E → Option R → Option R)
    (keeps : (e : E) (old : Option R) (new : R) → join e old ≡ Some new → rn new ≡ en e) where
  -- what stands where an entry and a row may be
  abbrev pub joined : Option E → Option R → Option R
  joined None old = old
  joined (Some e) old = join e old

  below_made : (k : List ℕ) (e : E) (old : Option R) (rest : List R) → text_cmp k (en e) ≡ Less → IsBelow rn k rest → IsBelow rn k (cons_option (join e old) rest)
  below_made k e old rest p h =
      elim (join e old) as (λ (made : Option R). join e old ≡ made → IsBelow rn k (cons_option made rest)) [
        | None ↦ λ is. h
        | Some new ↦ λ is. IsBelow-cons rn k new rest (subst (λ (m : List ℕ). text_cmp k m ≡ Less) (sym (keeps e old new is)) p) h
      ] refl

  by_name_made : (e : E) (old : Option R) (rest : List R) → IsBelow rn (en e) rest → IsByName rn rest → IsByName rn (cons_option (join e old) rest)
  by_name_made e old rest p h =
      elim (join e old) as (λ (made : Option R). join e old ≡ made → IsByName rn (cons_option made rest)) [
        | None ↦ λ is. h
        | Some new ↦ λ is. IsByName-cons rn new rest (subst (λ (m : List ℕ). IsBelow rn m rest) (sym (keeps e old new is)) p) h
      ] refl

  found_made : (q : List ℕ) (e : E) (old : Option R) (rest : List R) → IsBelow rn (en e) rest
      → at_name rn q (cons_option (join e old) rest) ≡ cond (is_eq (text_cmp q (en e))) (join e old) (at_name rn q rest)
  found_made q e old rest p =
      elim (join e old) as (λ (made : Option R). join e old ≡ made → at_name rn q (cons_option made rest) ≡ cond (is_eq (text_cmp q (en e))) made (at_name rn q rest)) [
        | None ↦ λ is.
            elim (text_cmp q (en e)) as (λ (c : Ordering). text_cmp q (en e) ≡ c → at_name rn q rest ≡ cond (is_eq c) None (at_name rn q rest)) [
              | Less ↦ λ t. refl
              | Equal ↦ λ t. missed rn q (en e) rest t p
              | Greater ↦ λ t. refl
            ] refl
        | Some new ↦ λ is. ap (λ (k : List ℕ). cond (is_eq (text_cmp q k)) (Some new) (at_name rn q rest)) (keeps e old new is)
      ] refl

  -- `rest` joins the entries to rows
  pub record Joins (entries : List E) (rest : List R → List R) : Type 0 where
    pub below : (k : List ℕ) (rows : List R) → IsBelow en k entries → IsBelow rn k rows → IsBelow rn k (rest rows)
    pub by_name : (rows : List R) → IsByName rn rows → IsByName rn (rest rows)
    pub finds : (q : List ℕ) (rows : List R) → IsByName rn rows → at_name rn q (rest rows) ≡ joined (at_name en q entries) (at_name rn q rows)

  module _ (e : E) (es : List E) (rest : List R → List R) (up : IsByName en (e ∷ es)) (good : Joins es rest) where
    abbrev more : List R → List R
    more = with_entry en rn join e rest

    abbrev step : Ordering → R → List R → List R
    step c r rs = by_order c (cons_option (join e None) (rest (r ∷ rs))) (cons_option (join e (Some r)) (rest rs)) (r ∷ more rs)

    later : IsBelow en (en e) es
    later = head_below en e es up

    down : (r : R) → text_cmp (en e) (rn r) ≡ Greater → text_cmp (rn r) (en e) ≡ Less
    down r is = nat_list_cmp_total.antisymm (rn r) (en e) ∙ ap ordering_reverse is

    below_more : (k : List ℕ) (rs : List R) → IsBelow en k (e ∷ es) → IsBelow rn k rs → IsBelow rn k (more rs)
    below_more k [] p h = below_made k e None (rest []) (first_above en k e es p) (good.below k [] (rest_above en k e es p) h)
    below_more k (r ∷ rs) p h =
        elim (text_cmp (en e) (rn r)) as (λ (c : Ordering). IsBelow rn k (step c r rs)) [
          | Less ↦ below_made k e None (rest (r ∷ rs)) (first_above en k e es p) (good.below k (r ∷ rs) (rest_above en k e es p) h)
          | Equal ↦ below_made k e (Some r) (rest rs) (first_above en k e es p) (good.below k rs (rest_above en k e es p) (rest_above rn k r rs h))
          | Greater ↦ IsBelow-cons rn k r (more rs) (first_above rn k r rs h) (below_more k rs p (rest_above rn k r rs h))
        ]

    by_name_more : (rs : List R) → IsByName rn rs → IsByName rn (more rs)
    by_name_more [] h = by_name_made e None (rest []) (good.below (en e) [] later refl) (good.by_name [] refl)
    by_name_more (r ∷ rs) h =
        elim (text_cmp (en e) (rn r)) as (λ (c : Ordering). text_cmp (en e) (rn r) ≡ c → IsByName rn (step c r rs)) [
          | Less ↦ λ is. by_name_made e None (rest (r ∷ rs)) (good.below (en e) (r ∷ rs) later (below_by_less rn (en e) r rs is h)) (good.by_name (r ∷ rs) h)
          | Equal ↦ λ is. by_name_made e (Some r) (rest rs) (good.below (en e) rs later (below_by_tie rn (en e) r rs is h)) (good.by_name rs (tail_by_name rn r rs h))
          | Greater ↦ λ is. IsByName-cons rn r (more rs) (below_more (rn r) rs (below_by_less en (rn r) e es (down r is) up) (head_below rn r rs h)) (by_name_more rs (tail_by_name rn r rs h))
        ] refl

    -- the entry stands before all of the rows
    at_front : (q : List ℕ) (rs : List R) → IsBelow rn (en e) rs → IsByName rn rs
        → at_name rn q (cons_option (join e None) (rest rs)) ≡ joined (at_name en q (e ∷ es)) (at_name rn q rs)
    at_front q rs p h =
        found_made q e None (rest rs) (good.below (en e) rs later p)
        ∙ elim (text_cmp q (en e)) as (λ (c : Ordering). text_cmp q (en e) ≡ c → cond (is_eq c) (join e None) (at_name rn q (rest rs)) ≡ joined (cond (is_eq c) (Some e) (at_name en q es)) (at_name rn q rs)) [
          | Less ↦ λ t. good.finds q rs h
          | Equal ↦ λ t. ap (join e) (sym (missed rn q (en e) rs t p))
          | Greater ↦ λ t. good.finds q rs h
        ] refl

    -- it has the name of the first row
    at_tie : (q : List ℕ) (r : R) (rs : List R) → text_cmp (en e) (rn r) ≡ Equal → IsByName rn (r ∷ rs)
        → at_name rn q (cons_option (join e (Some r)) (rest rs)) ≡ joined (at_name en q (e ∷ es)) (at_name rn q (r ∷ rs))
    at_tie q r rs is h =
        let alike : text_cmp q (en e) ≡ text_cmp q (rn r) = ap (text_cmp q) (same_text (en e) (rn r) is) in
        let others : at_name rn q (rest rs) ≡ joined (at_name en q es) (at_name rn q rs) = good.finds q rs (tail_by_name rn r rs h) in
        found_made q e (Some r) (rest rs) (good.below (en e) rs later (below_by_tie rn (en e) r rs is h))
        ∙ elim (text_cmp q (en e)) as (λ (c : Ordering). c ≡ text_cmp q (rn r) → cond (is_eq c) (join e (Some r)) (at_name rn q (rest rs)) ≡ joined (cond (is_eq c) (Some e) (at_name en q es)) (cond (is_eq (text_cmp q (rn r))) (Some r) (at_name rn q rs))) [
          | Less ↦ λ t. others ∙ ap (λ (d : Ordering). joined (at_name en q es) (cond (is_eq d) (Some r) (at_name rn q rs))) t
          | Equal ↦ λ t. ap (λ (d : Ordering). join e (cond (is_eq d) (Some r) (at_name rn q rs))) t
          | Greater ↦ λ t. others ∙ ap (λ (d : Ordering). joined (at_name en q es) (cond (is_eq d) (Some r) (at_name rn q rs))) t
        ] alike

    finds_more : (q : List ℕ) (rs : List R) → IsByName rn rs → at_name rn q (more rs) ≡ joined (at_name en q (e ∷ es)) (at_name rn q rs)
    finds_more q [] h = at_front q [] refl refl
    finds_more q (r ∷ rs) h =
        let others : at_name rn q (more rs) ≡ joined (at_name en q (e ∷ es)) (at_name rn q rs) = finds_more q rs (tail_by_name rn r rs h) in
        elim (text_cmp (en e) (rn r)) as (λ (c : Ordering). text_cmp (en e) (rn r) ≡ c → at_name rn q (step c r rs) ≡ joined (at_name en q (e ∷ es)) (at_name rn q (r ∷ rs))) [
          | Less ↦ λ is. at_front q (r ∷ rs) (below_by_less rn (en e) r rs is h) h
          | Equal ↦ λ is. at_tie q r rs is h
          | Greater ↦ λ is.
              elim (text_cmp q (rn r)) as (λ (d : Ordering). text_cmp q (rn r) ≡ d → cond (is_eq d) (Some r) (at_name rn q (more rs)) ≡ joined (at_name en q (e ∷ es)) (cond (is_eq d) (Some r) (at_name rn q rs))) [
                | Less ↦ λ t. others
                | Equal ↦ λ t. ap (λ (x : Option E). joined x (Some r)) (sym (missed en q (rn r) (e ∷ es) t (below_by_less en (rn r) e es (down r is) up)))
                | Greater ↦ λ t. others
              ] refl
        ] refl

  pub merged-joins : (entries : List E) → IsByName en entries → Joins entries (merged en rn join entries)
  merged-joins [] up = record { below = λ k rows p h. h; by_name = λ rows h. h; finds = λ q rows h. refl }
  merged-joins (e ∷ es) up =
      let good = merged-joins es (tail_by_name en e es up) in
      let rest = merged en rn join es in
      record { below = below_more e es rest up good; by_name = by_name_more e es rest up good; finds = finds_more e es rest up good }

module _ {X : Type 0} (name : X → List ℕ) where
  newer_keeps : (new : X) (old : Option X) (made : X) → newer new old ≡ Some made → name made ≡ name new
  newer_keeps new old made is = ap (λ (o : Option X). name (unwrap_or o new)) (sym is)

  newer_joined : (new old : Option X) → joined name name newer newer_keeps new old ≡ option_or new old
  newer_joined None old = refl
  newer_joined (Some x) old = refl

  -- new ones by name, put before the first of each of others
  pub merged-first_of_each : (new xs : List X) → IsByName name new → merged name name newer new (first_of_each name xs) ≡ first_of_each name (new ++ xs)
  merged-first_of_each new xs up =
      let joins = merged-joins name name newer newer_keeps new up in
      let others = IsByName-first_of_each name xs in
      same_lists name (merged name name newer new (first_of_each name xs)) (first_of_each name (new ++ xs)) (joins.by_name (first_of_each name xs) others) (IsByName-first_of_each name (new ++ xs))
      (λ q. joins.finds q (first_of_each name xs) others
      ∙ newer_joined (at_name name q new) (at_name name q (first_of_each name xs))
      ∙ ap (option_or (at_name name q new)) (at_name-first_of_each name q xs)
      ∙ sym (at_name-append name q new xs)
      ∙ sym (at_name-first_of_each name q (new ++ xs)))
