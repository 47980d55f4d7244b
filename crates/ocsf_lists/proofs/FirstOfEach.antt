-- Lists by name are told apart by what they have at each name; of each name the first one.
use Rattle.std.proofs.Common.{◌≡◌, ◌≢◌, ℕ, List, [], ◌∷◌, ◌++◌, map, true, false, cond, Some, unwrap_or, T, refl, sym, ◌∙◌, ap, subst}
use Rattle.std.specs.Option.{option_or}
use Rattle.std.specs.declared.cmp.Ordering.{Ordering}
use Rattle.std.specs.declared.cmp.Ordering.TheVariants.{Less, Equal, Greater}
use Rattle.std.specs.Ordering.{is_eq}
use Rattle.std.specs.Cmp.Lexicographic.{nat_list_cmp_total}
use Rattle.std.specs.FinMap.Entries.{same_entries}
use Rattle.ocsf_lists.specs.ByName.{text_cmp, named, at_name, IsByName, put_by_name}
use Rattle.ocsf_lists.specs.FirstOfEach.{first_of_each}
use Rattle.ocsf_lists.proofs.NameLists.{same_text, IsByName-put, at_name-put_same, at_name-put_other}

module _ {X : Type 0} (name : X → List ℕ) where
  without_names : (xs : List X) → map (λ e. e.1) (named name xs) ≡ xs
  without_names [] = refl
  without_names (x ∷ xs) = ap (λ ys. x ∷ ys) (without_names xs)

  -- two lists by name that have the same at each name are equal
  pub same_lists : (xs ys : List X) → IsByName name xs → IsByName name ys → ((q : List ℕ) → at_name name q xs ≡ at_name name q ys) → xs ≡ ys
  same_lists xs ys up down same =
      sym (without_names xs)
      ∙ ap (map (λ e. e.1)) (same_entries text_cmp nat_list_cmp_total same_text (named name xs) (named name ys) (subst T (sym up) tt) (subst T (sym down) tt) same)
      ∙ without_names ys

  -- what is found at a name has it
  pub name-at_name : (q : List ℕ) (xs : List X) (x : X) → at_name name q xs ≡ Some x → name x ≡ q
  name-at_name q [] x is = cc
  name-at_name q (y ∷ ys) x is =
      elim (text_cmp q (name y)) as (λ (r : Ordering). text_cmp q (name y) ≡ r → cond (is_eq r) (Some y) (at_name name q ys) ≡ Some x → name x ≡ q) [
        | Less ↦ λ e found. name-at_name q ys x found
        | Equal ↦ λ e found. ap name (sym (ap (λ o. unwrap_or o y) found)) ∙ sym (same_text q (name y) e)
        | Greater ↦ λ e found. name-at_name q ys x found
      ] refl is

  -- in two lists end to end the first one is asked first
  pub at_name-append : (q : List ℕ) (xs ys : List X) → at_name name q (xs ++ ys) ≡ option_or (at_name name q xs) (at_name name q ys)
  at_name-append q [] ys = refl
  at_name-append q (x ∷ xs) ys =
      elim (is_eq (text_cmp q (name x))) as (λ b. cond b (Some x) (at_name name q (xs ++ ys)) ≡ option_or (cond b (Some x) (at_name name q xs)) (at_name name q ys)) [
        | true ↦ refl
        | false ↦ at_name-append q xs ys
      ]

  -- a put stands before what was there
  pub at_name-put : (q : List ℕ) (x : X) (xs : List X) → at_name name q (put_by_name name x xs) ≡ cond (is_eq (text_cmp q (name x))) (Some x) (at_name name q xs)
  at_name-put q x xs =
      elim (text_cmp q (name x)) as (λ (r : Ordering). text_cmp q (name x) ≡ r → at_name name q (put_by_name name x xs) ≡ cond (is_eq r) (Some x) (at_name name q xs)) [
        | Less ↦ λ e. at_name-put_other name q x xs (λ f. apart Less (sym e ∙ f) refl)
        | Equal ↦ λ e. at_name-put_same name q x xs e
        | Greater ↦ λ e. at_name-put_other name q x xs (λ f. apart Greater (sym e ∙ f) refl)
      ] refl
    where
      apart : (r : Ordering) → r ≡ Equal → is_eq r ≢ false
      apart Less e = cc
      apart Equal e = λ f. cc
      apart Greater e = cc

  -- the first of each stand by name
  pub IsByName-first_of_each : (xs : List X) → IsByName name (first_of_each name xs)
  IsByName-first_of_each [] = refl
  IsByName-first_of_each (x ∷ xs) = IsByName-put name x (first_of_each name xs) (IsByName-first_of_each xs)

  -- at each name they have what the list has there
  pub at_name-first_of_each : (q : List ℕ) (xs : List X) → at_name name q (first_of_each name xs) ≡ at_name name q xs
  at_name-first_of_each q [] = refl
  at_name-first_of_each q (x ∷ xs) =
      at_name-put q x (first_of_each name xs) ∙ ap (cond (is_eq (text_cmp q (name x))) (Some x)) (at_name-first_of_each q xs)

  -- a list by name is the first of each of itself
  pub first_of_each-by_name : (xs : List X) → IsByName name xs → first_of_each name xs ≡ xs
  first_of_each-by_name xs up = same_lists (first_of_each name xs) xs (IsByName-first_of_each xs) up (λ q. at_name-first_of_each q xs)
