-- What the files say stays in order wherever they are put.
use Rattle.std.proofs.Common.{◌≡◌, ℕ, List, [], ◌∷◌, true, false, cond, Option, Some, None, sym, subst, arith}
use Rattle.std.specs.Prelude.{All, nat_le}
use Rattle.std.specs.Option.{IfSome, option_copied}
use Rattle.std.specs.List.{filter_map, cons_option}
use Rattle.std.specs.Borrow.{Bor}
use Rattle.std.specs.Ordering.{is_eq}
use Rattle.std.proofs.lemmas.List.Elements.{All-cons, All-head, All-tail}
use Rattle.ocsf_lists.specs.ByName.{text_cmp, at_name}
use Rattle.ocsf_bundle.specs.Active.{into_order, in_order}

-- what holds of each holds of the one that is found
pub at_name-holds : {X : Type 0} (P : X → Type 0) (name : X → List ℕ) (q : List ℕ) (xs : List X) → All P xs → IfSome (at_name name q xs) P
at_name-holds P name q [] all = tt
at_name-holds P name q (x ∷ xs) all =
    elim (is_eq (text_cmp q (name x))) as (λ b. IfSome (cond b (Some x) (at_name name q xs)) P) [
      | true ↦ All-head P x xs all
      | false ↦ at_name-holds P name q xs (All-tail P x xs all)
    ]

-- the same of the one to which a reference was found
pub found-holds : {X : Type 0} (P : X → Type 0) (r : Option (Bor X)) (o : Option X) → option_copied r ≡ o → IfSome o P → IfSome r (λ x. P x.now)
found-holds P None o e h = tt
found-holds P (Some x) o e h = let Q : Option _ → Type 0 = λ p. IfSome p P in subst Q (sym e) h

module _ {X : Type 0} (P : X → Type 0) (n : X → ℕ) where
  into_order-all : (x : X) (xs : List X) → P x → All P xs → All P (into_order n x xs)
  into_order-all x [] p all = All-cons P x [] p all
  into_order-all x (y ∷ ys) p all =
      elim (nat_le (n x) (n y)) as (λ b. All P (cond b (x ∷ y ∷ ys) (y ∷ into_order n x ys))) [
        | true ↦ All-cons P x (y ∷ ys) p all
        | false ↦ All-cons P y (into_order n x ys) (All-head P y ys all) (into_order-all x ys p (All-tail P y ys all))
      ]

  pub in_order-all : (xs : List X) → All P xs → All P (in_order n xs)
  in_order-all [] all = all
  in_order-all (x ∷ xs) all = into_order-all x (in_order n xs) (All-head P x xs all) (in_order-all xs (All-tail P x xs all))

one_more : {Y : Type 0} (Q : Y → Type 0) (o : Option Y) (ys : List Y) → IfSome o Q → All Q ys → All Q (cons_option o ys)
one_more Q None ys h all = all
one_more Q (Some y) ys h all = All-cons Q y ys h all

-- what a list gives keeps what holds of each
pub filter_map-all : {X Y : Type 0} (P : X → Type 0) (Q : Y → Type 0) (f : X → Option Y) → ((x : X) → P x → IfSome (f x) Q) → (xs : List X) → All P xs → All Q (filter_map f xs)
filter_map-all P Q f each [] all = λ k d h. absurd (omega (arith, h))
filter_map-all P Q f each (x ∷ xs) all = one_more Q (f x) (filter_map f xs) (each x (All-head P x xs all)) (filter_map-all P Q f each xs (All-tail P x xs all))
