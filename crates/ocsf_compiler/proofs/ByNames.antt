-- What lists by name give stands by name.
use Rattle.std.proofs.Common.{◌≡◌, ℕ, List, [], ◌∷◌, map, true, ◌&&◌, Option, Some, None, refl, ap, ap₂, ◌∙◌, subst}
use Rattle.std.specs.Prelude.{All}
use Rattle.std.specs.Option.{IfSome}
use Rattle.std.specs.List.{filter_map, cons_option}
use Rattle.std.specs.Ordering.{is_lt}
use Rattle.std.specs.FinMap.Entries.{below_all}
use Rattle.std.proofs.lemmas.Bool.{and_parts}
use Rattle.ocsf_tree.specs.declared.tree.Tree.TheVariants as tree
use Rattle.ocsf_tree.specs.declared.tree.Member.{Member}
use Rattle.ocsf_tree.specs.Valid.{IsValid, IsValidMembers}
use Rattle.ocsf_lists.specs.ByName.{text_cmp, named, is_by_name, IsByName}
use Rattle.ocsf_tree.proofs.Valid.{object_valid}
use Rattle.ocsf_schema.proofs.ValidFragments.{each_member_valid}

module _ {A B : Type 0} (f : A → Option B) (key : A → List ℕ) (name : B → List ℕ) (keeps : (x : A) → IfSome (f x) (λ y. name y ≡ key x)) where
  abbrev Keeps : A → Option B → Type 0
  Keeps x o = IfSome o (λ y. name y ≡ key x)

  one_below : (k : List ℕ) (x : A) (xs : List A) (o : Option B) → Keeps x o → is_lt (text_cmp k (key x)) ≡ true
      → below_all text_cmp k (named name (filter_map f xs)) ≡ true → below_all text_cmp k (named name (cons_option o (filter_map f xs))) ≡ true
  one_below k x xs None e first rest = rest
  one_below k x xs (Some y) e first rest = ap₂ (λ a b. a && b) (ap (λ n. is_lt (text_cmp k n)) e ∙ first) rest

  below_kept : (k : List ℕ) (xs : List A) → below_all text_cmp k (named key xs) ≡ true → below_all text_cmp k (named name (filter_map f xs)) ≡ true
  below_kept k [] h = refl
  below_kept k (x ∷ xs) h =
      let parts = and_parts (is_lt (text_cmp k (key x))) (below_all text_cmp k (named key xs)) h in
      one_below k x xs (f x) (keeps x) parts.0 (below_kept k xs parts.1)

  one_more : (x : A) (xs : List A) (o : Option B) → Keeps x o → below_all text_cmp (key x) (named name (filter_map f xs)) ≡ true
      → IsByName name (filter_map f xs) → IsByName name (cons_option o (filter_map f xs))
  one_more x xs None e first rest = rest
  one_more x xs (Some y) e first rest = ap₂ (λ a b. a && b) (ap (λ n. below_all text_cmp n (named name (filter_map f xs))) e ∙ first) rest

  -- what is given under the same names stands by name
  pub IsByName-filter_map : (xs : List A) → IsByName key xs → IsByName name (filter_map f xs)
  IsByName-filter_map [] h = refl
  IsByName-filter_map (x ∷ xs) h =
      let parts = and_parts (below_all text_cmp (key x) (named key xs)) (is_by_name key xs) h in
      one_more x xs (f x) (keeps x) (below_kept (key x) xs parts.0) (IsByName-filter_map xs parts.1)

each_given : {A B : Type 0} (f : A → B) (xs : List A) → filter_map (λ x. Some (f x)) xs ≡ map f xs
each_given f [] = refl
each_given f (x ∷ xs) = ap (λ ys. f x ∷ ys) (each_given f xs)

-- the same where each gives one
pub IsByName-map : {A B : Type 0} (f : A → B) (key : A → List ℕ) (name : B → List ℕ) → ((x : A) → name (f x) ≡ key x) → (xs : List A) → IsByName key xs → IsByName name (map f xs)
IsByName-map f key name same xs h =
    subst (IsByName name) (each_given f xs) (IsByName-filter_map (λ x. Some (f x)) key name same xs h)

itself : (ms : List Member) → map (λ (m : Member). let n : Member = record { name = m.name; value = m.value } in n) ms ≡ ms
itself [] = refl
itself (m ∷ ms) = ap (λ l. m ∷ l) (itself ms)

-- an object of valid members by name is valid
pub members_valid : (ms : List Member) → IsByName (λ m. m.name) ms → All (λ m. IsValid m.value) ms → IsValid (tree.Members ms)
members_valid ms up all =
    object_valid ms (subst IsValidMembers (itself ms) (each_member_valid (λ (m : Member). m.name) (λ (m : Member). m.value) ms up all))
