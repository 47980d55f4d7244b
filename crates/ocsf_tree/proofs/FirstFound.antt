-- The place that the walk finds is the first.
use Rattle.std.proofs.Common.{◌≡◌, ℕ, zero, suc, ◌+◌, List, [], ◌∷◌, Bool, true, false, ◌||◌, cond, Option, Some, None, option_map, option_and_then, unwrap_or, Float, Ordering, Less, Equal, Greater, nat_cmp, ◌⊎◌, inl, inr, refl, sym, ap, ap₂, ◌∙◌, arith, true≢false, add-zero, zero-add}
use Rattle.std.specs.Ordering.{match_ordering, ordering_then, ordering_reverse}
use Rattle.std.specs.Cmp.{nat_cmp_is}
use Rattle.std.specs.Cmp.Lexicographic.{slice_cmp}
use Rattle.std.proofs.lemmas.Cmp.{nat_list_cmp_total, nat_cmp_total, tied_itself}
use Rattle.serde_json.specs.Data.{unsigned, negative, float, Data, null, boolean, number, string, array, object, Items, no_items, item, Members, no_members, member}
use Rattle.serde_json.specs.Find.{is_float, get_item, get_member}
use Rattle.serde_json.specs.Written.{has_float, items_have_float, members_have_float}
use Rattle.ocsf_tree.specs.declared.place.Step.{Step}
use Rattle.ocsf_tree.specs.declared.place.Step.TheVariants.{At, Name}
use Rattle.ocsf_tree.specs.Place.{place_cmp}
use Rattle.ocsf_tree.specs.FirstInexact.{or_else, first, first_item, first_member}
use Rattle.ocsf_tree.specs.Reading.{value_at, IsInexactAt, IsFirstInexact}
use Rattle.ocsf_tree.proofs.Order.{AllAfter, InOrder, ItemsInOrder, MembersInOrder, IfSomeIs, or_false}

-- ---- none was found

map_None : {A B : Type 0} (f : A → B) (o : Option A) → option_map f o ≡ None → o ≡ None
map_None f None e = refl
map_None f (Some a) e = cc

or_else_None : {A : Type 0} (o r : Option A) → or_else o r ≡ None → (o ≡ None) × (r ≡ None)
or_else_None None r e = (refl, e)
or_else_None (Some a) r e = cc

float_None : (b : Bool) (p : List Step) → cond b (Some p) None ≡ None → b ≡ false
float_None true p e = cc
float_None false p e = refl

mutual
  pub none_first : (d : Data) → first d ≡ None → has_float d ≡ false
  none_first null e = refl
  none_first (boolean b) e = refl
  none_first (number n) e = float_None (is_float n) [] e
  none_first (string s) e = refl
  none_first (array ds) e = none_first_item 0 ds e
  none_first (object ms) e = none_first_member ms e

  none_first_item : (k : ℕ) (ds : Items) → first_item k ds ≡ None → items_have_float ds ≡ false
  none_first_item k no_items e = refl
  none_first_item k (item d ds) e =
      let p = or_else_None (option_map (λ p. At k ∷ p) (first d)) (first_item (k + 1) ds) e in
      ap₂ (λ a b. a || b) (none_first d (map_None (λ p. At k ∷ p) (first d) p.0)) (none_first_item (k + 1) ds p.1)

  none_first_member : (ms : Members) → first_member ms ≡ None → members_have_float ms ≡ false
  none_first_member no_members e = refl
  none_first_member (member n d ms) e =
      let p = or_else_None (option_map (λ p. Name n ∷ p) (first d)) (first_member ms) e in
      ap₂ (λ a b. a || b) (none_first d (map_None (λ p. Name n ∷ p) (first d) p.0)) (none_first_member ms p.1)

-- ---- then there is none anywhere

chosen : (Q : Option Data → Type 0) (o : Ordering) (here later : Option Data) → Q (match_ordering o later here later) → ((o ≡ Equal) × Q here) ⊎ ((o ≡ Equal → ⊥) × Q later)
chosen Q Less here later q = inr ((λ e. cc), q)
chosen Q Equal here later q = inl (refl, q)
chosen Q Greater here later q = inr ((λ e. cc), q)

abbrev IsFloatIn : Option Data → List Step → Float → Type 0
IsFloatIn o p x = option_and_then (value_at p) o ≡ Some (number (float x))

float_of_itself : (d : Data) (x : Float) → Some d ≡ Some (number (float x)) → has_float d ≡ false → ⊥
float_of_itself d x e h = true≢false (sym (ap (λ o. unwrap_or (option_map has_float o) false) e) ∙ h)

mutual
  pub no_float_at : (d : Data) → has_float d ≡ false → (p : List Step) (x : Float) → value_at p d ≡ Some (number (float x)) → ⊥
  no_float_at d h [] x e = float_of_itself d x e h
  no_float_at null h (At i ∷ p) x e = cc
  no_float_at null h (Name n ∷ p) x e = cc
  no_float_at (boolean b) h (At i ∷ p) x e = cc
  no_float_at (boolean b) h (Name n ∷ p) x e = cc
  no_float_at (number m) h (At i ∷ p) x e = cc
  no_float_at (number m) h (Name n ∷ p) x e = cc
  no_float_at (string s) h (At i ∷ p) x e = cc
  no_float_at (string s) h (Name n ∷ p) x e = cc
  no_float_at (array ds) h (At i ∷ p) x e = no_float_in_items ds h i p x e
  no_float_at (array ds) h (Name n ∷ p) x e = cc
  no_float_at (object ms) h (At i ∷ p) x e = cc
  no_float_at (object ms) h (Name n ∷ p) x e = no_float_in_members ms h n p x e

  no_float_in_items : (ds : Items) → items_have_float ds ≡ false → (i : ℕ) (p : List Step) (x : Float) → IsFloatIn (get_item i ds) p x → ⊥
  no_float_in_items no_items h i p x e = cc
  no_float_in_items (item d ds) h zero p x e = no_float_at d (or_false (has_float d) _ h).0 p x e
  no_float_in_items (item d ds) h (suc i) p x e = no_float_in_items ds (or_false (has_float d) _ h).1 i p x e

  no_float_in_members : (ms : Members) → members_have_float ms ≡ false → (n : List ℕ) (p : List Step) (x : Float) → IsFloatIn (get_member n ms) p x → ⊥
  no_float_in_members no_members h n p x e = cc
  no_float_in_members (member k d ms) h n p x e =
      elim (chosen (λ o. IsFloatIn o p x) (slice_cmp nat_cmp n k) (Some d) (get_member n ms) e) [
        | inl q ↦ no_float_at d (or_false (has_float d) _ h).0 p x q.1
        | inr q ↦ no_float_in_members ms (or_false (has_float d) _ h).1 n p x q.1
      ]

-- ---- what was found is the first

is_after : (n : List ℕ) (k : List ℕ) (ms : Members) (p : List Step) (x : Float) → AllAfter k ms → IsFloatIn (get_member n ms) p x → slice_cmp nat_cmp k n ≡ Less
is_after n k no_members p x a e = cc
is_after n k (member l d ms) p x a e =
    elim (chosen (λ o. IsFloatIn o p x) (slice_cmp nat_cmp n l) (Some d) (get_member n ms) e) [
      | inl q ↦ nat_list_cmp_total.antisymm k n ∙ ap ordering_reverse (nat_list_cmp_total.congr n l k q.0) ∙ sym (nat_list_cmp_total.antisymm k l) ∙ a.0
      | inr q ↦ is_after n k ms p x a.1 q.1
    ]

same_number : (k : ℕ) → nat_cmp k k ≡ Equal
same_number k = tied_itself nat_cmp_total k

lower : (k i : ℕ) → nat_cmp k (k + suc i) ≡ Less
lower k i = sym (nat_cmp_is k (k + suc i) Less (omega arith))

-- of the items from the k-th on
abbrev pub FirstIn : ℕ → Items → List Step → Type 0
FirstIn k ds p =
    ((i : ℕ) × (q : List Step) × (x : Float) × (p ≡ At (k + i) ∷ q) × IsFloatIn (get_item i ds) q x)
    × ((i : ℕ) (q : List Step) (x : Float) → IsFloatIn (get_item i ds) q x → place_cmp p (At (k + i) ∷ q) ≡ Greater → ⊥)

abbrev pub FirstOf : Members → List Step → Type 0
FirstOf ms p =
    ((n : List ℕ) × (q : List Step) × (x : Float) × (p ≡ Name n ∷ q) × IsFloatIn (get_member n ms) q x)
    × ((n : List ℕ) (q : List Step) (x : Float) → IsFloatIn (get_member n ms) q x → place_cmp p (Name n ∷ q) ≡ Greater → ⊥)

then_less : (o : Ordering) (more : Ordering) → o ≡ Less → ordering_then o more ≡ Greater → ⊥
then_less Less more e g = cc
then_less Equal more e g = cc
then_less Greater more e g = cc

then_equal : (o : Ordering) (more : Ordering) → o ≡ Equal → ordering_then o more ≡ Greater → more ≡ Greater
then_equal Less more e g = cc
then_equal Equal more e g = g
then_equal Greater more e g = cc

join_item : (k : ℕ) (d : Data) (ds : Items) (here later : Option (List Step)) → (here ≡ None → has_float d ≡ false) → IfSomeIs (IsFirstInexact d) here → IfSomeIs (FirstIn (k + 1) ds) later
    → IfSomeIs (FirstIn k (item d ds)) (or_else (option_map (λ p. At k ∷ p) here) later)
join_item k d ds (Some p) later none f g = (
  (0, p, f.0.0, ap (λ i. At i ∷ p) (omega arith), f.0.1),
  λ i q x e g. least i q x e g,
)
  where
    least : (i : ℕ) (q : List Step) (x : Float) → IsFloatIn (get_item i (item d ds)) q x → place_cmp (At k ∷ p) (At (k + i) ∷ q) ≡ Greater → ⊥
    least zero q x e g = f.1 q (x, e) (then_equal (nat_cmp k (k + 0)) (place_cmp p q) (rw add-zero (same_number k)) g)
    least (suc i) q x e g = then_less (nat_cmp k (k + suc i)) (place_cmp p q) (lower k i) g
join_item k d ds None None none f g = tt
join_item k d ds None (Some p) none f g = (
  (suc g.0.0, g.0.1, g.0.2, g.0.3 ∙ ap (λ i. At i ∷ g.0.1) (omega arith), g.0.4),
  λ i q x e h. least i q x e h,
)
  where
    least : (i : ℕ) (q : List Step) (x : Float) → IsFloatIn (get_item i (item d ds)) q x → place_cmp p (At (k + i) ∷ q) ≡ Greater → ⊥
    least zero q x e h = no_float_at d (none refl) q x e
    least (suc i) q x e h = let same : k + suc i ≡ k + 1 + i = omega arith in g.1 i q x e (ap (λ j. place_cmp p (At j ∷ q)) (sym same) ∙ h)

join_member : (k : List ℕ) (d : Data) (ms : Members) (here later : Option (List Step)) → AllAfter k ms → (here ≡ None → has_float d ≡ false) → IfSomeIs (IsFirstInexact d) here → IfSomeIs (FirstOf ms) later
    → IfSomeIs (FirstOf (member k d ms)) (or_else (option_map (λ p. Name k ∷ p) here) later)
join_member k d ms (Some p) later a none f g = (
  (k, p, f.0.0, refl, rw (tied_itself nat_list_cmp_total k) f.0.1),
  λ n q x e h. elim (chosen (λ o. IsFloatIn o q x) (slice_cmp nat_cmp n k) (Some d) (get_member n ms) e) [
    | inl c ↦ f.1 q (x, c.1) (then_equal (slice_cmp nat_cmp k n) (place_cmp p q) (nat_list_cmp_total.antisymm k n ∙ ap ordering_reverse c.0) h)
    | inr c ↦ then_less (slice_cmp nat_cmp k n) (place_cmp p q) (is_after n k ms q x a c.1) h
  ],
)
join_member k d ms None None a none f g = tt
join_member k d ms None (Some p) a none f g =
    let n = g.0.0 in
    let after : slice_cmp nat_cmp n k ≡ Greater = nat_list_cmp_total.antisymm n k ∙ ap ordering_reverse (is_after n k ms g.0.1 g.0.2 a g.0.4) in (
      (n, g.0.1, g.0.2, g.0.3, rw after g.0.4),
      λ n q x e h. elim (chosen (λ o. IsFloatIn o q x) (slice_cmp nat_cmp n k) (Some d) (get_member n ms) e) [
        | inl c ↦ no_float_at d (none refl) q x c.1
        | inr c ↦ g.1 n q x c.1 h
      ],
    )

-- of a place below this value, the first step
whole_array : (ds : Items) (o : Option (List Step)) → IfSomeIs (FirstIn 0 ds) o → IfSomeIs (IsFirstInexact (array ds)) o
whole_array ds None f = tt
whole_array ds (Some p) f = (
  (f.0.2, ap (λ q. value_at q (array ds)) f.0.3 ∙ ap (λ i. value_at (At i ∷ f.0.1) (array ds)) (zero-add f.0.0) ∙ f.0.4),
  least,
)
  where
    least : (q : List Step) → IsInexactAt (array ds) q → place_cmp p q ≡ Greater → ⊥
    least [] e g = cc e.1
    least (At i ∷ q) e g = f.1 i q e.0 e.1 (ap (λ j. place_cmp p (At j ∷ q)) (zero-add i) ∙ g)
    least (Name n ∷ q) e g = cc e.1

whole_object : (ms : Members) (o : Option (List Step)) → IfSomeIs (FirstOf ms) o → IfSomeIs (IsFirstInexact (object ms)) o
whole_object ms None f = tt
whole_object ms (Some p) f = ((f.0.2, ap (λ q. value_at q (object ms)) f.0.3 ∙ f.0.4), least)
  where
    least : (q : List Step) → IsInexactAt (object ms) q → place_cmp p q ≡ Greater → ⊥
    least [] e g = cc e.1
    least (At i ∷ q) e g = cc e.1
    least (Name n ∷ q) e g = f.1 n q e.0 e.1 g

empty_is_first : (q : List Step) → place_cmp [] q ≡ Greater → ⊥
empty_is_first [] e = cc
empty_is_first (s ∷ q) e = cc

mutual
  pub first_found : (d : Data) → InOrder d → IfSomeIs (IsFirstInexact d) (first d)
  first_found null o = tt
  first_found (boolean b) o = tt
  first_found (number (unsigned n)) o = tt
  first_found (number (negative z)) o = tt
  first_found (number (float x)) o = ((x, refl), λ q e g. empty_is_first q g)
  first_found (string s) o = tt
  first_found (array ds) o = whole_array ds (first_item 0 ds) (first_item_found 0 ds o)
  first_found (object ms) o = whole_object ms (first_member ms) (first_member_found ms o)

  first_item_found : (k : ℕ) (ds : Items) → ItemsInOrder ds → IfSomeIs (FirstIn k ds) (first_item k ds)
  first_item_found k no_items o = tt
  first_item_found k (item d ds) o = join_item k d ds (first d) (first_item (k + 1) ds) (none_first d) (first_found d o.0) (first_item_found (k + 1) ds o.1)

  first_member_found : (ms : Members) → MembersInOrder ms → IfSomeIs (FirstOf ms) (first_member ms)
  first_member_found no_members o = tt
  first_member_found (member k d ms) o = join_member k d ms (first d) (first_member ms) o.0 (none_first d) (first_found d o.1) (first_member_found ms o.2)
