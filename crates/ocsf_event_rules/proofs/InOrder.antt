-- Violations can be put strictly in order, each once.
use Rattle.std.proofs.Common.{◌≡◌, ℕ, List, [], ◌∷◌, inl, inr, refl, sym, ◌∙◌, ap, subst, arith}
use Rattle.std.specs.Prelude.{All, Contains}
use Rattle.std.specs.declared.cmp.Ordering.{Ordering}
use Rattle.std.specs.declared.cmp.Ordering.TheVariants.{Less, Equal, Greater}
use Rattle.std.specs.Ordering.{ordering_then, ordering_reverse, nat_cmp}
use Rattle.std.proofs.lemmas.Cmp.{ranked}
use Rattle.std.proofs.lemmas.List.Elements.{All-nil, All-cons, All-tail, All-weaker, All-contains}
use Rattle.std.proofs.lemmas.List.Kept.{AllPairs-cons}
use Rattle.ocsf_lists.specs.ByName.{text_cmp}
use Rattle.ocsf_lists.proofs.NameLists.{same_text}
use Rattle.ocsf_tree.specs.Place.{place_cmp}
use Rattle.ocsf_tree.proofs.Places.{same_place}
use Rattle.ocsf_event_rules.specs.Wrong.{Violation, violation_cmp}
use Rattle.ocsf_event_rules.proofs.Listed.{contains_none, here, later, first_or_later}
use Rattle.ocsf_event_rules.proofs.OneReport.{violation_cmp_total, IsBefore, IsOrdered, before_rest, rest_ordered}

-- ---- those that tie are one

both_equal : (r s : Ordering) → ordering_then r s ≡ Equal → (r ≡ Equal) × (s ≡ Equal)
both_equal Less s e = cc
both_equal Equal s e = (refl, e)
both_equal Greater s e = cc

equal_number : (m n : ℕ) → nat_cmp m n ≡ Equal → m ≡ n
equal_number m n e = ranked m n Equal (sym e)

same_violation : (v w : Violation) → violation_cmp v w ≡ Equal → v ≡ w
same_violation v w e =
    let outer =
    both_equal (place_cmp v.place w.place) (ordering_then (nat_cmp v.code w.code) (text_cmp v.detail w.detail)) e in
    let inner = both_equal (nat_cmp v.code w.code) (text_cmp v.detail w.detail) outer.1 in
    let places = same_place v.place w.place outer.0 in
    let numbers = equal_number v.code w.code inner.0 in
    let details = same_text v.detail w.detail inner.1 in
    λ i. record { place = places i; code = numbers i; detail = details i }

-- ---- one more

abbrev placed : Ordering → Violation → Violation → List Violation → List Violation → List Violation
placed Less v w ws rest = v ∷ w ∷ ws
placed Equal v w ws rest = w ∷ ws
placed Greater v w ws rest = w ∷ rest

abbrev insert : Violation → List Violation → List Violation
insert v [] = v ∷ []
insert v (w ∷ ws) = placed (violation_cmp v w) v w ws (insert v ws)

all_insert : (P : Violation → Type 0) (v : Violation) (ws : List Violation) → P v → All P ws → All P (insert v ws)
all_insert P v [] p all = All-cons P v [] p (All-nil P)
all_insert P v (w ∷ ws) p all =
    by_order (violation_cmp v w) (all_insert P v ws p (All-tail P w ws all))
  where
    by_order : (r : Ordering) → All P (insert v ws) → All P (placed r v w ws (insert v ws))
    by_order Less rest = All-cons P v (w ∷ ws) p all
    by_order Equal rest = all
    by_order Greater rest = All-cons P w (insert v ws) (all 0 w (omega arith)) rest

ordered_insert : (v : Violation) (ws : List Violation) → IsOrdered ws → IsOrdered (insert v ws)
ordered_insert v [] ordered = λ i j d h k. absurd (omega (arith, h, k))
ordered_insert v (w ∷ ws) ordered =
    by_order (violation_cmp v w) refl (ordered_insert v ws (rest_ordered w ws ordered))
  where
    before : All (IsBefore w) ws
    before = before_rest w ws ordered

    by_order : (r : Ordering) → violation_cmp v w ≡ r → IsOrdered (insert v ws)
        → IsOrdered (placed r v w ws (insert v ws))
    by_order Less is rest =
        AllPairs-cons IsBefore v (w ∷ ws)
        (All-cons (IsBefore v) w ws is
        (All-weaker (IsBefore w) (IsBefore v) (λ u after. violation_cmp_total.trans v w u is after) ws before)) ordered
    by_order Equal is rest = ordered
    by_order Greater is rest =
        AllPairs-cons IsBefore w (insert v ws)
        (all_insert (IsBefore w) v ws (violation_cmp_total.antisymm w v ∙ ap ordering_reverse is) before) rest

inserted : (v : Violation) (ws : List Violation) → Contains (insert v ws) v
inserted v [] = here v []
inserted v (w ∷ ws) = by_order (violation_cmp v w) refl (inserted v ws)
  where
    by_order : (r : Ordering) → violation_cmp v w ≡ r → Contains (insert v ws) v
        → Contains (placed r v w ws (insert v ws)) v
    by_order Less is rest = here v (w ∷ ws)
    by_order Equal is rest = subst (λ u. Contains (w ∷ ws) u) (sym (same_violation v w is)) (here w ws)
    by_order Greater is rest = later w (insert v ws) v rest

kept : (v : Violation) (ws : List Violation) (u : Violation) → Contains ws u → Contains (insert v ws) u
kept v [] u c = absurd (contains_none u c)
kept v (w ∷ ws) u c = by_order (violation_cmp v w) (λ rest. kept v ws u rest)
  where
    by_order : (r : Ordering) → (Contains ws u → Contains (insert v ws) u)
        → Contains (placed r v w ws (insert v ws)) u
    by_order Less further = later v (w ∷ ws) u c
    by_order Equal further = c
    by_order Greater further = elim (first_or_later w ws u c) [
      | inl is ↦ subst (λ x. Contains (w ∷ insert v ws) x) is (here w (insert v ws))
      | inr rest ↦ later w (insert v ws) u (further rest)
    ]

-- ---- all

abbrev pub in_order : List Violation → List Violation
in_order [] = []
in_order (v ∷ vs) = insert v (in_order vs)

pub in_order_ordered : (vs : List Violation) → IsOrdered (in_order vs)
in_order_ordered [] = λ i j d h k. absurd (omega (arith, k))
in_order_ordered (v ∷ vs) = ordered_insert v (in_order vs) (in_order_ordered vs)

pub in_order_there : (vs : List Violation) (u : Violation) → Contains vs u → Contains (in_order vs) u
in_order_there [] u c = absurd (contains_none u c)
in_order_there (v ∷ vs) u c = elim (first_or_later v vs u c) [
  | inl is ↦ subst (Contains (insert v (in_order vs))) is (inserted v (in_order vs))
  | inr rest ↦ kept v (in_order vs) u (in_order_there vs u rest)
]

-- what holds of each holds of each in order
all_in_order : (P : Violation → Type 0) (vs : List Violation) → ((u : Violation) → Contains vs u → P u)
    → All P (in_order vs)
all_in_order P [] each = All-nil P
all_in_order P (v ∷ vs) each =
    all_insert P v (in_order vs) (each v (here v vs)) (all_in_order P vs (λ u c. each u (later v vs u c)))

pub in_order_back : (vs : List Violation) (u : Violation) → Contains (in_order vs) u → Contains vs u
in_order_back vs u c = All-contains (Contains vs) (in_order vs) u (all_in_order (Contains vs) vs (λ w is. is)) c
