-- An event has one report.
use Rattle.std.proofs.Common.{◌≡◌, zero, suc, List, [], ◌∷◌, ◌⊎◌, inl, inr, refl, sym, ◌∙◌, ap₂, subst, arith}
use Rattle.std.specs.Prelude.{All, AllPairs, Contains}
use Rattle.std.specs.declared.cmp.Ordering.TheVariants.{Less, Equal}
use Rattle.std.specs.Cmp.{IsTotalOrder}
use Rattle.std.proofs.lemmas.Cmp.{then_total, on_total, tied_itself, nat_cmp_total, nat_list_cmp_total}
use Rattle.std.proofs.lemmas.List.Elements.{All-contains, Contains-append_right, Contains-append_cases}
use Rattle.ocsf_tree.proofs.Places.{place_cmp_total}
use Rattle.ocsf_event_rules.specs.EventLaws.{HasOneReport}
use Rattle.ocsf_event_rules.specs.Wrong.{Violation, violation_cmp}

pub violation_cmp_total : IsTotalOrder violation_cmp
violation_cmp_total =
    then_total (on_total (λ (v : Violation). v.place) place_cmp_total)
    (then_total (on_total (λ (v : Violation). v.code) nat_cmp_total)
    (on_total (λ (v : Violation). v.detail) nat_list_cmp_total))

abbrev pub IsBefore : Violation → Violation → Type 0
IsBefore v w = violation_cmp v w ≡ Less

not_itself : (v : Violation) → IsBefore v v → ⊥
not_itself v e = apart (sym (tied_itself violation_cmp_total v) ∙ e)
  where
    apart : Equal ≡ Less → ⊥
    apart e = cc

not_both : (v w : Violation) → IsBefore v w → IsBefore w v → ⊥
not_both v w x y = not_itself v (violation_cmp_total.trans v w v x y)

-- strictly in order
abbrev pub IsOrdered : List Violation → Type 0
IsOrdered vs = AllPairs IsBefore vs

pub before_rest : (v : Violation) (vs : List Violation) → IsOrdered (v ∷ vs) → All (IsBefore v) vs
before_rest v vs ordered = λ k d h. ordered 0 (suc k) d (omega arith) (omega arith)

pub rest_ordered : (v : Violation) (vs : List Violation) → IsOrdered (v ∷ vs) → IsOrdered vs
rest_ordered v vs ordered = λ i j d h k. ordered (suc i) (suc j) d (omega arith) (omega arith)

head_or_rest : (v w : Violation) (vs : List Violation) → Contains (v ∷ vs) w → (v ≡ w) ⊎ Contains vs w
head_or_rest v w vs c = elim (Contains-append_cases (v ∷ []) vs w c) [ inl one ↦ inl (alone one) | inr rest ↦ inr rest ]
  where
    alone : Contains (v ∷ []) w → v ≡ w
    alone (zero, lt, e) = e
    alone (suc k, lt, e) = absurd (omega (arith, lt))

in_rest : (v w : Violation) (vs : List Violation) → Contains vs w → Contains (v ∷ vs) w
in_rest v w vs c = Contains-append_right (v ∷ []) vs w c

here : (v : Violation) (vs : List Violation) → Contains (v ∷ vs) v
here v vs = (0, omega arith, refl)

none_in : (w : Violation) → Contains [] w → ⊥
none_in w c = let lt = c.1 in absurd (omega (arith, lt))

-- lists in order that have the same are one
same_list : (vs ws : List Violation) → IsOrdered vs → IsOrdered ws → ((u : Violation) → Contains vs u → Contains ws u)
    → ((u : Violation) → Contains ws u → Contains vs u) → vs ≡ ws
same_list [] [] x y there back = refl
same_list [] (w ∷ ws) x y there back = absurd (none_in w (back w (here w ws)))
same_list (v ∷ vs) [] x y there back = absurd (none_in v (there v (here v vs)))
same_list (v ∷ vs) (w ∷ ws) x y there back =
    let same : v ≡ w =
    same_head (head_or_rest w v ws (there v (here v vs))) (head_or_rest v w vs (back w (here w ws))) in
    ap₂ (λ a others. a ∷ others) same
    (same_list vs ws (rest_ordered v vs x) (rest_ordered w ws y)
    (λ u c. to_rest v w vs ws x same u c (head_or_rest w u ws (there u (in_rest v u vs c))))
    (λ u c. to_rest w v ws vs y (sym same) u c (head_or_rest v u vs (back u (in_rest w u ws c)))))
  where
    same_head : (w ≡ v) ⊎ Contains ws v → (v ≡ w) ⊎ Contains vs w → v ≡ w
    same_head (inl e) b = sym e
    same_head (inr a) (inl e) = e
    same_head (inr a) (inr b) =
        absurd (not_both v w (All-contains (IsBefore v) vs w (before_rest v vs x) b)
        (All-contains (IsBefore w) ws v (before_rest w ws y) a))

    to_rest : (a b : Violation) (others bs : List Violation) → IsOrdered (a ∷ others) → a ≡ b → (u : Violation)
        → Contains others u → (b ≡ u) ⊎ Contains bs u → Contains bs u
    to_rest a b others bs ordered same u c (inr there) = there
    to_rest a b others bs ordered same u c (inl e) =
        absurd (not_itself u (subst (λ t. IsBefore t u) (same ∙ e)
        (All-contains (IsBefore a) others u (before_rest a others ordered) c)))

pub one_report : HasOneReport
one_report schema event r s x y =
    same_list r s x.ordered y.ordered (λ u c. (y.listed u).1 ((x.listed u).0 c))
    (λ u c. (x.listed u).1 ((y.listed u).0 c))
