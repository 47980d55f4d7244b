-- The least fault, group by group.
use Rattle.std.proofs.Common.{◌≡◌, ℕ, true, false, if◌then◌else◌, List, [], ◌∷◌, ◌++◌, Option, Some, None, refl, sym, ◌∙◌, ap}
use Rattle.std.specs.Prelude.{flat_map}
use Rattle.std.specs.Option.{option_or}
use Rattle.std.specs.Ordering.{is_lt}
use Rattle.ocsf_tree.specs.declared.key.Key.{Key}
use Rattle.ocsf_tree.specs.declared.fault.Fault.{Fault}
use Rattle.ocsf_tree.specs.LeastFault.{least_from, least_fault, fault_cmp}
use Rattle.ocsf_bundle.specs.Looks.{Looks}
use Rattle.ocsf_merge.specs.declared.spoken.Spoken.{Spoken}
use Rattle.ocsf_merge.specs.Table.{table_of}
use Rattle.ocsf_rules.specs.Chain.{layers}
use Rattle.ocsf_rules.specs.Compiled.{at_least_one, just_one}
use Rattle.ocsf_rules.specs.ItemFaults.{chain_faults, layers_faults, own_faults, item_fault, activity_faults, category_fault, attribute_fault, absent_fault, constraint_fault, size_fault}
use Rattle.ocsf_walk.proofs.Chains.{least_from-append}

pub chain_first : (b : Looks) (k : Key) (f : Fault) → least_fault (chain_faults b k) ≡ Some f → item_fault b k ≡ Some f
unfolding item_fault
chain_first b k f e = ap (λ o. option_or o (option_or (least_fault (layers_faults b k)) (least_fault (own_faults b k)))) e

pub layers_next : (b : Looks) (k : Key) (f : Fault) → least_fault (chain_faults b k) ≡ None → least_fault (layers_faults b k) ≡ Some f → item_fault b k ≡ Some f
unfolding item_fault
layers_next b k f none e = (λ i. option_or (none i) (option_or (e i) (least_fault (own_faults b k))))

pub own_last : (b : Looks) (k : Key) (o : Option Fault) → least_fault (chain_faults b k) ≡ None → least_fault (layers_faults b k) ≡ None → least_fault (own_faults b k) ≡ o → item_fault b k ≡ o
unfolding item_fault
own_last b k o none nor e = (λ i. option_or (none i) (option_or (nor i) (e i)))

-- ---- the faults of the item itself, met one after another

unrolled : (as' cs ts ls js ss : List Fault) → least_from (least_from (least_from (least_from (least_from (least_from None as') cs) ts) ls) js) ss ≡ least_from None (as' ++ cs ++ ts ++ ls ++ js ++ ss)
unrolled as' cs ts ls js ss =
    sym (least_from-append None (as' ++ cs ++ ts ++ ls ++ js) ss ∙ ap (λ o. least_from o ss)
    (least_from-append None (as' ++ cs ++ ts ++ ls) js ∙ ap (λ o. least_from o js)
    (least_from-append None (as' ++ cs ++ ts) ls ∙ ap (λ o. least_from o ls)
    (least_from-append None (as' ++ cs) ts ∙ ap (λ o. least_from o ts) (least_from-append None as' cs)))))

pub own_least : (b : Looks) (k : Key) (rows : List Spoken) (some one : List (List ℕ)) (first second least : Option Fault) → rows ≡ table_of (layers b k) → some ≡ at_least_one b k → one ≡ just_one b k
    → first ≡ least_from (least_from None (activity_faults b k)) (category_fault b k)
    → second ≡ least_from first (flat_map (attribute_fault b k) rows)
    → least ≡ least_from (least_from (least_from second (flat_map (absent_fault k rows) some)) (flat_map (absent_fault k rows) one)) (size_fault k rows)
    → least ≡ least_fault (own_faults b k)
own_least b k rows some one first second least r s o f t l =
    l
    ∙ (λ i. least_from (least_from (least_from ((t ∙ ap (λ x. least_from x (flat_map (attribute_fault b k) rows)) f ∙ ap (λ xs. least_from (least_from (least_from None (activity_faults b k)) (category_fault b k)) (flat_map (attribute_fault b k) xs)) r) i)
    (flat_map (absent_fault k (r i)) (s i))) (flat_map (absent_fault k (r i)) (o i))) (size_fault k (r i)))
    ∙ unrolled (activity_faults b k) (category_fault b k) (flat_map (attribute_fault b k) (table_of (layers b k))) (flat_map (constraint_fault b k) (at_least_one b k)) (flat_map (constraint_fault b k) (just_one b k)) (size_fault k (table_of (layers b k)))

-- ---- where there is no least fault there is none

some_stays : (f : Fault) (fs : List Fault) → least_from (Some f) fs ≡ None → ⊥
some_stays f [] e = cc
some_stays f (g ∷ gs) e =
    elim (is_lt (fault_cmp g f)) as (λ t. least_from (if t then Some g else Some f) gs ≡ None → ⊥) [
      | true ↦ λ h. some_stays g gs h
      | false ↦ λ h. some_stays f gs h
    ] e

none_least : (fs : List Fault) → least_fault fs ≡ None → fs ≡ []
none_least [] e = refl
none_least (f ∷ fs) e = absurd (some_stays f fs e)

front_empty : (xs ys : List Fault) → xs ++ ys ≡ [] → xs ≡ []
front_empty [] ys e = refl
front_empty (x ∷ xs) ys e = cc

pub no_activity_fault : (b : Looks) (k : Key) → least_fault (own_faults b k) ≡ None → activity_faults b k ≡ []
no_activity_fault b k e =
    let as' = activity_faults b k in
    let cs = category_fault b k in
    let ts = flat_map (attribute_fault b k) (table_of (layers b k)) in
    let ls = flat_map (constraint_fault b k) (at_least_one b k) in
    let js = flat_map (constraint_fault b k) (just_one b k) in
    let ss = size_fault k (table_of (layers b k)) in
    front_empty as' cs (front_empty (as' ++ cs) ts (front_empty (as' ++ cs ++ ts) ls (front_empty (as' ++ cs ++ ts ++ ls) js (front_empty (as' ++ cs ++ ts ++ ls ++ js) ss (none_least (own_faults b k) e)))))
