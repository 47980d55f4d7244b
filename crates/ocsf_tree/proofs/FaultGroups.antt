-- Of groups whose ranks go up, the least fault is that of the first group that has one.
use Rattle.std.proofs.Common.{◌≡◌, ℕ, ◌<◌, ◌≤◌, List, [], ◌∷◌, ◌++◌, map, Bool, true, ◌&&◌, Option, Some, None, refl, sym, ◌∙◌, ap, arith}
use Rattle.std.specs.Prelude.{All, nat_lt, option_map}
use Rattle.std.specs.Option.{option_or}
use Rattle.std.specs.List.{filter_map, cons_option}
use Rattle.std.proofs.lemmas.Bool.{and_parts, ltb-true}
use Rattle.std.proofs.lemmas.List.Elements.{All-nil, All-cons, All-append}
use Rattle.ocsf_tree.specs.declared.fault.Code.{Code}
use Rattle.ocsf_tree.specs.declared.fault.Fault.{Fault}
use Rattle.ocsf_tree.specs.LeastFault.{rank, least_fault}
use Rattle.ocsf_tree.specs.FaultGroups.{Blame, fault_of, FaultGroup, group_of, faults_of, faults_in, go_up, first_least}
use Rattle.ocsf_tree.proofs.LeastFaults.{least_fault-by_rank}

-- what holds of the code holds of each fault
of_code : (P : ℕ → Type 0) (c : Code) (bs : List Blame) → P (rank c) → All (λ (f : Fault). P (rank f.code)) (map (fault_of c) bs)
of_code P c [] p = All-nil (λ (f : Fault). P (rank f.code))
of_code P c (b ∷ bs) p = All-cons (λ (f : Fault). P (rank f.code)) (fault_of c b) (map (fault_of c) bs) p (of_code P c bs p)

below : (n : ℕ) (g : FaultGroup) (groups : List FaultGroup) → n < rank g.code → go_up (g ∷ groups) ≡ true → All (λ (f : Fault). n < rank f.code) (faults_in (g ∷ groups))
below n g [] h up = All-append (λ (f : Fault). n < rank f.code) (faults_of g) [] (of_code (λ r. n < r) g.code g.blamed h) (All-nil (λ (f : Fault). n < rank f.code))
below n g (k ∷ groups) h up =
    let both = and_parts (nat_lt (rank g.code) (rank k.code)) (go_up (k ∷ groups)) up in
    let next : rank g.code < rank k.code = ltb-true (rank g.code) (rank k.code) both.0 in
    All-append (λ (f : Fault). n < rank f.code) (faults_of g) (faults_in (k ∷ groups)) (of_code (λ r. n < r) g.code g.blamed h)
    (below n k groups (omega (arith, h, next)) both.1)

past : (g : FaultGroup) (groups : List FaultGroup) → go_up (g ∷ groups) ≡ true → All (λ (f : Fault). rank g.code < rank f.code) (faults_in groups)
past g [] up = All-nil (λ (f : Fault). rank g.code < rank f.code)
past g (k ∷ groups) up =
    let both = and_parts (nat_lt (rank g.code) (rank k.code)) (go_up (k ∷ groups)) up in
    below (rank g.code) k groups (ltb-true (rank g.code) (rank k.code) both.0) both.1

rest_up : (g : FaultGroup) (groups : List FaultGroup) → go_up (g ∷ groups) ≡ true → go_up groups ≡ true
rest_up g [] up = refl
rest_up g (k ∷ groups) up = (and_parts (nat_lt (rank g.code) (rank k.code)) (go_up (k ∷ groups)) up).1

pub least-faults_in : (groups : List FaultGroup) → go_up groups ≡ true → least_fault (faults_in groups) ≡ first_least groups
least-faults_in [] up = refl
least-faults_in (g ∷ groups) up =
    least_fault-by_rank (rank g.code) (faults_of g) (faults_in groups) (of_code (λ r. r ≤ rank g.code) g.code g.blamed (omega arith)) (past g groups up)
    ∙ ap (option_or (least_fault (faults_of g))) (least-faults_in groups (rest_up g groups up))

-- the faults of those of some items that blame someone
pub faults_of-each : {X : Type 0} (c : Code) (f : X → Option Blame) (xs : List X) → faults_of (group_of c (filter_map f xs)) ≡ filter_map (λ x. option_map (fault_of c) (f x)) xs
faults_of-each c f [] = refl
faults_of-each c f (x ∷ xs) = one (f x) (filter_map f xs) ∙ ap (cons_option (option_map (fault_of c) (f x))) (faults_of-each c f xs)
  where
    one : (o : Option Blame) (bs : List Blame) → map (fault_of c) (cons_option o bs) ≡ cons_option (option_map (fault_of c) o) (map (fault_of c) bs)
    one None bs = refl
    one (Some b) bs = refl
