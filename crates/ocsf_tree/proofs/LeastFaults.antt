-- The least of several faults is one that no other comes before, and a fault of a lower rank stands.
use Rattle.std.proofs.Common.{◌≡◌, ℕ, ◌<◌, ◌≤◌, List, ◌++◌, true, Option, refl, ap, arith}
use Rattle.std.specs.Prelude.{All, nat_lt}
use Rattle.std.specs.Option.{option_or}
use Rattle.std.specs.declared.cmp.Ordering.{Ordering}
use Rattle.std.specs.declared.cmp.Ordering.TheVariants.{Less}
use Rattle.std.specs.Ordering.{is_lt, nat_cmp, ordering_then}
use Rattle.std.specs.Cmp.{IsTotalOrder, IsStrictWeakOrder}
use Rattle.std.proofs.lemmas.Bool.{lt-ltb}
use Rattle.std.proofs.lemmas.Cmp.{then_total, on_total, nat_cmp_total, nat_list_cmp_total}
use Rattle.std.proofs.lemmas.List.MinMax.{ranks_by}
use Rattle.ocsf_tree.specs.declared.fault.Fault.{Fault}
use Rattle.ocsf_lists.specs.ByName.{text_cmp}
use Rattle.ocsf_tree.specs.LeastFault.{rank, fault_cmp, comes_before, least_from, least_fault, LeastIsLeast}
use Rattle.ocsf_lists.proofs.Leasts.{least_after-append, least-is_least, least-parted}

pub fault_cmp_total : IsTotalOrder fault_cmp
fault_cmp_total =
    then_total (on_total (λ (f : Fault). rank f.code) nat_cmp_total)
    (then_total (on_total (λ (f : Fault). f.subject) nat_list_cmp_total) (on_total (λ (f : Fault). f.name) nat_list_cmp_total))

pub faults_rank : IsStrictWeakOrder comes_before
faults_rank = ranks_by fault_cmp_total (λ f. f)

pub least_is_least : LeastIsLeast
least_is_least faults = least-is_least faults_rank faults

-- faults end to end are gone through one after the other
pub least_from-append : (least : Option Fault) (fs gs : List Fault)
    → least_from least (fs ++ gs) ≡ least_from (least_from least fs) gs
least_from-append least fs gs = least_after-append faults_rank least fs gs

-- ---- by rank

less : (m n : ℕ) → m < n → nat_cmp m n ≡ Less
less m n h = let a : nat_lt m n ≡ true = lt-ltb m n h in rw a refl

pub earlier : (f g : Fault) → rank f.code < rank g.code → comes_before f g ≡ true
earlier f g h =
    ap (λ (r : Ordering). is_lt (ordering_then r (ordering_then (text_cmp f.subject g.subject) (text_cmp f.name g.name))))
    (less (rank f.code) (rank g.code) h)

pub parted_by : (n : ℕ) (f g : Fault) → rank f.code ≤ n → n < rank g.code → comes_before f g ≡ true
parted_by n f g low high = earlier f g (omega (arith, low, high))

-- of faults of lower and of higher ranks, the least of the higher ones is the least only where there are no lower ones
pub least_fault-by_rank : (n : ℕ) (fs gs : List Fault) → All (λ f. rank f.code ≤ n) fs → All (λ g. n < rank g.code) gs
    → least_fault (fs ++ gs) ≡ option_or (least_fault fs) (least_fault gs)
least_fault-by_rank n fs gs low high =
    least-parted faults_rank (λ f. rank f.code ≤ n) (λ g. n < rank g.code) (parted_by n) fs gs low high
