use Rattle.std.proofs.Common.{◌≡◌, ℕ, List, take}
use Rattle.std.specs.List.{list_any}
use Rattle.std.specs.Ordering.{nat_cmp}
use Rattle.std.specs.BTreeMap.{get}
use Rattle.ocsf_bundle.specs.BundleFaults.{is_before}
use Rattle.ocsf_bundle.specs.OwnFaults.{has_lesser}
use Rattle.ocsf_bundle.proofs.numbers.least_names.Given as goal

abbrev pub invariant-loop-item : goal.invariant-loop-item
invariant-loop-item l = (number : ℕ) (name : List ℕ) → has_lesser (get nat_cmp l.least number) name ≡ list_any (is_before number name) (take l.item-index l.items)
