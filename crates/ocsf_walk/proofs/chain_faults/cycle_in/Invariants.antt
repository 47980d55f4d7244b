use Rattle.std.proofs.Common.{◌≡◌, length}
use Rattle.ocsf_rules.specs.ItemFaults.{cycle_in}
use Rattle.ocsf_walk.proofs.chain_faults.cycle_in.Given as goal

abbrev pub invariant-loop-left : goal.invariant-loop-left
invariant-loop-left l = cycle_in l.left ≡ cycle_in l.keys

abbrev pub decreases-loop-left : goal.decreases-loop-left
decreases-loop-left l = length l.left
