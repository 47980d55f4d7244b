use Rattle.std.proofs.Common.{◌≡◌, drop}
use Rattle.std.specs.Prelude.{flat_map}
use Rattle.ocsf_tree.specs.LeastFault.{least_from}
use Rattle.ocsf_rules.specs.ItemFaults.{activity_fault}
use Rattle.ocsf_item.proofs.faults.with_activities.Given as goal

abbrev pub invariant-loop-activity : goal.invariant-loop-activity
invariant-loop-activity l = least_from l.least (flat_map (activity_fault l.key) (drop l.activity-index l.activities)) ≡ least_from l.fn.least (flat_map (activity_fault l.key) l.activities)
