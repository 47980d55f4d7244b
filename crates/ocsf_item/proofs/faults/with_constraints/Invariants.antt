use Rattle.std.proofs.Common.{◌≡◌, drop}
use Rattle.std.specs.Prelude.{flat_map}
use Rattle.ocsf_tree.specs.LeastFault.{least_from}
use Rattle.ocsf_rules.specs.ItemFaults.{absent_fault}
use Rattle.ocsf_item.proofs.faults.with_constraints.Given as goal

abbrev pub invariant-loop-name : goal.invariant-loop-name
invariant-loop-name l = least_from l.least (flat_map (absent_fault l.key l.rows) (drop l.name-index l.names)) ≡ least_from l.fn.least (flat_map (absent_fault l.key l.rows) l.names)
