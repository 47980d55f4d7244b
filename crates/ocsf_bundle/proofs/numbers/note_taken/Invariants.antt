use Rattle.std.proofs.Common.{◌≡◌}
use Rattle.ocsf_tree.specs.LeastFault.{least_from}
use Rattle.ocsf_bundle.specs.OwnFaults.{number_fault, number_faults}
use Rattle.ocsf_bundle.proofs.Noted.{left_of}
use Rattle.ocsf_bundle.proofs.numbers.note_taken.Given as goal

abbrev pub invariant-loop-item : goal.invariant-loop-item
invariant-loop-item l = left_of (number_fault l.label l.items) l.items l.least l.item-index ≡ least_from l.fn.least (number_faults l.label l.items)
