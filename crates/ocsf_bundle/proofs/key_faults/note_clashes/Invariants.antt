use Rattle.std.proofs.Common.{◌≡◌}
use Rattle.ocsf_tree.specs.LeastFault.{least_from}
use Rattle.ocsf_bundle.specs.OwnFaults.{clash_in, clashes_in}
use Rattle.ocsf_bundle.proofs.Noted.{left_of}
use Rattle.ocsf_bundle.proofs.key_faults.note_clashes.Given as goal

abbrev pub invariant-loop-group : goal.invariant-loop-group
invariant-loop-group l = left_of (clash_in l.label) l.groups l.least l.group-index ≡ least_from l.fn.least (clashes_in l.label l.groups)
