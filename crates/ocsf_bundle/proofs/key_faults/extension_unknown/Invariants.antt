use Rattle.std.proofs.Common.{◌≡◌}
use Rattle.std.specs.List.{filter_map}
use Rattle.ocsf_tree.specs.LeastFault.{least_fault}
use Rattle.ocsf_bundle.specs.OwnFaults.{unknown_in}
use Rattle.ocsf_bundle.proofs.Noted.{left_of}
use Rattle.ocsf_bundle.proofs.key_faults.extension_unknown.Given as goal

abbrev pub invariant-loop-name : goal.invariant-loop-name
invariant-loop-name l = left_of (unknown_in l.extensions) l.enabled l.least l.name-index ≡ least_fault (filter_map (unknown_in l.extensions) l.enabled)
