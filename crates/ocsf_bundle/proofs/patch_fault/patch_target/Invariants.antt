use Rattle.std.proofs.Common.{◌≡◌}
use Rattle.std.specs.List.{filter_map}
use Rattle.ocsf_tree.specs.LeastFault.{least_fault}
use Rattle.ocsf_bundle.specs.OwnFaults.{patch_fault}
use Rattle.ocsf_bundle.specs.OwnFaults.{given_in}
use Rattle.ocsf_bundle.proofs.Noted.{left_of}
use Rattle.ocsf_bundle.proofs.patch_fault.patch_target.Given as goal

abbrev pub invariant-loop-file : goal.invariant-loop-file
invariant-loop-file l = left_of (patch_fault (given_in l.index.items)) l.active l.least l.file-index ≡ least_fault (filter_map (patch_fault (given_in l.index.items)) l.active)
