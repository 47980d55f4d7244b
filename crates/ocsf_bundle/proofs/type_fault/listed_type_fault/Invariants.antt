use Rattle.std.proofs.Common.{◌≡◌, drop}
use Rattle.ocsf_tree.specs.LeastFault.{least_from, least_fault}
use Rattle.ocsf_bundle.specs.BundleFaults.{type_faults}
use Rattle.ocsf_bundle.specs.OwnFaults.{kinds_in}
use Rattle.ocsf_bundle.proofs.type_fault.listed_type_fault.Given as goal

abbrev pub invariant-loop-file : goal.invariant-loop-file
invariant-loop-file l =
    least_from l.least (type_faults (kinds_in l.dictionaries) (drop l.file-index l.active))
    ≡ least_fault (type_faults (kinds_in l.dictionaries) l.active)
