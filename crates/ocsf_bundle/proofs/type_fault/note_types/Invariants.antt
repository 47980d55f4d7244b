use Rattle.std.proofs.Common.{◌≡◌, map, drop}
use Rattle.std.specs.List.{filter_map}
use Rattle.ocsf_tree.specs.LeastFault.{least_from}
use Rattle.ocsf_bundle.specs.BundleFaults.{type_fault}
use Rattle.ocsf_bundle.specs.OwnFaults.{kinds_in}
use Rattle.ocsf_bundle.proofs.type_fault.note_types.Given as goal

abbrev pub invariant-loop-entry : goal.invariant-loop-entry
invariant-loop-entry l =
    least_from l.least (filter_map (type_fault (kinds_in l.dictionaries)) (map (λ entry. entry.name) (drop l.entry-index l.entries)))
    ≡ least_from l.fn.least (filter_map (type_fault (kinds_in l.dictionaries)) (map (λ entry. entry.name) l.entries))
