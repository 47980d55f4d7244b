use Rattle.std.proofs.Common.{◌≡◌, rules}
use Rattle.std.specs.List.{filter_map}
use Rattle.ocsf_tree.specs.LeastFault.{least_from}
use Rattle.ocsf_bundle.specs.BundleFaults.{types_of, type_fault}
use Rattle.ocsf_bundle.specs.OwnFaults.{kinds_in}
use Rattle.ocsf_bundle.proofs.Noted.{noted_each}
use Rattle.ocsf_bundle.proofs.type_fault.listed_type_fault.Goals as goal

pub loop-file-preserved : goal.loop-file-preserved
loop-file-preserved c =
    let f = type_fault (kinds_in c.args.dictionaries.now) in
    let next : c.in_ok-least.least ≡ least_from c.loop-file.least (filter_map f (types_of c.file-item.result)) = search rules in
    noted_each f types_of c.args.active.now _ c.loop-file.least c.in_ok-least.least c.loop-file.file-index c.file-item.result c.loop-file-test.true c.file-item.is next c.loop-file.invariant
