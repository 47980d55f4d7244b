use Rattle.std.proofs.Common.{[], ◌∷◌, length, codes, sym, ◌∙◌, ap}
use Rattle.std.specs.List.{sum_by}
use Rattle.ocsf_tree.specs.declared.fault.Code.TheVariants as code
use Rattle.ocsf_tree.specs.LeastFault.{least_fault}
use Rattle.ocsf_tree.proofs.FaultGroups.{faults_of-each}
use Rattle.ocsf_bundle.specs.BundleFaults.{too_many, max_files, max_bytes, max_extensions, max_items}
use Rattle.ocsf_bundle.specs.OwnFaults.{fault_where}
use Rattle.ocsf_bundle.proofs.Limits.{least_of_four}
use Rattle.ocsf_bundle.proofs.own_fault.limit_passed.Goals as goal

pub returns : goal.returns
returns c =
    let files = too_many (codes "files") max_files (length c.args.files.now) in
    let bytes = too_many (codes "bytes") max_bytes (sum_by (λ file. length file.text) c.args.files.now) in
    let extensions = too_many (codes "extensions") max_extensions (length c.args.enabled.now) in
    let items = too_many (codes "items") max_items c.args.items in
    rw (c.in_ok-least-4.ensures, c.in_ok-least-3.ensures, c.in_ok-least-2.ensures, c.in_ok-least.ensures, c.is_longer.ensures)
    (least_of_four (fault_where code.TooMany files) (fault_where code.TooMany bytes) (fault_where code.TooMany extensions) (fault_where code.TooMany items)
    ∙ ap least_fault (sym (faults_of-each code.TooMany (λ p. p) (files ∷ bytes ∷ extensions ∷ items ∷ []))))
