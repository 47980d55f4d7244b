use Rattle.std.proofs.Common.{◌≡◌, [], sym, ap, subst, ◌∙◌, rules}
use Rattle.ocsf_bundle.specs.declared.cells.Cell.TheVariants as cell
use Rattle.ocsf_bundle.specs.Active.{active_files}
use Rattle.ocsf_bundle.specs.BundleFaults.{own_fault}
use Rattle.ocsf_bundle.specs.OwnFaults.{own_fault_in}
use Rattle.ocsf_bundle.specs.Parts.{AreActiveSound, AreGroupsByName}
use Rattle.ocsf_bundle.proofs.Kept.{groups_by_name, asked_ordered}
use Rattle.ocsf_bundle.proofs.OwnFound.{own_fault-index_of}
use Rattle.ocsf_bundle.proofs.bundle.Bundle.own_fault.Goals as goal

pub own_fault-requires-clause-groups : goal.own_fault-requires-clause-groups
own_fault-requires-clause-groups c =
    subst AreGroupsByName (sym c.self.invariant.indexed) (groups_by_name (active_files c.self.inside.files c.self.inside.enabled))

pub own_fault-requires-clause-ordered : goal.own_fault-requires-clause-ordered
own_fault-requires-clause-ordered c =
    let P : _ → Type 0 = λ i. AreActiveSound i.dictionaries in
    subst P (sym c.self.invariant.indexed) (asked_ordered c.self.inside.files c.self.inside.enabled (cell.Kind []) c.self.invariant.ordered)

pub returns : goal.returns
returns c =
    let inside = c.self.inside in
    let files : inside.files ≡ c.args.self.now.files = search rules in
    let enabled : inside.enabled ≡ c.args.self.now.enabled = search rules in
    let found : c.in_ok-fault.fault ≡ own_fault_in inside.files inside.enabled inside.index = search rules in
    found
    ∙ ap (own_fault_in inside.files inside.enabled) c.self.invariant.indexed
    ∙ own_fault-index_of inside.files inside.enabled
    ∙ (λ i. own_fault (files i) (enabled i))
