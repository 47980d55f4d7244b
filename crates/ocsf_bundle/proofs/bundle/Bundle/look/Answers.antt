use Rattle.std.proofs.Common.{◌≡◌, slice_get, ap, subst, sym, ◌∙◌, rules}
use Rattle.ocsf_bundle.specs.Active.{active_files}
use Rattle.ocsf_bundle.specs.Parts.{asked, AreActiveSound, AreGroupsByName}
use Rattle.ocsf_bundle.specs.Looks.{look}
use Rattle.ocsf_bundle.specs.FilesLook.{looks}
use Rattle.ocsf_bundle.proofs.Kept.{groups_by_name, asked_ordered}
use Rattle.ocsf_bundle.proofs.Looked.{found-look}
use Rattle.ocsf_bundle.specs.Parts.{found}
use Rattle.ocsf_bundle.proofs.bundle.Bundle.look.Goals as goal

pub found-requires-clause-groups : goal.found-requires-clause-groups
found-requires-clause-groups c =
    subst AreGroupsByName (sym c.self.invariant.indexed) (groups_by_name (active_files c.self.inside.files c.self.inside.enabled))

pub found-requires-clause-ordered : goal.found-requires-clause-ordered
found-requires-clause-ordered c =
    let P : _ → Type 0 = λ i. AreActiveSound (asked i c.args.cell.now) in
    subst P (sym c.self.invariant.indexed) (asked_ordered c.self.inside.files c.self.inside.enabled c.args.cell.now c.self.invariant.ordered)

pub returns-clause-part : goal.returns-clause-part
returns-clause-part c =
    let files : c.self.inside.files ≡ c.args.self.now.files = search rules in
    let enabled : c.self.inside.enabled ≡ c.args.self.now.enabled = search rules in
    c.found.ensures.part
    ∙ ap (λ i. slice_get (found i c.args.cell.now) c.args.k) c.self.invariant.indexed
    ∙ ap (λ l. slice_get l c.args.k) (found-look (active_files c.self.inside.files c.self.inside.enabled) c.args.cell.now)
    ∙ ap (λ l. slice_get (look (looks l c.self.inside.enabled) c.args.cell.now) c.args.k) files
    ∙ ap (λ l. slice_get (look (looks c.args.self.now.files l) c.args.cell.now) c.args.k) enabled
