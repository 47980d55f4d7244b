use Rattle.std.proofs.Common.{◌≡◌, ◌≤◌, ◌+◌, length, List, subst, sym, rules}
use Rattle.ocsf_bundle.specs.declared.stored.StoredFile.{StoredFile}
use Rattle.ocsf_bundle.specs.Looks.{look}
use Rattle.ocsf_bundle.specs.FilesLook.{looks}
use Rattle.ocsf_bundle.proofs.Kept.{most_parts}
use Rattle.ocsf_bundle.proofs.bundle.BundleShows.most.Goals as goal

pub returns : goal.returns
returns c cell =
    let files : c.as_slice.result.now ≡ c.args.self.now.files = search rules in
    let bound = most_parts c.args.self.now.files c.args.self.now.enabled cell in
    let P : List StoredFile → Type 0 = λ l. length (look (looks c.args.self.now.files c.args.self.now.enabled) cell) ≤ length l + 1 in
    subst P (sym files) bound
