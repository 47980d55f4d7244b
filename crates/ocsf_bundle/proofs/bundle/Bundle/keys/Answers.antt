use Rattle.std.proofs.Common.{◌≡◌, ap, ◌∙◌, rules}
use Rattle.ocsf_bundle.specs.Active.{active_files}
use Rattle.ocsf_bundle.specs.Keys.{active_keys}
use Rattle.ocsf_bundle.proofs.Kept.{keys-index_of}
use Rattle.ocsf_bundle.proofs.bundle.Bundle.keys.Goals as goal

pub returns : goal.returns
returns c =
    let slice : c.as_slice.result.now ≡ c.self.inside.index.keys = search rules in
    let kept : c.self.inside.index.keys ≡ active_keys (active_files c.self.inside.files c.self.inside.enabled) =
    ap (λ i. i.keys) c.self.invariant.indexed ∙ keys-index_of (active_files c.self.inside.files c.self.inside.enabled) in
    let files : c.self.inside.files ≡ c.args.self.now.files = search rules in
    let enabled : c.self.inside.enabled ≡ c.args.self.now.enabled = search rules in
    slice
    ∙ kept
    ∙ ap (λ l. active_keys (active_files l c.self.inside.enabled)) files
    ∙ ap (λ l. active_keys (active_files c.args.self.now.files l)) enabled
