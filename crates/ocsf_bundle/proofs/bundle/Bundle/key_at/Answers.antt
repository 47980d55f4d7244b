use Rattle.std.proofs.Common.{◌≡◌, ap, ◌∙◌, slice_get, rules}
use Rattle.ocsf_bundle.specs.Active.{active_files}
use Rattle.ocsf_bundle.specs.Keys.{active_keys}
use Rattle.ocsf_bundle.proofs.Kept.{keys-index_of}
use Rattle.ocsf_bundle.proofs.bundle.Bundle.key_at.Goals as goal

pub returns : goal.returns
returns c =
    let slice : c.as_slice.result.now ≡ c.self.inside.index.keys = search rules in
    let kept : c.self.inside.index.keys ≡ active_keys (active_files c.self.inside.files c.self.inside.enabled) =
    ap (λ i. i.keys) c.self.invariant.indexed ∙ keys-index_of (active_files c.self.inside.files c.self.inside.enabled) in
    let files : c.self.inside.files ≡ c.args.self.now.files = search rules in
    let enabled : c.self.inside.enabled ≡ c.args.self.now.enabled = search rules in
    c.key_at.ensures
    ∙ ap (λ l. slice_get l c.args.k) (slice ∙ kept)
    ∙ ap (λ l. slice_get (active_keys (active_files l c.self.inside.enabled)) c.args.k) files
    ∙ ap (λ l. slice_get (active_keys (active_files c.args.self.now.files l)) c.args.k) enabled
