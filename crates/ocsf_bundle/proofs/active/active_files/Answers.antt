use Rattle.std.proofs.Common.{◌≡◌, [], ◌∷◌, ◌++◌, None, Some, sym, ap, ◌∙◌, rules}
use Rattle.ocsf_raw.proofs.FilterMaps.{filter_map-kept, filter_map-passed}
use Rattle.ocsf_bundle.specs.Active.{active_file}
use Rattle.ocsf_bundle.proofs.active.active_files.Goals as goal

pub loop-file-preserved-in_default : goal.loop-file-preserved-in_default
loop-file-preserved-in_default c =
    let none : active_file c.args.files.now c.args.enabled.now c.file-item.result ≡ None = search rules in
    let passed = filter_map-passed (active_file c.args.files.now c.args.enabled.now) c.args.files.now c.loop-file.file-index c.file-item.result c.loop-file-test.true c.file-item.is none in
    c.loop-file.invariant ∙ sym passed

pub loop-file-preserved : goal.loop-file-preserved
loop-file-preserved c =
    let made : c.push.new.self ≡ c.loop-file.made ++ c.in-Some.active ∷ [] = search rules in
    let some : active_file c.args.files.now c.args.enabled.now c.file-item.result ≡ Some c.in-Some.active = search rules in
    let kept = filter_map-kept (active_file c.args.files.now c.args.enabled.now) c.args.files.now c.loop-file.file-index c.file-item.result c.loop-file-test.true c.file-item.is c.in-Some.active some in
    made ∙ (ap (λ xs. xs ++ c.in-Some.active ∷ []) c.loop-file.invariant ∙ sym kept)
