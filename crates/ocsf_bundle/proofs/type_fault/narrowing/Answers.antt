use Rattle.std.proofs.Common.{◌≡◌, take, Some, None, sym, ap, ◌∙◌, rules}
use Rattle.std.specs.Option.{option_or}
use Rattle.ocsf_raw.proofs.FilterMaps.{filter_map-kept, filter_map-passed}
use Rattle.ocsf_bundle.specs.FilesLook.{kind_of}
use Rattle.ocsf_bundle.specs.Looks.{is_there}
use Rattle.ocsf_bundle.specs.BundleFaults.{last_parent}
use Rattle.ocsf_bundle.specs.OwnFaults.{kinds_in}
use Rattle.ocsf_bundle.proofs.TypeWays.{is_there-push, last_parent-push}
use Rattle.ocsf_bundle.proofs.type_fault.narrowing.Goals as goal

pub loop-file-preserved-in_default : goal.loop-file-preserved-in_default
loop-file-preserved-in_default c =
    let name = c.args.name.now in
    let none : kind_of name c.file-item.result ≡ None = search rules in
    let passed = filter_map-passed (kind_of name) c.args.dictionaries.now c.loop-file.file-index c.file-item.result c.loop-file-test.true c.file-item.is none in
    record {
      listed = c.loop-file.invariant.listed ∙ ap is_there (sym passed);
      parent = c.loop-file.invariant.parent ∙ ap last_parent (sym passed);
    }

pub loop-file-preserved : goal.loop-file-preserved
loop-file-preserved c =
    let name = c.args.name.now in
    let entry = c.in-Some.entry.now in
    let so_far = kinds_in (take c.loop-file.file-index c.args.dictionaries.now) name in
    let some : kind_of name c.file-item.result ≡ Some entry = search rules in
    let kept = filter_map-kept (kind_of name) c.args.dictionaries.now c.loop-file.file-index c.file-item.result c.loop-file-test.true c.file-item.is entry some in
    record {
      listed = sym (ap is_there kept ∙ is_there-push so_far entry);
      parent = c.later.ensures ∙ ap (option_or entry.parent) c.loop-file.invariant.parent ∙ sym (ap last_parent kept ∙ last_parent-push so_far entry);
    }
