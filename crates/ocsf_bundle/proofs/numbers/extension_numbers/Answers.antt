use Rattle.std.proofs.Common.{◌≡◌, [], ◌∷◌, ◌++◌, take, map, Some, None, sym, ap, ◌∙◌, rules}
use Rattle.std.specs.List.{filter_map}
use Rattle.std.proofs.lemmas.List.{map-append}
use Rattle.ocsf_raw.proofs.FilterMaps.{filter_map-kept, filter_map-passed}
use Rattle.ocsf_bundle.specs.FilesLook.{extension_file_of}
use Rattle.ocsf_bundle.specs.BundleFaults.{extension_number, numbered}
use Rattle.ocsf_bundle.proofs.numbers.extension_numbers.Goals as goal

pub loop-file-preserved-in_default : goal.loop-file-preserved-in_default
loop-file-preserved-in_default c =
    let none : extension_file_of c.file-item.result ≡ None = search rules in
    c.loop-file.invariant
    ∙ ap (map extension_number) (sym (filter_map-passed extension_file_of c.args.active.now c.loop-file.file-index c.file-item.result c.loop-file-test.true c.file-item.is none))

pub loop-file-preserved : goal.loop-file-preserved
loop-file-preserved c =
    let ext = c.in-Some.ext.now in
    let some : extension_file_of c.file-item.result ≡ Some ext = search rules in
    let pushed : c.push.new.self ≡ c.loop-file.made ++ numbered ext.name ext.uid ∷ [] = search rules in
    let so_far = filter_map extension_file_of (take c.loop-file.file-index c.args.active.now) in
    let kept = filter_map-kept extension_file_of c.args.active.now c.loop-file.file-index c.file-item.result c.loop-file-test.true c.file-item.is ext some in
    pushed
    ∙ ap (λ xs. xs ++ numbered ext.name ext.uid ∷ []) c.loop-file.invariant
    ∙ sym (ap (map extension_number) kept ∙ map-append extension_number so_far (ext ∷ []))
