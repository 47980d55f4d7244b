use Rattle.std.proofs.Common.{◌≡◌, true, Some, sym, ap, ◌∙◌}
use Rattle.ocsf_bundle.specs.declared.stored.StoredFile.{StoredFile}
use Rattle.ocsf_bundle.specs.Active.{is_of_extension, extension_folder, extension_in, of_extension}
use Rattle.ocsf_bundle.proofs.Counted.{counts}
use Rattle.ocsf_bundle.proofs.active.active_file.Goals as goal

pub returns-in_ok-share-in-Some : goal.returns-in_ok-share-in-Some
returns-in_ok-share-in-Some c =
    let file = c.args.file.now in
    let path : c.as_str-path.result.now ≡ file.path = c.as_str-path.ensures ∙ ap (λ (f : StoredFile). f.path) c.get.ensures in
    let lies : is_of_extension file.path ≡ true = sym (ap is_of_extension path) ∙ sym c.is_of_extension.ensures ∙ c.if-not-is_of_extension.false in
    let found : extension_in c.args.files.now c.args.enabled.now (extension_folder file.path) ≡ Some c.in-Some.ext =
    sym (c.in_ok-ext.ensures ∙ ap (extension_in c.args.files.now c.args.enabled.now) (c.extension_folder.ensures ∙ ap extension_folder path)) ∙ c.in-Some.is in
    ap (λ (f : StoredFile). Some (of_extension f c.in-Some.ext)) c.in_ok-share-in-Some.ensures
    ∙ sym (counts c.args.files.now c.args.enabled.now file c.in-Some.ext lies found)
