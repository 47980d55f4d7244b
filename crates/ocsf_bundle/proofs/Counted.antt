-- A file of an extension that counts.
use Rattle.std.specs.Prelude.{◌≡◌, ℕ, List, Bool, true, if◌then◌else◌, Some}
use Rattle.std.specs.Option.{option_map}
use Rattle.std.proofs.Common.{ap, ◌∙◌}
use Rattle.ocsf_bundle.specs.declared.stored.StoredFile.{StoredFile}
use Rattle.ocsf_bundle.specs.Active.{is_of_extension, extension_folder, extension_in, of_extension, of_core, active_file}

pub counts : (files : List StoredFile) (enabled : List (List ℕ)) (file ext : StoredFile)
    → is_of_extension file.path ≡ true → extension_in files enabled (extension_folder file.path) ≡ Some ext
    → active_file files enabled file ≡ Some (of_extension file ext)
counts files enabled file ext lies found =
    ap (λ (b : Bool). if b then option_map (of_extension file) (extension_in files enabled (extension_folder file.path)) else Some (of_core file)) lies
    ∙ ap (option_map (of_extension file)) found
