use Rattle.std.proofs.Common.{◌≡◌, List, ℕ, Bool, false, Option, Some, None, sym, ap, rules}
use Rattle.std.specs.Prelude.{if◌then◌else◌}
use Rattle.std.specs.Str.{IsUtf8}
use Rattle.std.proofs.lemmas.Bool.{false_from_ne_true}
use Rattle.ocsf_raw.specs.Forms.{has_form}
use Rattle.ocsf_tool.proofs.FormedPaths.{formed_utf8}
use Rattle.ocsf_tool.proofs.folder.formed_path.Goals as goal

pub returns-in_default : goal.returns-in_default
returns-in_default c =
    let path = c.args.path.now in
    let no_text : ¬ IsUtf8 path = search rules in
    let no_form : has_form path ≡ false = false_from_ne_true (has_form path) (λ h. no_text (formed_utf8 path h)) in
    let none : Option (List ℕ) = None in
    sym (ap (λ (b : Bool). if b then Some path else none) no_form)
