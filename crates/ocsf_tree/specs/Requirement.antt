-- The words of requirements.
use Rattle.std.specs.Prelude.{ℕ, List, if◌then◌else◌, codes, Option, Some, None}
use Rattle.std.specs.Str.{bytes_eq}
use Rattle.ocsf_tree.specs.declared.attribute.Requirement.{Requirement}
use Rattle.ocsf_tree.specs.declared.attribute.Requirement.TheVariants.{Required, Recommended, Optional}

abbrev pub requirement_text : Requirement → List ℕ
requirement_text Required = codes "required"
requirement_text Recommended = codes "recommended"
requirement_text Optional = codes "optional"

abbrev pub requirement_named : List ℕ → Option Requirement
requirement_named text =
    if bytes_eq text (codes "required") then Some Required
    else (if bytes_eq text (codes "recommended") then Some Recommended
    else (if bytes_eq text (codes "optional") then Some Optional else None))
