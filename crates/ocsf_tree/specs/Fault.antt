-- A fault by its parts.
use Rattle.std.specs.Prelude.{ℕ, List}
use Rattle.ocsf_tree.specs.declared.fault.Code.{Code}
use Rattle.ocsf_tree.specs.declared.fault.Fault.{Fault}

abbrev pub fault : Code → List ℕ → List ℕ → Fault
fault code subject name = record { code = code; subject = subject; name = name }
