-- How the code tells a judgement.
use Rattle.std.specs.Prelude.{◌≡◌, ℕ, ◌+◌, Result, Ok, Err, ⊤}
use Rattle.ocsf_tree.specs.declared.fault.Fault.{Fault}
use Rattle.ocsf_bundle.specs.Stored.{Stored}
use Rattle.ocsf_tool.specs.declared.outcome.Outcome.{Outcome}
use Rattle.ocsf_tool.specs.declared.outcome.Outcome.TheVariants.{Accepted, Refused}

abbrev pub outcome_of : Outcome → Result Stored Fault
outcome_of (Accepted compilation) = Ok compilation.bundle
outcome_of (Refused fault) = Err fault

-- what was accepted has the next revision
abbrev pub NumbersNext : ℕ → Outcome → Type 0
NumbersNext revision (Accepted compilation) = compilation.revision ≡ revision + 1
NumbersNext revision (Refused fault) = ⊤
