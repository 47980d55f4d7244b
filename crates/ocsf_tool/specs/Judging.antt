-- For private clauses: the files that an edit would leave are judged.
use Rattle.std.specs.Prelude.{◌≡◌, ℕ, Option, Some, None, Result, Ok, Err}
use Rattle.std.specs.Option.{option_or}
use Rattle.ocsf_tree.specs.declared.fault.Fault.{Fault}
use Rattle.ocsf_bundle.specs.Stored.{Stored}
use Rattle.ocsf_rules.specs.Judgement.{revision_fault}
use Rattle.ocsf_rules.specs.Verdict.{IsVerdict}

-- refused where there is a fault
abbrev pub unless_refused : Option Fault → Stored → Result Stored Fault
unless_refused None bundle = Ok bundle
unless_refused (Some fault) bundle = Err fault

-- by the verdict on the files, and else by the revision
pub record IsBundleOutcome (revision : ℕ) (bundle : Stored) (outcome : Result Stored Fault) : Type 0 where
  pub verdict : Option Fault
  pub is_verdict : IsVerdict bundle verdict
  pub judged : outcome ≡ unless_refused (option_or verdict (revision_fault revision)) bundle
