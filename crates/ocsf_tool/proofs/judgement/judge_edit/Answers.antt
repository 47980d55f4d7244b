use Rattle.std.proofs.Common.{Ok, Err, rules}
use Rattle.ocsf_raw.specs.declared.file_shape.RawError.TheVariants as error
use Rattle.ocsf_bundle.specs.After.{IsAfter}
use Rattle.ocsf_tool.specs.Edits.{Edited}
use Rattle.ocsf_tool.specs.Outcomes.{outcome_of}
use Rattle.ocsf_tool.proofs.Judged.{of_bundle, of_fault}
use Rattle.ocsf_tool.proofs.judgement.judge_edit.Goals as goal

pub returns-in_ok-outcome-in-Ok-clause-outcome : goal.returns-in_ok-outcome-in-Ok-clause-outcome
returns-in_ok-outcome-in-Ok-clause-outcome c =
    let now = c.args.now.now in
    let old : Edited = record { bundle = now.bundle; revision = now.revision } in
    let changes = c.args.edit.now.changes in
    let after : IsAfter now.bundle changes (Ok c.in-Ok.bundle) = search rules in
    of_bundle old changes c.in-Ok.bundle after (outcome_of c.in_ok-outcome-in-Ok.outcome) c.in_ok-outcome-in-Ok.ensures.outcome

pub returns-in-Err-Fault-clause-outcome : goal.returns-in-Err-Fault-clause-outcome
returns-in-Err-Fault-clause-outcome c =
    let now = c.args.now.now in
    let old : Edited = record { bundle = now.bundle; revision = now.revision } in
    let after : IsAfter now.bundle c.args.edit.now.changes (Err (error.Fault c.in-Err-Fault.fault)) = search rules in
    let made = of_fault old c.args.edit.now.changes c.in-Err-Fault.fault after in
    rw c.in-Err-Fault.field-0-is made
