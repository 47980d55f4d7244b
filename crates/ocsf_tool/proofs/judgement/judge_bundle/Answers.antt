use Rattle.std.proofs.Common.{ℕ, Ok, Err, Some, sym, subst, rules}
use Rattle.std.proofs.lemmas.Bool.{ne_eqb}
use Rattle.ocsf_bundle.specs.Stored.{Stored}
use Rattle.ocsf_rules.specs.Judgement.{last_revision}
use Rattle.ocsf_rules.specs.Verdict.{IsVerdict}
use Rattle.ocsf_tool.specs.Judging.{IsBundleOutcome}
use Rattle.ocsf_tool.proofs.Judged.{accepted_outcome, refused_outcome}
use Rattle.ocsf_tool.proofs.judgement.judge_bundle.Goals as goal

pub returns-in-Ok-clause-outcome : goal.returns-in-Ok-clause-outcome
returns-in-Ok-clause-outcome c =
    let revision = c.args.revision in
    let bundle = c.args.bundle in
    subst (λ (b : Stored). IsBundleOutcome revision bundle (Ok b)) (sym c.in-Ok.ensures.bundle)
    (accepted_outcome revision bundle c.in-Ok.ensures.clean (ne_eqb revision last_revision c.if-revision-eq4294967295.false))

pub returns-in-Err-Fault-clause-outcome : goal.returns-in-Err-Fault-clause-outcome
returns-in-Err-Fault-clause-outcome c =
    let refused : IsVerdict c.args.bundle (Some c.in-Err-Fault.fault) = search rules in
    refused_outcome c.args.revision c.args.bundle c.in-Err-Fault.fault refused

pub returns-then-revision-eq4294967295-clause-outcome : goal.returns-then-revision-eq4294967295-clause-outcome
returns-then-revision-eq4294967295-clause-outcome c =
    subst (λ (n : ℕ). IsBundleOutcome n c.args.bundle (Err c.in_ok-fault.fault)) (sym c.if-revision-eq4294967295.true) c.in_ok-fault.ensures
