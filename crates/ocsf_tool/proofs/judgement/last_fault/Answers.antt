use Rattle.std.proofs.Common.{◌≡◌, None, Some, Err, sym, subst, rules}
use Rattle.ocsf_tree.specs.declared.fault.Fault.{Fault}
use Rattle.ocsf_rules.specs.Judgement.{last_revision, no_revision_left}
use Rattle.ocsf_rules.specs.Verdict.{IsVerdict}
use Rattle.ocsf_tool.specs.Judging.{IsBundleOutcome}
use Rattle.ocsf_tool.proofs.Judged.{last_outcome, refused_outcome}
use Rattle.ocsf_tool.proofs.judgement.last_fault.Goals as goal

pub returns-in-Some : goal.returns-in-Some
returns-in-Some c =
    let refused : IsVerdict c.args.bundle.now (Some c.in-Some.fault) = search rules in
    refused_outcome last_revision c.args.bundle.now c.in-Some.fault refused

pub returns : goal.returns
returns c =
    let is : c.in_ok-fault-2.fault ≡ no_revision_left = search rules in
    let clean : IsVerdict c.args.bundle.now None = search rules in
    subst (λ (f : Fault). IsBundleOutcome last_revision c.args.bundle.now (Err f)) (sym is) (last_outcome c.args.bundle.now clean)
