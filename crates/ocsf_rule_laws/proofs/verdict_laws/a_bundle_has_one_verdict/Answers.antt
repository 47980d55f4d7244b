use Rattle.ocsf_rule_laws.proofs.OneVerdict.{one_verdict}
use Rattle.ocsf_rule_laws.proofs.verdict_laws.a_bundle_has_one_verdict.Goals as goal

pub returns : goal.returns
returns c = one_verdict
