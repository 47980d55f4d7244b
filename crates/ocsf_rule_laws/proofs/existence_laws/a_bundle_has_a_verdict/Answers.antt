use Rattle.ocsf_rule_laws.proofs.SomeVerdict.{some_verdict}
use Rattle.ocsf_rule_laws.proofs.existence_laws.a_bundle_has_a_verdict.Goals as goal

pub returns : goal.returns
returns c = some_verdict
