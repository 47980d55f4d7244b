use Rattle.ocsf_rule_laws.proofs.Closed.{has_every_kind}
use Rattle.ocsf_rule_laws.proofs.closed_laws.a_schema_has_every_kind.Goals as goal

pub returns : goal.returns
returns c = has_every_kind
