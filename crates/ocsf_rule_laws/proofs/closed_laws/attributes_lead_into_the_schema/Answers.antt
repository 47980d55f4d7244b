use Rattle.ocsf_rule_laws.proofs.Closed.{leads_into_schema}
use Rattle.ocsf_rule_laws.proofs.closed_laws.attributes_lead_into_the_schema.Goals as goal

pub returns : goal.returns
returns c = leads_into_schema
