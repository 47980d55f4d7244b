use Rattle.ocsf_event_rules.proofs.FaultlessEvents.{faultless_is_allowed}
use Rattle.ocsf_event_rules.proofs.event_laws.an_event_without_violations_is_allowed.Goals as goal

pub returns : goal.returns
returns c = faultless_is_allowed
