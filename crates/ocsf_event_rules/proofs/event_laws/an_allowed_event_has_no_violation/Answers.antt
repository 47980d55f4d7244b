use Rattle.ocsf_event_rules.proofs.AllowedEvents.{allowed_is_faultless}
use Rattle.ocsf_event_rules.proofs.event_laws.an_allowed_event_has_no_violation.Goals as goal

pub returns : goal.returns
returns c = allowed_is_faultless
