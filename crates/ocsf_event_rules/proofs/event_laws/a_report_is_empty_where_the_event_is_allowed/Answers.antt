use Rattle.ocsf_event_rules.proofs.EmptyReports.{report_is_empty}
use Rattle.ocsf_event_rules.proofs.event_laws.a_report_is_empty_where_the_event_is_allowed.Goals as goal

pub returns : goal.returns
returns c = report_is_empty
