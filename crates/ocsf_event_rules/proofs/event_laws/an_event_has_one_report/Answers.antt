use Rattle.ocsf_event_rules.proofs.OneReport.{one_report}
use Rattle.ocsf_event_rules.proofs.event_laws.an_event_has_one_report.Goals as goal

pub returns : goal.returns
returns c = one_report
