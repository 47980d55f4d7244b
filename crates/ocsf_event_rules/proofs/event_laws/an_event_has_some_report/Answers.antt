use Rattle.ocsf_event_rules.proofs.SomeReport.{some_report}
use Rattle.ocsf_event_rules.proofs.event_laws.an_event_has_some_report.Goals as goal

pub returns : goal.returns
returns c = some_report
