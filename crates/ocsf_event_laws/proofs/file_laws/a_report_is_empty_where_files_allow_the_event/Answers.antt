use Rattle.ocsf_event_laws.proofs.Events.{report_is_empty_where_files_allow}
use Rattle.ocsf_event_laws.proofs.file_laws.a_report_is_empty_where_files_allow_the_event.Goals as goal

pub returns : goal.returns
returns c = report_is_empty_where_files_allow
