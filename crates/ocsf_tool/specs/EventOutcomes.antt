-- How the code tells what a line of `validate` comes to.
use Rattle.std.specs.Prelude.{List, map, Result, Ok, Err}
use Rattle.ocsf_tree.specs.declared.fault.Fault.{Fault}
use Rattle.ocsf_event_rules.specs.Wrong.{Violation}
use Rattle.ocsf_event.specs.Code.{told_violation}
use Rattle.ocsf_tool.specs.declared.event_judgement.Judged.{Judged}
use Rattle.ocsf_tool.specs.declared.event_judgement.Judged.TheVariants.{Report, Unread}

abbrev pub event_outcome : Judged → Result (List Violation) Fault
event_outcome (Report violations) = Ok (map told_violation violations)
event_outcome (Unread fault) = Err fault
