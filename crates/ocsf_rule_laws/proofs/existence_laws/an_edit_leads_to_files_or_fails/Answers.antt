use Rattle.ocsf_rule_laws.proofs.SomeAfter.{some_after}
use Rattle.ocsf_rule_laws.proofs.existence_laws.an_edit_leads_to_files_or_fails.Goals as goal

pub returns : goal.returns
returns c = some_after
