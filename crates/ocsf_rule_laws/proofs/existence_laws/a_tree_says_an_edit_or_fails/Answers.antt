use Rattle.ocsf_rule_laws.proofs.SomeEdit.{some_edit}
use Rattle.ocsf_rule_laws.proofs.existence_laws.a_tree_says_an_edit_or_fails.Goals as goal

pub returns : goal.returns
returns c = some_edit
