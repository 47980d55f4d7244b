use Rattle.ocsf_rule_laws.proofs.SomeLeast.{some_least}
use Rattle.ocsf_rule_laws.proofs.existence_laws.a_tree_has_a_first_fault_or_none.Goals as goal

pub returns : goal.returns
returns c = some_least
