use Rattle.ocsf_rule_laws.proofs.LeastOfItems.{least_is_of_items}
use Rattle.ocsf_rule_laws.proofs.verdict_laws.least_fault_is_of_items.Goals as goal

pub returns : goal.returns
returns c = least_is_of_items
