use Rattle.ocsf_rule_laws.proofs.ClassNumbers.{numbers_shown}
use Rattle.ocsf_rule_laws.proofs.closed_laws.hidden_items_have_no_number.Goals as goal

pub returns : goal.returns
returns c = numbers_shown
