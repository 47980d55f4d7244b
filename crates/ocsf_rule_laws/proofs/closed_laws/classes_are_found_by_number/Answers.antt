use Rattle.ocsf_rule_laws.proofs.ClassNumbers.{found_by_number}
use Rattle.ocsf_rule_laws.proofs.closed_laws.classes_are_found_by_number.Goals as goal

pub returns : goal.returns
returns c = found_by_number
