use Rattle.ocsf_tree.proofs.LeastFaults.{least_is_least}
use Rattle.ocsf_tree.proofs.laws.least_faults_are_least.Goals as goal

pub returns : goal.returns
returns c = least_is_least
