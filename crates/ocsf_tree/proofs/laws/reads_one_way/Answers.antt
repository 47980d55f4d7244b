use Rattle.ocsf_tree.proofs.Readings.{one_reading}
use Rattle.ocsf_tree.proofs.laws.reads_one_way.Goals as goal

pub returns : goal.returns
returns c = one_reading
