use Rattle.ocsf_tree.proofs.Readings.{some_reading}
use Rattle.ocsf_tree.proofs.laws.every_text_reads.Goals as goal

pub returns : goal.returns
returns c = some_reading
