use Rattle.ocsf_run_laws.proofs.OneOutput.{one_output}
use Rattle.ocsf_run_laws.proofs.laws.edits_has_one_output.Goals as goal

pub returns : goal.returns
returns c = one_output
