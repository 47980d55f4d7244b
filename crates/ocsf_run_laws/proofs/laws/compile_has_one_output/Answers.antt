use Rattle.ocsf_run_laws.proofs.OneOutput.{one_compiled}
use Rattle.ocsf_run_laws.proofs.laws.compile_has_one_output.Goals as goal

pub returns : goal.returns
returns c = one_compiled
