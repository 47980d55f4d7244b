use Rattle.ocsf_run_laws.proofs.OneEvent.{one_validated}
use Rattle.ocsf_run_laws.proofs.laws.validate_has_one_output.Goals as goal

pub returns : goal.returns
returns c = one_validated
