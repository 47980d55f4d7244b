use Rattle.ocsf_run_laws.proofs.SomeFolder.{some_schema}
use Rattle.ocsf_run_laws.proofs.laws.a_folder_comes_to_something.Goals as goal

pub returns : goal.returns
returns c = some_schema
