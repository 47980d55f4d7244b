use Rattle.ocsf_tool.proofs.OneFolder.{one_schema}
use Rattle.ocsf_tool.proofs.laws.a_folder_comes_to_one_schema_or_one_fault.Goals as goal

pub returns : goal.returns
returns c = one_schema
