use Rattle.ocsf_bundle.proofs.EditsRead.{one_edit}
use Rattle.ocsf_bundle.proofs.edit_laws.edits_read_one_way.Goals as goal

pub returns : goal.returns
returns c = one_edit
