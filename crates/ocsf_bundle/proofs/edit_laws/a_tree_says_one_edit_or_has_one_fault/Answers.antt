use Rattle.ocsf_bundle.proofs.OneAfter.{one_edit_or_fault}
use Rattle.ocsf_bundle.proofs.edit_laws.a_tree_says_one_edit_or_has_one_fault.Goals as goal

pub returns : goal.returns
returns c = one_edit_or_fault
