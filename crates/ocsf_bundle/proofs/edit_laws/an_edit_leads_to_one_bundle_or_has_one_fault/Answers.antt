use Rattle.ocsf_bundle.proofs.OneAfter.{one_after}
use Rattle.ocsf_bundle.proofs.edit_laws.an_edit_leads_to_one_bundle_or_has_one_fault.Goals as goal

pub returns : goal.returns
returns c = one_after
