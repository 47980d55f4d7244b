use Rattle.ocsf_bundle.proofs.CellOrders.{derived_order}
use Rattle.ocsf_bundle.proofs.laws.cells_are_ordered.Goals as goal

pub returns : goal.returns
returns c = derived_order
