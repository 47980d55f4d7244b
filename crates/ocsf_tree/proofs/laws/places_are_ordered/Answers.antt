use Rattle.ocsf_tree.proofs.Places.{place_order}
use Rattle.ocsf_tree.proofs.laws.places_are_ordered.Goals as goal

pub returns : goal.returns
returns c = place_order
