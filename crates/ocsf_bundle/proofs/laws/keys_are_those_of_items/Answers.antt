use Rattle.ocsf_bundle.proofs.KeysInOrder.{keys_of_items}
use Rattle.ocsf_bundle.proofs.laws.keys_are_those_of_items.Goals as goal

pub returns : goal.returns
returns c = keys_of_items
