use Rattle.ocsf_tree.proofs.Keys.{key_order}
use Rattle.ocsf_tree.proofs.laws.keys_go_by_their_texts.Goals as goal

pub returns : goal.returns
returns c = key_order
