use Rattle.ocsf_tree.proofs.Joined.{text_of_parts}
use Rattle.ocsf_tree.proofs.laws.prints_join.Goals as goal

pub returns : goal.returns
returns c = text_of_parts
