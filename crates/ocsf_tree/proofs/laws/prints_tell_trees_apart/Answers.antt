use Rattle.ocsf_tree.proofs.TextsApart.{trees_by_text}
use Rattle.ocsf_tree.proofs.laws.prints_tell_trees_apart.Goals as goal

pub returns : goal.returns
returns c = trees_by_text
