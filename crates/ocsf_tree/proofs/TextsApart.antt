-- Valid trees of one text are equal.
use Rattle.ocsf_tree.specs.Data.{data_of}
use Rattle.ocsf_tree.specs.Laws.{IsTextOfOne}
use Rattle.ocsf_tree.proofs.RoundTrip.{data_by_text}
use Rattle.ocsf_tree.proofs.Same.{trees_by_data}

pub trees_by_text : IsTextOfOne
trees_by_text a b v w e = trees_by_data a b (data_by_text (data_of a) (data_of b) v w e)
