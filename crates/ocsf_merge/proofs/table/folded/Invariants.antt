use Rattle.std.proofs.Common.{◌≡◌, ◌+◌, ◌++◌, length}
use Rattle.ocsf_merge.specs.Layers.{layer_of}
use Rattle.ocsf_merge.specs.Fold.{after_layer}
use Rattle.ocsf_merge.proofs.table.folded.Given as goal

abbrev pub invariant-loop-adds : goal.invariant-loop-adds
invariant-loop-adds l =
    let layer = layer_of l.from l.profile l.profile_key l.attributes in
    l.made ++ after_layer layer l.adds l.olds ≡ after_layer layer l.attributes l.rows

abbrev pub decreases-loop-adds : goal.decreases-loop-adds
decreases-loop-adds l = length l.adds + length l.olds
