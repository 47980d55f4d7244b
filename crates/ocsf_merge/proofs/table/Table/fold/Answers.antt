use Rattle.std.proofs.Common.{◌∙◌, ap}
use Rattle.ocsf_merge.specs.Layers.{layer_of}
use Rattle.ocsf_merge.specs.Fold.{after_layer}
use Rattle.ocsf_merge.proofs.Folds.{after_layer-table_of}
use Rattle.ocsf_merge.proofs.table.Table.fold.Goals as goal

pub returns-clause-ok : goal.returns-clause-ok
returns-clause-ok c layers was =
    let layer = layer_of c.args.from.now c.args.profile c.args.profile_key.now c.args.attributes.now in
    c.in_ok-self.ensures ∙ ap (after_layer layer c.args.attributes.now) was ∙ after_layer-table_of layers layer c.requires
