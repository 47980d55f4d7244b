use Rattle.std.proofs.Common.{◌≤◌, length, arith}
use Rattle.std.proofs.lemmas.List.{length-map}
use Rattle.ocsf_bundle.specs.Looks.{show_entry}
use Rattle.ocsf_item.specs.Dictionary.{dict_cell, dict_of}
use Rattle.ocsf_item.proofs.DictLayers.{dict_more, dict_end, dict_through}
use Rattle.ocsf_item.proofs.dictionary.said_at.Goals as goal

pub loop-k-preserved : goal.loop-k-preserved
loop-k-preserved g c =
    let b = g.B.Shows.looks c.args.bundle.now in
    dict_more (b.dict c.args.name.now) c.loop-k.k (dict_of c.in-Some.layer) _ _ c.in-Some.ensures c.loop-k.invariant c.in_ok-add_layer-in-Some.ensures

pub returns-in-None : goal.returns-in-None
returns-in-None g c = let b = g.B.Shows.looks c.args.bundle.now in dict_end (b.dict c.args.name.now) c.loop-k.k _ c.in-None.ensures c.loop-k.invariant

pub returns : goal.returns
returns g c =
    let b = g.B.Shows.looks c.args.bundle.now in
    let few : length (b.dict c.args.name.now) ≤ c.loop-k.k =
    omega (arith, c.most-k-end.ensures (dict_cell c.args.name.now), length-map (b.dict c.args.name.now) show_entry, c.loop-k-test.false) in
    dict_through (b.dict c.args.name.now) c.loop-k.k _ few c.loop-k.invariant
