use Rattle.std.proofs.Common.{◌≡◌, rules, ◌∙◌}
use Rattle.ocsf_bundle.proofs.Listed.{in_byte_order-more}
use Rattle.ocsf_bundle.proofs.listing.put_names.Goals as goal

pub loop-item-preserved : goal.loop-item-preserved
loop-item-preserved g c before is =
    let key : c.in_ok-of.field-0 ≡ g.T.Named.name_of c.item-item.result = search rules in
    c.in_ok-put_name.ensures
    ∙ in_byte_order-more g.T.Named.name_of before c.args.items.now c.loop-item.item-index c.item-item.result c.in_ok-of.field-0 c.loop-item.names.keys c.loop-item-test.true c.item-item.is key (c.loop-item.invariant before is)
