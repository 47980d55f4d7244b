use Rattle.ocsf_item.proofs.Ordered.{put_begins, put_more}
use Rattle.ocsf_item.proofs.order.in_order.Goals as goal

pub loop-item-init : goal.loop-item-init
loop-item-init g c = put_begins g.T.Ord.cmp _ _ _ c.into_vec-left.ensures c.new-set.ensures.empty

pub loop-item-preserved : goal.loop-item-preserved
loop-item-preserved g c = put_more g.T.Ord.cmp _ _ _ _ _ c.in-Some.item c.in-Some.ensures.items c.in_ok-insert.ensures.keys c.loop-item.invariant
