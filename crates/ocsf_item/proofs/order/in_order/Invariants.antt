use Rattle.std.proofs.Common.{◌≡◌, vec_len}
use Rattle.ocsf_rules.specs.InOrder.{in_order, put_onto}
use Rattle.ocsf_item.proofs.order.in_order.Given as goal

abbrev pub invariant-loop-item : goal.invariant-loop-item
invariant-loop-item g l = put_onto g.T.Ord.cmp l.left.items l.set.keys ≡ in_order g.T.Ord.cmp l.fn.items

abbrev pub decreases-loop-item : goal.decreases-loop-item
decreases-loop-item g l = vec_len l.left
