use Rattle.std.proofs.Common.{◌++◌, take, true}
use Rattle.ocsf_schema.specs.Joining.{label, HoldsItems}
use Rattle.ocsf_schema.proofs.printing.push_fragments.Given as goal

abbrev pub invariant-loop-piece : goal.invariant-loop-piece
invariant-loop-piece l = HoldsItems l.side (take l.piece-index l.pieces) (l.fn.out ++ label true l.name) l.out l.is_later
