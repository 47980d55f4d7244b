use Rattle.ocsf_kind.proofs.Cycles.{cycle_of_moves}
use Rattle.ocsf_kind.proofs.laws.cycles_have_no_end.Goals as goal

pub returns : goal.returns
returns c = cycle_of_moves
