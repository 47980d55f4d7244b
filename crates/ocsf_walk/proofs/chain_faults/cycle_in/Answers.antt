use Rattle.std.proofs.Common.{◌∙◌}
use Rattle.ocsf_walk.proofs.Cycles.{cycle_found}
use Rattle.ocsf_walk.proofs.chain_faults.cycle_in.Goals as goal

pub returns-in-Some : goal.returns-in-Some
returns-in-Some c = cycle_found c.loop-left.left.now _ _ c.in-len1-up.len_at_least c.first-item.is c.in-Some.ensures.len ∙ c.loop-left.invariant
