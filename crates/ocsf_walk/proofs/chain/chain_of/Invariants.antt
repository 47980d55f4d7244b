use Rattle.ocsf_walk.proofs.Chains.{IsLeft}
use Rattle.ocsf_walk.proofs.chain.chain_of.Given as goal

abbrev pub invariant-loop-left : goal.invariant-loop-left
invariant-loop-left g l = IsLeft (g.B.Shows.looks l.bundle) l.key l.fn.reads l.left l.now l.keys l.reads l.least

abbrev pub decreases-loop-left : goal.decreases-loop-left
decreases-loop-left g l = l.left
