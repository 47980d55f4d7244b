use Rattle.std.proofs.Common.{◌≡◌, ◌∙◌, sym, arith}
use Rattle.ocsf_walk.proofs.Chains.{one_up, at_top_keys, at_top_reads, at_top_least, no_keys_left, no_reads_left, no_faults_left}
use Rattle.ocsf_walk.proofs.chain.chain_of.Goals as goal

pub loop-left-preserved : goal.loop-left-preserved
loop-left-preserved g c =
    one_up c.loop-left.invariant _ _ _ _ c.loop-left-test.true (sym c.in-Some.is ∙ c.in_ok-parent.ensures.found) c.in_ok-push.ensures.ok c.in_ok-parent.ensures.reads c.in_ok-parent.ensures.least

pub returns-in-None-clause-keys : goal.returns-in-None-clause-keys
returns-in-None-clause-keys g c = at_top_keys c.loop-left.invariant c.loop-left-test.true (sym c.in-None.is ∙ c.in_ok-parent.ensures.found) _ c.in_ok-push.ensures.ok

pub returns-in-None-clause-least : goal.returns-in-None-clause-least
returns-in-None-clause-least g c = at_top_least c.loop-left.invariant c.loop-left-test.true (sym c.in-None.is ∙ c.in_ok-parent.ensures.found) _ c.in_ok-parent.ensures.least

pub returns-in-None-clause-reads : goal.returns-in-None-clause-reads
returns-in-None-clause-reads g c = at_top_reads c.loop-left.invariant c.loop-left-test.true (sym c.in-None.is ∙ c.in_ok-parent.ensures.found) _ c.in_ok-parent.ensures.reads

pub returns-clause-keys : goal.returns-clause-keys
returns-clause-keys g c = let none : c.loop-left.left ≡ 0 = omega arith in no_keys_left c.loop-left.invariant none

pub returns-clause-least : goal.returns-clause-least
returns-clause-least g c = let none : c.loop-left.left ≡ 0 = omega arith in no_faults_left c.loop-left.invariant none

pub returns-clause-reads : goal.returns-clause-reads
returns-clause-reads g c = let none : c.loop-left.left ≡ 0 = omega arith in no_reads_left c.loop-left.invariant none
