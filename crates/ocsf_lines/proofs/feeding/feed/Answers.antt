use Rattle.std.proofs.Common.{rules}
use Rattle.std.proofs.lemmas.Result.{err_from_is_err_and}
use Rattle.ocsf_lines.proofs.FeedLemmas.{Feeding-line, Feeding-rest, FeedCut-in_line, FeedCut-in_rest, Feeds-hold}
use Rattle.ocsf_lines.proofs.feeding.feed.Goals as goal

pub returns-in_err-end_line-clause-err : goal.returns-in_err-end_line-clause-err
returns-in_err-end_line-clause-err g c =
    let stop = err_from_is_err_and c.from_residual.result c.from_residual.ensures.1 in
    rw stop.1 (FeedCut-in_line _ _ _ _ _ _ _ _ _ _ _ _ _ _ _ _ c.loop-line.invariant.feeding c.in-Some.ensures.parts c.in_err-end_line.ensures.err)

pub loop-line-preserved : goal.loop-line-preserved
loop-line-preserved g c =
    let before = c.loop-line.invariant in
    record {
      feeding = Feeding-line _ _ _ _ _ _ _ _ _ _ _ _ _ _ _ _ _ _ before.feeding c.in-Some.ensures.parts c.in_ok-end_line.ensures.ok;
      count = search rules;
    }

pub returns-in_err-hold-clause-err : goal.returns-in_err-hold-clause-err
returns-in_err-hold-clause-err g c =
    let stop = err_from_is_err_and c.from_residual-in_err-hold.result c.from_residual-in_err-hold.ensures.1 in
    rw stop.1 (FeedCut-in_rest _ _ _ _ _ _ _ _ _ _ _ _ _ g.met.M.LineMachine.answers c.loop-line.invariant.feeding)

pub returns-clause-ok : goal.returns-clause-ok
returns-clause-ok g c =
    rw (rw c.MOST.ensures at c.in_ok-hold.ensures) (Feeding-rest _ _ _ _ _ _ _ _ _ _ _ _ _ _ _ _ c.loop-line.invariant.feeding (Feeds-hold _ _ _ _ _ _ _ c.in_default.ensures.none))
