use Rattle.std.proofs.Common.{◌≡◌, length, arith}
use Rattle.std.proofs.lemmas.List.{nil_from_length}
use Rattle.std.proofs.lemmas.Result.{err_from_is_err_and}
use Rattle.ocsf_lines.proofs.FeedLemmas.{Feeds-line, FeedCut-line, FeedCut-none, lifts-fresh, lifts-held}
use Rattle.ocsf_lines.proofs.feeding.end_line.Goals as goal

pub returns-in_err-answer_line-clause-err : goal.returns-in_err-answer_line-clause-err
returns-in_err-answer_line-clause-err g c =
    let stop = err_from_is_err_and c.from_residual.result c.from_residual.ensures.1 in
    let none : length c.args.held.now.items ≡ 0 = grind (arith, c.if-is_empty.ensures) in
    rw stop.1 (FeedCut-line _ _ _ _ _ _ _ _ _ _ g.met.M.LineMachine.answers c.requires (lifts-fresh _ _ _ _ none) c.in_err-answer_line.ensures.err)

pub returns-then-is_empty-clause-ok : goal.returns-then-is_empty-clause-ok
returns-then-is_empty-clause-ok g c =
    let none : length c.args.held.now.items ≡ 0 = grind (arith, c.if-is_empty.ensures) in
    Feeds-line _ _ _ _ _ _ _ _ _ _ _ _ c.requires (lifts-fresh _ _ _ _ none) (nil_from_length _ none) c.in_ok-answer_line.ensures.ok

pub returns-in_err-hold-clause-err : goal.returns-in_err-hold-clause-err
returns-in_err-hold-clause-err g c =
    let stop = err_from_is_err_and c.from_residual-in_err-hold.result c.from_residual-in_err-hold.ensures.1 in
    rw stop.1 (FeedCut-none _ _ _ _ _ _ _ _ g.met.M.LineMachine.answers)

pub returns-in_err-answer_line-2-clause-err : goal.returns-in_err-answer_line-2-clause-err
returns-in_err-answer_line-2-clause-err g c =
    let stop = err_from_is_err_and c.from_residual-in_err-answer_line-2.result c.from_residual-in_err-answer_line-2.ensures.1 in
    let m = g.met.M.LineMachine in
    let lifts = lifts-held _ _ _ _ _ m.by_front (rw c.MOST.ensures at c.in_ok-hold.ensures) in
    rw stop.1 (FeedCut-line _ _ _ _ _ _ _ _ _ _ m.answers c.requires lifts (rw c.deref.ensures.value at c.in_err-answer_line-2.ensures.err))

pub returns-clause-ok : goal.returns-clause-ok
returns-clause-ok g c =
    let lifts = lifts-held _ _ _ _ _ g.met.M.LineMachine.by_front (rw c.MOST.ensures at c.in_ok-hold.ensures) in
    Feeds-line _ _ _ _ _ _ _ _ _ _ _ _ c.requires lifts c.clear.ensures.items (rw c.deref.ensures.value at c.in_ok-answer_line-2.ensures.ok)
