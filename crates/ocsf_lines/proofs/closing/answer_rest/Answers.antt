use Rattle.std.proofs.Common.{◌<◌, length, arith}
use Rattle.std.proofs.lemmas.Result.{err_from_is_err_and}
use Rattle.ocsf_lines.proofs.CloseLemmas.{AnswersRest-one, CloseCut-rest}
use Rattle.ocsf_lines.proofs.closing.answer_rest.Goals as goal

pub returns-in_err-answer_line-clause-err : goal.returns-in_err-answer_line-clause-err
returns-in_err-answer_line-clause-err g c =
    let stop = err_from_is_err_and c.from_residual.result c.from_residual.ensures.1 in
    let some : 0 < length c.args.held.now = grind (arith, c.if-is_empty.ensures) in
    rw stop.1 (CloseCut-rest _ _ _ _ _ _ _ _ g.met.M.LineMachine.by_front some c.in_err-answer_line.ensures.err)

pub returns-clause-ok : goal.returns-clause-ok
returns-clause-ok g c =
    let some : 0 < length c.args.held.now = grind (arith, c.if-is_empty.ensures) in
    AnswersRest-one _ _ _ _ _ _ _ _ _ g.met.M.LineMachine.by_front some c.in_ok-answer_line.ensures.ok
