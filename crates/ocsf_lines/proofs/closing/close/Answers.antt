use Rattle.std.proofs.lemmas.Result.{err_from_is_err_and}
use Rattle.ocsf_lines.proofs.CloseLemmas.{Closes-print, CloseCut-print}
use Rattle.ocsf_lines.proofs.closing.close.Goals as goal

pub returns-in_err-write_print-clause-err : goal.returns-in_err-write_print-clause-err
returns-in_err-write_print-clause-err g c =
    let stop = err_from_is_err_and c.from_residual-in_err-write_print.result c.from_residual-in_err-write_print.ensures.1 in
    rw stop.1 (CloseCut-print _ _ _ _ _ _ _ _ _ _ _ c.in_ok-answer_rest.ensures.ok c.in_err-write_print.ensures.err)

pub returns-clause-ok : goal.returns-clause-ok
returns-clause-ok g c =
    Closes-print _ _ _ _ _ _ _ _ _ _ _ c.in_ok-answer_rest.ensures.ok c.in_ok-write_print.ensures.ok
