use Rattle.std.proofs.Common.{◌≡◌, List, [], ◌++◌, ℕ, take, drop, sym, ◌∙◌, subst}
use Rattle.std.proofs.lemmas.Result.{err_from_is_err_and}
use Rattle.std.proofs.lemmas.List.{take-append-drop}
use Rattle.ocsf_edge.proofs.Known.{Appends-none}
use Rattle.ocsf_lines.proofs.feeding.answer_line.Goals as goal

pub returns-in_err-reply-clause-err : goal.returns-in_err-reply-clause-err
returns-in_err-reply-clause-err g c =
    let p = err_from_is_err_and c.from_residual.result c.from_residual.ensures.1 in
    let a = g.met.M.LineMachine.answers (g.M.LineMachine.state c.args.machine.now) c.args.line.now in
    rw p.1 (record { out = []; more = a.0; one = a.1; new = a.2; appends = Appends-none _; step = a.3 })

pub returns-in_err-write_all-clause-err : goal.returns-in_err-write_all-clause-err
returns-in_err-write_all-clause-err g c =
    let p = err_from_is_err_and c.from_residual-in_err-write_all.result c.from_residual-in_err-write_all.ensures.1 in
    let e = c.in_err-write_all.ensures.err in
    let text = c.as_slice.result.now in
    let whole : c.in_ok-reply.reply.text ≡ take e.0 text ++ drop e.0 text = sym c.as_slice.ensures ∙ sym (take-append-drop e.0 text) in
    let step = subst (λ (t : List ℕ). g.M.LineMachine.Step (g.M.LineMachine.state c.args.machine.now) c.args.line.now t c.in_ok-reply.reply.flawed (g.M.LineMachine.state c.answer.new.self)) whole c.in_ok-reply.ensures.ok in
    rw p.1 (record { out = take e.0 text; more = drop e.0 text; one = c.in_ok-reply.reply.flawed; new = g.M.LineMachine.state c.answer.new.self; appends = e.1; step = step })
