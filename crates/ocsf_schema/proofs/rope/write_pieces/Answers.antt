use Rattle.std.proofs.Common.{sym, subst, ◌∙◌}
use Rattle.std.proofs.lemmas.Result.{err_from_is_err_and}
use Rattle.ocsf_edge.specs.Sink.{AppendsPrefix}
use Rattle.ocsf_edge.proofs.Known.{AppendsPrefix-first, AppendsPrefix-second}
use Rattle.ocsf_schema.proofs.Pieces.{cut_at}
use Rattle.ocsf_schema.proofs.rope.write_pieces.Goals as goal

pub returns-in_err-write_all-clause-err : goal.returns-in_err-write_all-clause-err
returns-in_err-write_all-clause-err g c =
    let p = err_from_is_err_and c.from_residual.result c.from_residual.ensures.1 in
    let i = c.loop-piece.piece-index in
    let pieces = c.args.pieces.now in
    let old = g.K.Sink.written c.args.sink.now in
    let new = g.K.Sink.written c.write_all.new.sink in
    let bytes = c.as_slice.ensures ∙ c.get.ensures in
    let front = subst (AppendsPrefix (g.K.Sink.written c.loop-piece.sink) new) bytes c.in_err-write_all.ensures.err in
    rw p.1 (subst (AppendsPrefix old new) (sym (cut_at pieces i c.piece-item.result c.loop-piece-test.true c.piece-item.is))
    (AppendsPrefix-first _ _ _ _ (AppendsPrefix-second _ _ _ _ _ c.loop-piece.invariant.written front)))
