use Rattle.std.proofs.Common.{length, sym, subst, ◌∙◌, ap}
use Rattle.std.specs.Prelude.{flat_map}
use Rattle.ocsf_schema.specs.Count.{IsCount}
use Rattle.ocsf_schema.proofs.Pieces.{too_many}
use Rattle.ocsf_schema.proofs.rope.len_of.Goals as goal

pub returns-in_err-len : goal.returns-in_err-len
returns-in_err-len c =
    let pieces = c.args.pieces.now in
    let more = c.len.ensures ∙ ap length c.get.ensures in
    subst (IsCount (length (flat_map (λ piece. piece) pieces))) (sym c.from_residual.ensures)
    (too_many pieces c.loop-piece.piece-index c.piece-item.result c.loop-piece.len c.len.result c.loop-piece-test.true c.piece-item.is
    c.loop-piece.invariant more c.in_err-len.ensures)
