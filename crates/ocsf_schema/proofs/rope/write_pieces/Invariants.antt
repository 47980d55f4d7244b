use Rattle.std.proofs.Common.{◌≡◌, take}
use Rattle.std.specs.Prelude.{flat_map}
use Rattle.std.specs.Io.KnownBytes.{Appends}
use Rattle.ocsf_schema.proofs.rope.write_pieces.Given as goal

abbrev pub invariant-loop-piece : goal.invariant-loop-piece
invariant-loop-piece g l = record {
  written : Appends (g.K.Sink.written l.fn.sink) (g.K.Sink.written l.sink) (flat_map (λ piece. piece) (take l.piece-index l.pieces));
  count : g.K.Sink.write_faults l.sink ≡ g.K.Sink.write_faults l.fn.sink;
}
