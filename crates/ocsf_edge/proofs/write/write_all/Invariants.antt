use Rattle.std.proofs.Common.{◌≡◌, ◌≤◌, ◌-◌, length, take}
use Rattle.std.specs.Io.KnownBytes.{Appends}
use Rattle.ocsf_edge.proofs.write.write_all.Given as goal

abbrev pub invariant-loop-at : goal.invariant-loop-at
invariant-loop-at g l = record {
  within : l.at ≤ length l.bytes;
  front : Appends (g.K.Sink.written l.fn.sink) (g.K.Sink.written l.sink) (take l.at l.bytes);
  count : g.K.Sink.write_faults l.sink ≡ g.K.Sink.write_faults l.fn.sink;
  rest : g.K.Sink.sink_rest l.sink ≡ g.K.Sink.sink_rest l.fn.sink;
}

abbrev pub decreases-loop-at : goal.decreases-loop-at
decreases-loop-at g l = length l.bytes - l.at
