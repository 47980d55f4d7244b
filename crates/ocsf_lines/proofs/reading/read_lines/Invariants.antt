use Rattle.std.proofs.Common.{◌≡◌, ◌-◌, ◌^◌, ◌≤◌}
use Rattle.ocsf_lines.specs.Reading.{Reading}
use Rattle.ocsf_lines.proofs.reading.read_lines.Given as goal

abbrev pub invariant-loop-taken : goal.invariant-loop-taken
invariant-loop-taken g l = record {
  reading : Reading g.M.LineMachine.Step g.M.LineMachine.MOST (g.M.LineMachine.state l.fn.machine) (g.S.Source.left l.fn.source) (g.S.Source.left l.source) (g.K.Sink.written l.fn.sink) (g.K.Sink.written l.sink) (g.M.LineMachine.state l.machine) l.held.items l.flawed l.taken;
  within : l.taken ≤ 2 ^ 40;
  reads : g.S.Source.read_faults l.source ≡ g.S.Source.read_faults l.fn.source;
  writes : g.K.Sink.write_faults l.sink ≡ g.K.Sink.write_faults l.fn.sink;
  open_yet : g.S.Source.has_ended l.source ≡ g.S.Source.has_ended l.fn.source;
}

abbrev pub decreases-loop-taken : goal.decreases-loop-taken
decreases-loop-taken g l = 2 ^ 40 - l.taken
