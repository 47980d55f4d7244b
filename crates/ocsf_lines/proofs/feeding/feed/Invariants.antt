use Rattle.std.proofs.Common.{◌≡◌, length}
use Rattle.ocsf_lines.specs.Feeding.{Feeding}
use Rattle.ocsf_lines.proofs.feeding.feed.Given as goal

abbrev pub invariant-loop-line : goal.invariant-loop-line
invariant-loop-line g l = record {
  feeding : Feeding g.M.LineMachine.Step g.M.LineMachine.MOST (g.K.Sink.written l.fn.sink) (g.K.Sink.written l.sink) (g.M.LineMachine.state l.fn.machine) (g.M.LineMachine.state l.machine) l.piece l.rest l.fn.held.items l.held.items l.fn.flawed l.flawed;
  count : g.K.Sink.write_faults l.sink ≡ g.K.Sink.write_faults l.fn.sink;
}

abbrev pub decreases-loop-line : goal.decreases-loop-line
decreases-loop-line g l = length l.rest
