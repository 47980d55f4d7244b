use Rattle.std.proofs.Common.{refl, subst}
use Rattle.ocsf_lines.specs.Reading.{LinesRan}
use Rattle.ocsf_tool.specs.Edits.{Edited, EditStep, edits_print}
use Rattle.ocsf_tool.proofs.Nothing.{nothing_ran}
use Rattle.ocsf_tool.specs.Commands.{Edits}
use Rattle.ocsf_tool.proofs.LinesCommands.{edits_ran, lines_end, at_limit, reads_at, writes_at}
use Rattle.ocsf_tool.proofs.edits_run.run_edits.Goals as goal

pub returns-in_default-clause-ran : goal.returns-in_default-clause-ran
returns-in_default-clause-ran g c = λ told. nothing_ran _ _ _

pub returns-clause-ends : goal.returns-clause-ends
returns-clause-ends g c = rw c.lines_status.ensures (lines_end Edits refl refl _)

pub returns-clause-ran : goal.returns-clause-ran
returns-clause-ran g c = λ told.
    let end = c.run_lines-end in
    let ran = subst (λ (s : Edited). LinesRan EditStep edits_print s (g.S.Source.left c.args.source.now) (g.S.Source.left end.new.source)
    (g.K.Sink.written c.args.sink.now) (g.K.Sink.written end.new.sink) end.result) c.in-Ok.ensures end.ensures.ran in
    rw c.lines_status.ensures (edits_ran _ end.result _ _ _ _ ran end.ensures.has_ended end.ensures.nothing_left)

pub returns-clause-limit_open : goal.returns-clause-limit_open
returns-clause-limit_open g c = λ limit. c.run_lines-end.ensures.open (at_limit _ (rw c.lines_status.ensures at limit))

pub returns-clause-reads : goal.returns-clause-reads
returns-clause-reads g c = rw c.lines_status.ensures (reads_at _ _ _ c.run_lines-end.ensures.reads)

pub returns-clause-writes : goal.returns-clause-writes
returns-clause-writes g c = rw c.lines_status.ensures (writes_at _ _ _ c.run_lines-end.ensures.writes)
