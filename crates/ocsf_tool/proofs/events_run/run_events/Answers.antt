use Rattle.std.proofs.Common.{refl, subst}
use Rattle.ocsf_lines.specs.Reading.{LinesRan}
use Rattle.ocsf_schema.specs.declared.parts.SchemaParts.{SchemaParts}
use Rattle.ocsf_tool.specs.Commands.{Validate}
use Rattle.ocsf_tool.specs.Events.{EventStep, events_print}
use Rattle.ocsf_tool.proofs.FolderRan.{nothing_taken, validate_at_memory}
use Rattle.ocsf_tool.proofs.LinesCommands.{events_ran, lines_end, not_at_folder, at_limit, reads_at, writes_at}
use Rattle.ocsf_tool.proofs.events_run.run_events.Goals as goal

pub returns-clause-ends : goal.returns-clause-ends
returns-clause-ends g c = λ dir. rw c.lines_status.ensures (lines_end (Validate dir) refl refl _)

pub returns-clause-ran : goal.returns-clause-ran
returns-clause-ran g c = λ dir told compiled.
    let end = c.run_lines-end in
    let ran = subst (λ (s : SchemaParts). LinesRan EventStep events_print s (g.S.Source.left c.args.source.now) (g.S.Source.left end.new.source)
    (g.K.Sink.written c.args.sink.now) (g.K.Sink.written end.new.sink) end.result) c.in-Ok.ensures end.ensures.ran in
    rw c.lines_status.ensures (events_ran dir _ c.args.schema compiled end.result _ _ _ _ ran end.ensures.has_ended end.ensures.nothing_left)

pub returns-clause-no_folder : goal.returns-clause-no_folder
returns-clause-no_folder g c = λ folder. not_at_folder _ (rw c.lines_status.ensures at folder)

pub returns-clause-limit_open : goal.returns-clause-limit_open
returns-clause-limit_open g c = λ limit. c.run_lines-end.ensures.open (at_limit _ (rw c.lines_status.ensures at limit))

pub returns-clause-reads : goal.returns-clause-reads
returns-clause-reads g c = rw c.lines_status.ensures (reads_at _ _ _ c.run_lines-end.ensures.reads)

pub returns-clause-writes : goal.returns-clause-writes
returns-clause-writes g c = rw c.lines_status.ensures (writes_at _ _ _ c.run_lines-end.ensures.writes)
