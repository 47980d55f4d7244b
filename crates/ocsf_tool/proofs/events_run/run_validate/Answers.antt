use Rattle.std.proofs.Common.{◌≡◌, Err, ap, rules}
use Rattle.std.specs.Prelude.{IfSome}
use Rattle.ocsf_tool.specs.declared.status.Status.TheVariants.{FolderFault, Memory}
use Rattle.ocsf_tool.specs.Commands.{Validate}
use Rattle.ocsf_tool.specs.Ends.{refusal_status}
use Rattle.ocsf_tool.specs.Folders.{IsCompiled}
use Rattle.ocsf_tool.specs.Outputs.{Told, Wrote}
use Rattle.ocsf_tool.proofs.FolderRan.{validate_refused, validate_at_memory, nothing_at_fault, nothing_taken}
use Rattle.ocsf_tool.proofs.events_run.run_validate.Goals as goal

pub returns-in-Ok-clause-ran : goal.returns-in-Ok-clause-ran
returns-in-Ok-clause-ran g c = λ told.
    c.run_events.ensures.ran c.args.dir.now (record told { files = g.F.Folder.files c.args.folder.now }) c.in-Ok.ensures.schema

pub returns-in-Err-Fault-clause-ran : goal.returns-in-Err-Fault-clause-ran
returns-in-Err-Fault-clause-ran g c = λ told.
    let dir = c.args.dir.now in
    let fault = c.in-Err-Fault.fault in
    let left = g.S.Source.left c.args.source.now in
    let old = g.K.Sink.written c.args.sink.now in
    let new = g.K.Sink.written c.write_refusal.new.sink in
    let here : Told = record told {
      files = g.F.Folder.files c.args.folder.now;
      ended = g.S.Source.has_ended c.args.source.now;
      left = left;
    } in
    let is : IfSome (g.F.Folder.files c.args.folder.now) (λ lying. IsCompiled dir lying (Err fault)) = search rules in
    let wrote = c.write_refusal.ensures in
    rw c.refusal_status.ensures
    (nothing_taken left old new (Wrote (Validate dir) here (refusal_status c.write_refusal.result))
    (validate_refused dir here fault is old new c.write_refusal.result wrote.ok wrote.failed (λ memory. ap g.K.Sink.written (wrote.nothing memory))))

pub returns-in-Err-FolderFault-clause-ran : goal.returns-in-Err-FolderFault-clause-ran
returns-in-Err-FolderFault-clause-ran g c = λ told.
    let written = g.K.Sink.written c.args.sink.now in
    let here : Told = record told {
      files = g.F.Folder.files c.args.folder.now;
      ended = g.S.Source.has_ended c.args.source.now;
      left = g.S.Source.left c.args.source.now;
    } in
    nothing_taken (g.S.Source.left c.args.source.now) written written (Wrote (Validate c.args.dir.now) here FolderFault)
    (nothing_at_fault (Validate c.args.dir.now) here written)

pub returns-in-Err-Memory-clause-ran : goal.returns-in-Err-Memory-clause-ran
returns-in-Err-Memory-clause-ran g c = λ told.
    let written = g.K.Sink.written c.args.sink.now in
    let here : Told = record told {
      files = g.F.Folder.files c.args.folder.now;
      ended = g.S.Source.has_ended c.args.source.now;
      left = g.S.Source.left c.args.source.now;
    } in
    nothing_taken (g.S.Source.left c.args.source.now) written written (Wrote (Validate c.args.dir.now) here Memory)
    (validate_at_memory c.args.dir.now here written)

pub returns-in-Ok-clause-silent : goal.returns-in-Ok-clause-silent
returns-in-Ok-clause-silent g c = λ folder. absurd (c.run_events.ensures.no_folder folder)

pub returns-in-Ok-clause-listings : goal.returns-in-Ok-clause-listings
returns-in-Ok-clause-listings g c =
    let kept : g.F.Folder.folder_faults c.compile_folder.new.folder ≡ g.F.Folder.folder_faults c.args.folder.now = search rules in
    record { rose = λ folder. absurd (c.run_events.ensures.no_folder folder); kept = λ _. kept }
