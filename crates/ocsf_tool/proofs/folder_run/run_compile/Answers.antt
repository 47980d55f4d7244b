use Rattle.std.proofs.Common.{Ok, Err, ap, rules}
use Rattle.std.specs.Prelude.{IfSome}
use Rattle.ocsf_tool.specs.Folders.{IsCompiled}
use Rattle.ocsf_tool.specs.Outputs.{Told}
use Rattle.ocsf_tool.proofs.FolderRan.{compile_printed, compile_broken, compile_refused}
use Rattle.ocsf_tool.proofs.folder_run.run_compile.Goals as goal

pub returns-in-Ok-clause-ran : goal.returns-in-Ok-clause-ran
returns-in-Ok-clause-ran g c = λ told.
    compile_broken c.args.dir.now (record told { files = g.F.Folder.files c.args.folder.now }) c.in-Ok.schema c.in-Ok.ensures.schema
    (g.K.Sink.written c.args.sink.now) (g.K.Sink.written c.write_to.new.sink) c.in-Err.ensures.err

pub returns-in-Err-Fault-clause-ran : goal.returns-in-Err-Fault-clause-ran
returns-in-Err-Fault-clause-ran g c = λ told.
    let fault = c.in-Err-Fault.fault in
    let is : IfSome (g.F.Folder.files c.args.folder.now) (λ lying. IsCompiled c.args.dir.now lying (Err fault)) = search rules in
    let wrote = c.write_refusal.ensures in
    rw c.refusal_status.ensures
    (compile_refused c.args.dir.now (record told { files = g.F.Folder.files c.args.folder.now }) fault is
    (g.K.Sink.written c.args.sink.now) (g.K.Sink.written c.write_refusal.new.sink)
    c.write_refusal.result wrote.ok wrote.failed (λ memory. ap g.K.Sink.written (wrote.nothing memory)))
