use Rattle.std.proofs.Common.{◌≡◌, [], Option, Some, sym, subst, rules}
use Rattle.std.specs.Prelude.{IfSome}
use Rattle.ocsf_tool.specs.Commands.{Command, Edits, Compile, Validate, command_of}
use Rattle.ocsf_tool.specs.Outputs.{Told, Wrote, Ran}
use Rattle.ocsf_tool.proofs.FolderRan.{nothing_taken}
use Rattle.ocsf_tool.proofs.command.run.Goals as goal

pub returns-in-Some-Edits-clause-ran : goal.returns-in-Some-Edits-clause-ran
returns-in-Some-Edits-clause-ran g c =
    let named : command_of c.args.words.now ≡ Some Edits = search rules in
    let source = c.run_edits.new.source in
    let told : Told = record {
      files = g.F.Folder.files c.args.folder.now;
      tables = g.P.Keeper.tables c.args._keeper.now;
      tables_after = g.P.Keeper.tables c.args._keeper.now;
      ended = g.S.Source.has_ended source;
      left = g.S.Source.left source;
    } in
    subst (λ (o : Option Command). IfSome o (λ command. Ran command told c.run_edits.result
    (g.S.Source.left c.args.source.now) (g.S.Source.left source) (g.K.Sink.written c.args.sink.now) (g.K.Sink.written c.run_edits.new.sink)))
    (sym named) (c.run_edits.ensures.ran told)

pub returns-in-Some-Compile-clause-ran : goal.returns-in-Some-Compile-clause-ran
returns-in-Some-Compile-clause-ran g c =
    let dir = c.in-Some-Compile.dir.now in
    let named : command_of c.args.words.now ≡ Some (Compile dir) = search rules in
    let left = g.S.Source.left c.args.source.now in
    let old = g.K.Sink.written c.args.sink.now in
    let new = g.K.Sink.written c.run_compile.new.sink in
    let told : Told = record {
      files = g.F.Folder.files c.args.folder.now;
      tables = g.P.Keeper.tables c.args._keeper.now;
      tables_after = g.P.Keeper.tables c.args._keeper.now;
      ended = g.S.Source.has_ended c.args.source.now;
      left = left;
    } in
    subst (λ (o : Option Command). IfSome o (λ command. Ran command told c.run_compile.result left left old new))
    (sym named) (nothing_taken left old new (Wrote (Compile dir) told c.run_compile.result) (c.run_compile.ensures.ran told))

pub returns-in-Some-Validate-clause-ran : goal.returns-in-Some-Validate-clause-ran
returns-in-Some-Validate-clause-ran g c =
    let dir = c.in-Some-Validate.dir.now in
    let named : command_of c.args.words.now ≡ Some (Validate dir) = search rules in
    let source = c.run_validate.new.source in
    let told : Told = record {
      files = g.F.Folder.files c.args.folder.now;
      tables = g.P.Keeper.tables c.args._keeper.now;
      tables_after = g.P.Keeper.tables c.args._keeper.now;
      ended = g.S.Source.has_ended source;
      left = g.S.Source.left source;
    } in
    subst (λ (o : Option Command). IfSome o (λ command. Ran command told c.run_validate.result
    (g.S.Source.left c.args.source.now) (g.S.Source.left source) (g.K.Sink.written c.args.sink.now) (g.K.Sink.written c.run_validate.new.sink)))
    (sym named) (c.run_validate.ensures.ran told)
