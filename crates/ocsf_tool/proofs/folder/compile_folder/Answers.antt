use Rattle.std.proofs.Common.{Some, Ok, Err, rules}
use Rattle.ocsf_rules.specs.Verdict.{IsVerdict}
use Rattle.ocsf_tool.specs.Folders.{IsCompiled}
use Rattle.ocsf_tool.specs.FolderParts.{IsBundleOf}
use Rattle.ocsf_tool.proofs.FolderReads.{told_by, refused, printed}
use Rattle.ocsf_tool.proofs.folder.compile_folder.Goals as goal

pub returns-in-Ok-clause-schema : goal.returns-in-Ok-clause-schema
returns-in-Ok-clause-schema g c =
    let dir = c.args.dir.now in
    let bundle = c.in_ok-bundle.bundle in
    let schema = c.in-Ok.schema in
    told_by (λ lying. IsBundleOf dir lying bundle) (λ lying. IsCompiled dir lying (Ok schema))
    (λ lying of. printed dir lying bundle schema of c.in-Ok.ensures.clean c.in-Ok.ensures.schema)
    (g.F.Folder.files c.args.folder.now) c.in_ok-bundle.ensures.bundle

pub returns-in-Err-Fault-clause-schema : goal.returns-in-Err-Fault-clause-schema
returns-in-Err-Fault-clause-schema g c =
    let dir = c.args.dir.now in
    let bundle = c.in_ok-bundle.bundle in
    let fault = c.in-Err-Fault.fault in
    let verdict : IsVerdict bundle (Some fault) = search rules in
    told_by (λ lying. IsBundleOf dir lying bundle) (λ lying. IsCompiled dir lying (Err fault))
    (λ lying of. refused dir lying bundle fault of verdict)
    (g.F.Folder.files c.args.folder.now) c.in_ok-bundle.ensures.bundle
