use Rattle.std.proofs.Common.{◌≡◌, ◌+◌, take, Result, Ok, Err, ap, ◌∙◌, rules}
use Rattle.ocsf_edge.specs.Folder.{body_at}
use Rattle.ocsf_bundle.specs.declared.stored.StoredFile.{StoredFile}
use Rattle.ocsf_tool.specs.declared.folder_error.FolderError.{FolderError}
use Rattle.ocsf_tool.specs.Folders.{IsFile, max_file}
use Rattle.ocsf_tool.specs.FolderParts.{IsMade, IsGot}
use Rattle.ocsf_tool.proofs.FolderReads.{told_by, front_got, err_got}
use Rattle.ocsf_tool.proofs.folder.file_at.Goals as goal

pub returns-in_err-file-clause-file : goal.returns-in_err-file-clause-file
returns-in_err-file-clause-file g c =
    let path = c.args.path.now in
    let dir = c.args.dir.now in
    let bytes = c.in_ok-bytes.bytes in
    let r = c.from_residual-in_err-file.result in
    let made : IsMade (IsFile path bytes) (Err c.in_err-file.field-0.0) = search rules in
    let got : IsGot (IsFile path bytes) r = err_got (IsFile path bytes) c.in_err-file.field-0.0 r c.from_residual-in_err-file.ensures.1 made in
    let place = c.as_bytes.result.now in
    let same : place ≡ path = search rules in
    told_by (λ lying. bytes ≡ take (max_file + 1) (body_at dir place lying)) (λ lying. IsGot (IsFile path (body_at dir path lying)) r)
    (λ lying e. front_got path (body_at dir path lying) bytes r (e ∙ ap (λ p. take (max_file + 1) (body_at dir p lying)) same) got)
    (g.F.Folder.files c.args.folder.now) c.in_ok-bytes.ensures.bytes

pub returns-clause-file : goal.returns-clause-file
returns-clause-file g c =
    let path = c.args.path.now in
    let dir = c.args.dir.now in
    let bytes = c.in_ok-bytes.bytes in
    let r : Result StoredFile FolderError = Ok c.in_ok-file.file in
    let got : IsGot (IsFile path bytes) r = search rules in
    let place = c.as_bytes.result.now in
    let same : place ≡ path = search rules in
    told_by (λ lying. bytes ≡ take (max_file + 1) (body_at dir place lying)) (λ lying. IsGot (IsFile path (body_at dir path lying)) r)
    (λ lying e. front_got path (body_at dir path lying) bytes r (e ∙ ap (λ p. take (max_file + 1) (body_at dir p lying)) same) got)
    (g.F.Folder.files c.args.folder.now) c.in_ok-bytes.ensures.bytes
