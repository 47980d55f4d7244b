use Rattle.std.proofs.Common.{◌≡◌, ◌+◌, ◌++◌, ◌∷◌, [], map, take, Ok, Err, sym, subst, ◌∙◌, rules}
use Rattle.std.specs.Prelude.{All, IfSome}
use Rattle.std.proofs.lemmas.List.Elements.{All-push}
use Rattle.ocsf_edge.specs.Folder.{body_at}
use Rattle.ocsf_bundle.specs.Stored.{stored_path, IsStoredSound, AreFilesSound}
use Rattle.ocsf_tool.specs.Folders.{IsFile, IsFileOf}
use Rattle.ocsf_tool.specs.FolderParts.{IsGot, AreFilesOrFault}
use Rattle.ocsf_tool.proofs.FolderReads.{told, same_got, fault_got, file_there, paths-more}
use Rattle.ocsf_tool.proofs.folder.files_at.Goals as goal

pub returns-in_err-file-clause-files : goal.returns-in_err-file-clause-files
returns-in_err-file-clause-files g c =
    let dir = c.args.dir.now in
    let paths = c.args.paths.now in
    let path = c.path-item.result in
    let files = c.loop-path.files in
    let e = c.in_err-file.field-0.0 in
    let r = c.from_residual-in_err-file.result in
    let now : IfSome (g.F.Folder.files c.args.folder.now) (λ lying. IsGot (IsFile path (body_at dir path lying)) (Err e)) =
    subst (λ o. IfSome o (λ lying. IsGot (IsFile path (body_at dir path lying)) (Err e))) c.loop-path.invariant.same c.in_err-file.ensures.file in
    told (λ lying. All (IsFileOf dir lying) files) (λ lying. IsGot (IsFile path (body_at dir path lying)) (Err e)) (λ lying. IsGot (AreFilesOrFault dir lying paths) r)
    (λ lying each got. same_got (AreFilesOrFault dir lying paths) e r c.from_residual-in_err-file.ensures.1
    (fault_got dir lying paths c.loop-path.path-index path c.loop-path-test.true c.path-item.is files c.loop-path.invariant.paths each e got))
    (g.F.Folder.files c.args.folder.now) c.loop-path.invariant.each now

pub loop-path-preserved : goal.loop-path-preserved
loop-path-preserved g c =
    let dir = c.args.dir.now in
    let paths = c.args.paths.now in
    let path = c.path-item.result in
    let files = c.loop-path.files in
    let file = c.in_ok-file.file in
    let pushed : c.push.new.self ≡ files ++ file ∷ [] = search rules in
    let now : IfSome (g.F.Folder.files c.args.folder.now) (λ lying. IsFile path (body_at dir path lying) (Ok file)) =
    subst (λ o. IfSome o (λ lying. IsFile path (body_at dir path lying) (Ok file))) c.loop-path.invariant.same c.in_ok-file.ensures.file in
    record {
      same = c.in_ok-file.ensures.same ∙ c.loop-path.invariant.same;
      count = search rules;
      paths = subst (λ l. map stored_path l ≡ take (c.loop-path.path-index + 1) paths) (sym pushed)
          (paths-more paths c.loop-path.path-index path c.loop-path-test.true c.path-item.is files c.loop-path.invariant.paths file c.in_ok-file.ensures.path);
      sound = subst AreFilesSound (sym pushed) (All-push IsStoredSound files file c.loop-path.invariant.sound c.in_ok-file.ensures.sound);
      each = subst (λ l. IfSome (g.F.Folder.files c.args.folder.now) (λ lying. All (IsFileOf dir lying) l)) (sym pushed)
          (told (λ lying. All (IsFileOf dir lying) files) (λ lying. IsFile path (body_at dir path lying) (Ok file)) (λ lying. All (IsFileOf dir lying) (files ++ file ∷ []))
          (λ lying each is. All-push (IsFileOf dir lying) files file each (file_there dir lying path file c.in_ok-file.ensures.path is))
          (g.F.Folder.files c.args.folder.now) c.loop-path.invariant.each now);
    }
