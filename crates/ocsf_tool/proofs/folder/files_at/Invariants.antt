use Rattle.std.proofs.Common.{◌≡◌, map, take}
use Rattle.std.specs.Prelude.{All, IfSome}
use Rattle.ocsf_bundle.specs.Stored.{stored_path, AreFilesSound}
use Rattle.ocsf_tool.specs.Folders.{IsFileOf}
use Rattle.ocsf_tool.proofs.folder.files_at.Given as goal

abbrev pub invariant-loop-path : goal.invariant-loop-path
invariant-loop-path g l = record {
  same : g.F.Folder.files l.folder ≡ g.F.Folder.files l.fn.folder;
  count : g.F.Folder.folder_faults l.folder ≡ g.F.Folder.folder_faults l.fn.folder;
  paths : map stored_path l.files ≡ take l.path-index l.paths;
  sound : AreFilesSound l.files;
  each : IfSome (g.F.Folder.files l.fn.folder) (λ lying. All (IsFileOf l.dir lying) l.files);
}
