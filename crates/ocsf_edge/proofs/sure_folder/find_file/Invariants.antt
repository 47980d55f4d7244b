use Rattle.std.proofs.Common.{◌≡◌, drop}
use Rattle.ocsf_edge.specs.Folder.{file_at}
use Rattle.ocsf_edge.proofs.sure_folder.find_file.Given as goal

abbrev pub invariant-loop-file : goal.invariant-loop-file
invariant-loop-file l = file_at l.base l.path (drop l.file-index l.files) ≡ file_at l.base l.path l.files
