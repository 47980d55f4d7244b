use Rattle.std.proofs.Common.{◌≡◌, take}
use Rattle.ocsf_edge.specs.Folder.{paths_below}
use Rattle.ocsf_edge.proofs.sure_folder.unsorted_paths.Given as goal

abbrev pub invariant-loop-file : goal.invariant-loop-file
invariant-loop-file l = l.paths.items ≡ paths_below l.base (take l.file-index l.files)
