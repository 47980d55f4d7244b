use Rattle.std.proofs.Common.{◌≡◌, take}
use Rattle.std.specs.List.{filter_map}
use Rattle.ocsf_bundle.specs.Active.{active_file}
use Rattle.ocsf_bundle.proofs.active.active_files.Given as goal

abbrev pub invariant-loop-file : goal.invariant-loop-file
invariant-loop-file l = l.made ≡ filter_map (active_file l.files l.enabled) (take l.file-index l.files)
