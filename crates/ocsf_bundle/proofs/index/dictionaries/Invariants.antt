use Rattle.std.proofs.Common.{◌≡◌, take}
use Rattle.std.specs.List.{filter}
use Rattle.ocsf_bundle.specs.Index.{is_dictionary}
use Rattle.ocsf_bundle.proofs.index.dictionaries.Given as goal

abbrev pub invariant-loop-file : goal.invariant-loop-file
invariant-loop-file l = l.made ≡ filter is_dictionary (take l.file-index l.layered)
