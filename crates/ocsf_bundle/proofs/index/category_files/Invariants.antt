use Rattle.std.proofs.Common.{◌≡◌, take}
use Rattle.std.specs.List.{filter}
use Rattle.ocsf_bundle.specs.Index.{is_categories}
use Rattle.ocsf_bundle.proofs.index.category_files.Given as goal

abbrev pub invariant-loop-file : goal.invariant-loop-file
invariant-loop-file l = l.made ≡ filter is_categories (take l.file-index l.layered)
