use Rattle.std.proofs.Common.{◌≡◌, take}
use Rattle.ocsf_bundle.specs.BundleFaults.{listed_categories}
use Rattle.ocsf_bundle.proofs.numbers.listed_categories.Given as goal

abbrev pub invariant-loop-file : goal.invariant-loop-file
invariant-loop-file l = l.made ≡ listed_categories (take l.file-index l.active)
