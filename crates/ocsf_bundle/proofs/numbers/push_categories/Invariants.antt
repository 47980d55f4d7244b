use Rattle.std.proofs.Common.{◌≡◌, ◌++◌, map, take}
use Rattle.ocsf_bundle.specs.BundleFaults.{category_number}
use Rattle.ocsf_bundle.proofs.numbers.push_categories.Given as goal

abbrev pub invariant-loop-entry : goal.invariant-loop-entry
invariant-loop-entry l = l.made ≡ l.initial.made ++ map (category_number l.file) (take l.entry-index l.entries)
