use Rattle.std.proofs.Common.{◌≡◌, take}
use Rattle.ocsf_bundle.specs.BundleFaults.{extension_numbers}
use Rattle.ocsf_bundle.proofs.numbers.extension_numbers.Given as goal

abbrev pub invariant-loop-file : goal.invariant-loop-file
invariant-loop-file l = l.made ≡ extension_numbers (take l.file-index l.active)
