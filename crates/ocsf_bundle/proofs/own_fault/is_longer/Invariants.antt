use Rattle.std.proofs.Common.{◌≡◌, ◌+◌, length, drop}
use Rattle.std.specs.List.{sum_by}
use Rattle.ocsf_bundle.proofs.own_fault.is_longer.Given as goal

-- the bytes that are left, and those of the files that are left
abbrev pub invariant-loop-file : goal.invariant-loop-file
invariant-loop-file l = l.left + sum_by (λ file. length file.text) l.files ≡ l.limit + sum_by (λ file. length file.text) (drop l.file-index l.files)
