use Rattle.std.proofs.Common.{◌≡◌, ◌+◌, ◌++◌, length}
use Rattle.ocsf_merge.specs.Fold.{merged_members}
use Rattle.ocsf_merge.proofs.members.merged_members.Given as goal

abbrev pub invariant-loop-adds : goal.invariant-loop-adds
invariant-loop-adds l = l.made ++ merged_members l.adds l.olds ≡ merged_members l.new l.old

abbrev pub decreases-loop-adds : goal.decreases-loop-adds
decreases-loop-adds l = length l.adds + length l.olds
