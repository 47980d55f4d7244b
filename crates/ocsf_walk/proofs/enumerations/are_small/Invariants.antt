use Rattle.std.proofs.Common.{◌≡◌, drop}
use Rattle.ocsf_walk.specs.Ranges.{are_small}
use Rattle.ocsf_walk.proofs.enumerations.are_small.Given as goal

abbrev pub invariant-loop-activity : goal.invariant-loop-activity
invariant-loop-activity l = are_small (drop l.activity-index l.activities) ≡ are_small l.activities
