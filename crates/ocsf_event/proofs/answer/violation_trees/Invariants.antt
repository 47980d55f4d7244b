use Rattle.std.proofs.Common.{◌≡◌, map, take}
use Rattle.ocsf_event.specs.Answer.{violation_tree}
use Rattle.ocsf_event.specs.Code.{told_violation}
use Rattle.ocsf_event.proofs.answer.violation_trees.Given as goal

abbrev pub invariant-loop-violation : goal.invariant-loop-violation
invariant-loop-violation l = l.made ≡ map violation_tree (map told_violation (take l.violation-index l.report))
