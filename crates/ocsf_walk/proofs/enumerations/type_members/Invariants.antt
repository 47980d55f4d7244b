use Rattle.std.proofs.Common.{◌≡◌, drop, take, map, true}
use Rattle.ocsf_rules.specs.Compiled.{type_member}
use Rattle.ocsf_walk.specs.Ranges.{are_small}
use Rattle.ocsf_walk.proofs.enumerations.type_members.Given as goal

abbrev pub invariant-loop-activity : goal.invariant-loop-activity
invariant-loop-activity l = record {
  made : l.members ≡ map (type_member l.number l.caption) (take l.activity-index l.activities);
  small : are_small (drop l.activity-index l.activities) ≡ true;
}
