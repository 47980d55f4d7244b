use Rattle.std.proofs.Common.{◌≡◌, ◌++◌, take}
use Rattle.ocsf_merge.proofs.members.append_clones.Given as goal

abbrev pub invariant-loop-item : goal.invariant-loop-item
invariant-loop-item g l = l.made ≡ l.initial.made ++ take l.item-index l.items
