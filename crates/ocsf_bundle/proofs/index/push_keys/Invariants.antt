use Rattle.std.proofs.Common.{◌≡◌, ◌++◌, take}
use Rattle.ocsf_bundle.specs.Index.{group_keys}
use Rattle.ocsf_bundle.proofs.index.push_keys.Given as goal

abbrev pub invariant-loop-group : goal.invariant-loop-group
invariant-loop-group l = l.keys ≡ l.fn.keys ++ group_keys l.side (take l.group-index l.groups)
