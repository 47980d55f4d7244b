use Rattle.std.proofs.Common.{◌≡◌, ◌++◌, map}
use Rattle.ocsf_bundle.specs.Groups.{entry_group, groups_in}
use Rattle.ocsf_bundle.proofs.groups.groups_in.Given as goal

abbrev pub invariant-loop-name : goal.invariant-loop-name
invariant-loop-name l = l.made ++ map entry_group l.name-iterator ≡ groups_in l.fn.map
