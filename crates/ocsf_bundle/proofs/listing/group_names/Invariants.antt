use Rattle.std.proofs.Common.{◌≡◌, map, take}
use Rattle.ocsf_bundle.specs.Groups.{group_name}
use Rattle.ocsf_bundle.proofs.listing.group_names.Given as goal

abbrev pub invariant-loop-group : goal.invariant-loop-group
invariant-loop-group l = l.made ≡ map group_name (take l.group-index l.groups)
