use Rattle.std.proofs.Common.{◌≡◌, ◌++◌, map}
use Rattle.ocsf_bundle.specs.NamedMap.{values_in}
use Rattle.ocsf_bundle.proofs.named_map.values_in.Given as goal

abbrev pub invariant-loop-item : goal.invariant-loop-item
invariant-loop-item g l = l.made ++ map (λ e. e.1) l.item-iterator ≡ values_in l.fn.items
