use Rattle.std.proofs.Common.{◌≡◌, ℕ, List, take}
use Rattle.std.specs.BTreeMap.{get}
use Rattle.ocsf_lists.specs.ByName.{at_name, text_cmp}
use Rattle.ocsf_bundle.proofs.named_map.map_of.Given as goal

abbrev pub invariant-loop-item : goal.invariant-loop-item
invariant-loop-item g l = (q : List ℕ) → get text_cmp l.made q ≡ at_name g.T.Named.name_of q (take l.item-index l.items)
