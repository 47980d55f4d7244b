use Rattle.std.proofs.Common.{◌≡◌, ◌+◌, take}
use Rattle.std.specs.List.{filter_map}
use Rattle.ocsf_tree.specs.LeastFault.{least_fault}
use Rattle.ocsf_bundle.specs.FilesLook.{looks}
use Rattle.ocsf_bundle.proofs.Noted.{left_of}
use Rattle.ocsf_rules.specs.ItemFaults.{item_fault}
use Rattle.ocsf_compiler.specs.Building.{sound_item}
use Rattle.ocsf_compiler.proofs.items.found_items.Given as goal

abbrev pub invariant-loop-key : goal.invariant-loop-key
invariant-loop-key g l = record {
  pieces : l.pieces ≡ filter_map (sound_item (looks l.bundle.files l.bundle.enabled)) (take l.key-index l.keys);
  least : left_of (item_fault (looks l.bundle.files l.bundle.enabled)) l.keys l.least l.key-index
      ≡ least_fault (filter_map (item_fault (looks l.bundle.files l.bundle.enabled)) l.keys);
  steps : l.steps ≡ l.fn.steps + l.key-index;
}
