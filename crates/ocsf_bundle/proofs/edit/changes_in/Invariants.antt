use Rattle.std.proofs.Common.{◌≡◌, take, drop}
use Rattle.std.specs.List.{filter_map}
use Rattle.ocsf_tree.specs.Valid.{IsValidList}
use Rattle.ocsf_bundle.specs.EditContent.{change_of}
use Rattle.ocsf_bundle.proofs.edit.changes_in.Given as goal

-- what the items so far gave, and the rest are valid
abbrev pub invariant-loop-item : goal.invariant-loop-item
invariant-loop-item l = record {
  made : l.made ≡ filter_map change_of (take l.item-index l.items);
  valid : IsValidList (drop l.item-index l.items);
}
