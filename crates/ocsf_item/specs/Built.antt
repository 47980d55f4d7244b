-- What building an item gives.
use Rattle.std.specs.Prelude.{◌≡◌, List, Some, ⊤}
use Rattle.ocsf_tree.specs.declared.key.Key.{Key}
use Rattle.ocsf_schema.specs.declared.records.Item.{Item}
use Rattle.ocsf_bundle.specs.Looks.{Looks}
use Rattle.ocsf_bundle.specs.declared.cells.Cell.{Cell}
use Rattle.ocsf_item.specs.declared.build_error.BuildError.{BuildError}
use Rattle.ocsf_item.specs.declared.build_error.BuildError.TheVariants as error
use Rattle.ocsf_rules.specs.ItemFaults.{item_fault}

-- an item with the cells that it reads
pub record BuiltItem : Type 0 where
  pub item : Item
  pub reads : List Cell

-- a fault is the least of the item; want of memory says nothing
abbrev pub IsLeastFault : Looks → Key → BuildError → Type 0
IsLeastFault b k (error.Fault f) = item_fault b k ≡ Some f
IsLeastFault b k error.Memory = ⊤
