-- The derived comparison of cells is their order.
use Rattle.std.proofs.Common.{◌≡◌, refl}
use Rattle.ocsf_tree.proofs.Keys.{key_order}
use Rattle.ocsf_bundle.specs.contracts.cells.CellOrd.TheImpl.{ghosts}
use Rattle.ocsf_bundle.specs.declared.cells.Cell.{Cell}
use Rattle.ocsf_bundle.specs.declared.cells.Cell.TheVariants as cell
use Rattle.ocsf_bundle.specs.CellOrder.{cell_cmp}

pub derived_order : (x y : Cell) → (ghosts).cmp x y ≡ cell_cmp x y
derived_order (cell.Item j) (cell.Item k) = key_order j k
derived_order (cell.Exists j) (cell.Exists k) = key_order j k
derived_order (cell.Patches j) (cell.Patches k) = key_order j k
derived_order (cell.Profile p) (cell.Profile q) = refl
derived_order (cell.Include from path) (cell.Include other_from other_path) = refl
derived_order (cell.Dict name) (cell.Dict other) = refl
derived_order (cell.Kind name) (cell.Kind other) = refl
derived_order (cell.Category c) (cell.Category d) = refl
derived_order (cell.Ext name) (cell.Ext other) = refl
derived_order x y = refl
