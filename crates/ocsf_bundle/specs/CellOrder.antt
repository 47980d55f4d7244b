-- The order of cells.
use Rattle.std.specs.Prelude.{◌≡◌, ℕ}
use Rattle.std.specs.declared.cmp.Ordering.{Ordering}
use Rattle.std.specs.Ordering.{ordering_then, nat_cmp}
use Rattle.ocsf_tree.specs.Key.{key_text}
use Rattle.ocsf_lists.specs.ByName.{text_cmp}
use Rattle.ocsf_bundle.specs.declared.cells.Cell.{Cell}
use Rattle.ocsf_bundle.specs.declared.cells.Cell.TheVariants as cell

-- where the kind of a cell stands among the kinds
abbrev pub cell_kind : Cell → ℕ
cell_kind (cell.Item k) = 0
cell_kind (cell.Exists k) = 1
cell_kind (cell.Patches k) = 2
cell_kind (cell.Profile p) = 3
cell_kind (cell.Include from path) = 4
cell_kind (cell.Dict name) = 5
cell_kind (cell.Kind name) = 6
cell_kind (cell.Category c) = 7
cell_kind (cell.Ext name) = 8

-- cells go by their kind, and those of one kind by their texts' bytes
abbrev pub cell_cmp : Cell → Cell → Ordering
cell_cmp (cell.Item j) (cell.Item k) = text_cmp (key_text j) (key_text k)
cell_cmp (cell.Exists j) (cell.Exists k) = text_cmp (key_text j) (key_text k)
cell_cmp (cell.Patches j) (cell.Patches k) = text_cmp (key_text j) (key_text k)
cell_cmp (cell.Profile p) (cell.Profile q) = text_cmp p q
cell_cmp (cell.Include from path) (cell.Include other_from other_path) =
    ordering_then (text_cmp from other_from) (text_cmp path other_path)
cell_cmp (cell.Dict name) (cell.Dict other) = text_cmp name other
cell_cmp (cell.Kind name) (cell.Kind other) = text_cmp name other
cell_cmp (cell.Category c) (cell.Category d) = text_cmp c d
cell_cmp (cell.Ext name) (cell.Ext other) = text_cmp name other
cell_cmp x y = nat_cmp (cell_kind x) (cell_kind y)

-- cells are compared so
abbrev pub IsCellOrder : (Cell → Cell → Ordering) → Type 0
IsCellOrder cmp = (x y : Cell) → cmp x y ≡ cell_cmp x y
