-- Types as the code lends them, and the cells that the code asks.
use Rattle.std.specs.Prelude.{ℕ, List}
use Rattle.ocsf_tree.specs.declared.key.Key.{Key}
use Rattle.ocsf_schema.specs.declared.records.Target.{Target}
use Rattle.ocsf_schema.specs.declared.records.Target.TheVariants as target
use Rattle.ocsf_bundle.specs.declared.cells.Cell.{Cell}
use Rattle.ocsf_bundle.specs.declared.cells.Cell.TheVariants as cell
use Rattle.ocsf_walk.specs.declared.targets.TypeLent.{TypeLent}
use Rattle.ocsf_rules.specs.declared.said.TypeSaid.{TypeSaid}

abbrev pub type_lent : TypeLent → TypeSaid
type_lent t = record { name = t.name.now; from = t.from.now }

abbrev pub kind_cell : List ℕ → Cell
kind_cell t = cell.Kind t

abbrev pub category_cell : List ℕ → Cell
category_cell c = cell.Category c

abbrev pub ext_cell : List ℕ → Cell
ext_cell e = cell.Ext e

abbrev pub item_cell : Key → Cell
item_cell k = cell.Item k

abbrev pub object_target : List ℕ → Target
object_target name = target.Object name
