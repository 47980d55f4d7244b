-- What the walk along the files keeps: the table of the layers heard so far, their profiles, the cells read
-- and the least fault.
use Rattle.std.specs.Prelude.{◌≡◌, ℕ, List, ◌++◌}
use Rattle.std.specs.Option.{option_to_list}
use Rattle.ocsf_tree.specs.declared.fault.Fault.{Fault}
use Rattle.ocsf_tree.specs.LeastFault.{least_from}
use Rattle.ocsf_bundle.specs.Looks.{Looks}
use Rattle.ocsf_bundle.specs.declared.cells.Cell.{Cell}
use Rattle.ocsf_bundle.specs.declared.cells.Cell.TheVariants as cell
use Rattle.ocsf_merge.specs.Layers.{Layer}
use Rattle.ocsf_merge.specs.Table.{table_of}
use Rattle.ocsf_walk.specs.declared.walk.Walk.{Walk}
use Rattle.ocsf_rules.specs.Chain.{layer_at}
use Rattle.ocsf_rules.specs.Compiled.{profile_keys}

-- those layers were heard besides, with those cells and those faults
pub record Hears (old new : Walk) (layers : List Layer) (cells : List Cell) (faults : List Fault) : Type 0 where
  pub table : (before : List Layer) → old.table.rows ≡ table_of before → new.table.rows ≡ table_of (before ++ layers)
  pub profiles : new.profiles ≡ old.profiles ++ profile_keys layers
  pub reads : new.reads ≡ old.reads ++ cells
  pub least : new.least ≡ least_from old.least faults

abbrev pub profile_cell : List ℕ → Cell
profile_cell p = cell.Profile p

abbrev pub include_cell : List ℕ → List ℕ → Cell
include_cell ext path = cell.Include ext path

-- the layer that the cell shows, if it shows one
abbrev pub layers_at : Looks → Cell → List Layer
layers_at b x = option_to_list (layer_at b x)
