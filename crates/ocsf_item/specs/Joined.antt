-- Attributes joined one after another.
use Rattle.std.specs.Prelude.{◌≡◌, List, ◌++◌}
use Rattle.ocsf_tree.specs.declared.fault.Fault.{Fault}
use Rattle.ocsf_tree.specs.LeastFault.{least_from}
use Rattle.ocsf_schema.specs.declared.records.Attr.{Attr}
use Rattle.ocsf_bundle.specs.declared.cells.Cell.{Cell}
use Rattle.ocsf_item.specs.declared.join.Joined.{Joined}

-- those attributes were joined besides, with those cells and those faults
pub record Joins (old new : Joined) (attributes : List Attr) (cells : List Cell) (faults : List Fault) : Type 0 where
  pub attrs : new.attrs ≡ old.attrs ++ attributes
  pub reads : new.reads ≡ old.reads ++ cells
  pub least : new.least ≡ least_from old.least faults
