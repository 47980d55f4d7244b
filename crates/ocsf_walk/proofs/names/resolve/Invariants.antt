use Rattle.std.proofs.Common.{◌≡◌, ◌++◌, drop}
use Rattle.ocsf_rules.specs.Names.{found, tried}
use Rattle.ocsf_walk.proofs.names.resolve.Given as goal

abbrev pub invariant-loop-cell : goal.invariant-loop-cell
invariant-loop-cell g l =
    let b = g.B.Shows.looks l.bundle in
    record {
      found : found b (drop l.cell-index l.cells) ≡ found b l.cells;
      reads : l.reads ++ tried b (drop l.cell-index l.cells) ≡ l.fn.reads ++ tried b l.cells;
    }
