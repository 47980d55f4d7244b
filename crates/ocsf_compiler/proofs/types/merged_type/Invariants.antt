use Rattle.std.proofs.Common.{◌≡◌, take}
use Rattle.ocsf_raw.specs.Ordered.{IsTypeValid}
use Rattle.ocsf_bundle.specs.declared.cells.Cell.TheVariants as cell
use Rattle.ocsf_rules.specs.MergedDictionary.{merged_layers}
use Rattle.ocsf_compiler.proofs.types.merged_type.Given as goal

abbrev pub invariant-loop-k : goal.invariant-loop-k
invariant-loop-k g l = record {
  cell : l.cell ≡ cell.Kind l.name;
  entry : l.entry ≡ merged_layers l.name (take l.k ((g.B.Shows.looks l.bundle).kinds l.name));
  valid : IsTypeValid l.entry;
}
