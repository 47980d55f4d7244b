use Rattle.std.proofs.Common.{◌≡◌, take}
use Rattle.ocsf_bundle.specs.declared.cells.Cell.TheVariants.{Dict}
use Rattle.ocsf_rules.specs.Attribute.{dict_said}
use Rattle.ocsf_rules.specs.MergedDictionary.{entry_said}
use Rattle.ocsf_compiler.proofs.attributes.merged_entry.Given as goal

abbrev pub invariant-loop-k : goal.invariant-loop-k
invariant-loop-k g l = record {
  cell : l.cell ≡ Dict l.name;
  entry : l.entry ≡ entry_said l.name (dict_said (take l.k ((g.B.Shows.looks l.bundle).dict l.name)));
}
