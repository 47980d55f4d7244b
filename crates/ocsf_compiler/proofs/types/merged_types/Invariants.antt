use Rattle.std.proofs.Common.{◌≡◌, map, take}
use Rattle.std.specs.Prelude.{All}
use Rattle.ocsf_raw.specs.Ordered.{IsTypeValid}
use Rattle.ocsf_rules.specs.MergedDictionary.{merged_type}
use Rattle.ocsf_compiler.proofs.types.merged_types.Given as goal

abbrev pub invariant-loop-name : goal.invariant-loop-name
invariant-loop-name g l = record {
  made : l.made ≡ map (merged_type (g.B.Shows.looks l.bundle)) (take l.name-index l.names);
  valid : All IsTypeValid l.made;
}
