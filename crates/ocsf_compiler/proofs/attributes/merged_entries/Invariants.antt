use Rattle.std.proofs.Common.{◌≡◌, map, take}
use Rattle.ocsf_rules.specs.MergedDictionary.{merged_entry}
use Rattle.ocsf_compiler.proofs.attributes.merged_entries.Given as goal

abbrev pub invariant-loop-name : goal.invariant-loop-name
invariant-loop-name g l = l.made ≡ map (merged_entry (g.B.Shows.looks l.bundle)) (take l.name-index l.names)
