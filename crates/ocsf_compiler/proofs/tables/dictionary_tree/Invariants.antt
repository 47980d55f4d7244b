use Rattle.std.proofs.Common.{◌≡◌, map, take}
use Rattle.std.specs.Prelude.{All}
use Rattle.ocsf_tree.specs.Valid.{IsValid}
use Rattle.ocsf_rules.specs.PrintedSchema.{member, entry_tree}
use Rattle.ocsf_compiler.proofs.tables.dictionary_tree.Given as goal

abbrev pub invariant-loop-entry : goal.invariant-loop-entry
invariant-loop-entry l = record {
  made : l.members ≡ map (λ entry. member entry.name (entry_tree entry)) (take l.entry-index l.entries);
  valid : All (λ m. IsValid m.value) l.members;
}
