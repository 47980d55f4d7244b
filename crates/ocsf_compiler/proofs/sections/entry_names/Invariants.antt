use Rattle.std.proofs.Common.{◌≡◌, map, take}
use Rattle.ocsf_tree.specs.declared.tree.Tree.TheVariants as tree
use Rattle.ocsf_compiler.proofs.sections.entry_names.Given as goal

abbrev pub invariant-loop-entry : goal.invariant-loop-entry
invariant-loop-entry l = l.names ≡ map tree.Words (map (λ entry. entry.name) (take l.entry-index l.entries))
