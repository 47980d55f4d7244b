use Rattle.std.proofs.Common.{List, map, ap, ◌∙◌}
use Rattle.ocsf_tree.specs.declared.tree.Tree.TheVariants as tree
use Rattle.ocsf_raw.specs.declared.dictionary.TypeEntry.{TypeEntry}
use Rattle.ocsf_rules.specs.Compilation.{compilation}
use Rattle.ocsf_rules.specs.PrintedSchema.{schema_parts, member, type_tree}
use Rattle.ocsf_compiler.proofs.parts.tables_of.Goals as goal

pub returns-clause-types : goal.returns-clause-types
unfolding compilation schema_parts
returns-clause-types c =
    c.in_ok-types.ensures.tree ∙ ap (λ (l : List TypeEntry). tree.Members (map (λ entry. member entry.name (type_tree entry)) l)) c.requires.types
