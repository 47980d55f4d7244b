use Rattle.std.proofs.Common.{◌≡◌, sym, subst, rules}
use Rattle.ocsf_tree.specs.declared.tree.Tree.TheVariants as tree
use Rattle.ocsf_tree.specs.Valid.{IsValid}
use Rattle.ocsf_rules.specs.PrintedSchema.{entry_tree}
use Rattle.ocsf_compiler.proofs.Printed.{entry_valid}
use Rattle.ocsf_compiler.proofs.tables.entry_tree.Goals as goal

pub returns-clause-valid : goal.returns-clause-valid
returns-clause-valid c =
    let is : tree.Members c.put_words-4.new.members ≡ entry_tree c.args.entry.now = search rules in
    subst IsValid (sym is) (entry_valid c.args.entry.now c.requires)
