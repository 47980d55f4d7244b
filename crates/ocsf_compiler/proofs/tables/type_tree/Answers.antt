use Rattle.std.proofs.Common.{◌≡◌, ◌<◌, ◌^◌, IfSome, sym, subst, arith, rules}
use Rattle.std.proofs.lemmas.Grind.{common_steps}
use Rattle.ocsf_tree.specs.declared.tree.Tree.TheVariants as tree
use Rattle.ocsf_tree.specs.Valid.{IsValid}
use Rattle.ocsf_rules.specs.PrintedSchema.{type_tree}
use Rattle.ocsf_compiler.proofs.Printed.{type_valid}
use Rattle.ocsf_compiler.proofs.tables.type_tree.Goals as goal

pub returns-clause-valid : goal.returns-clause-valid
returns-clause-valid c =
    let is : tree.Members c.put_field-3.new.members ≡ type_tree c.args.entry.now = grind (arith, common_steps) in
    let fits : IfSome c.args.entry.now.max_len (λ n. n < 2 ^ 64) = search rules in
    subst IsValid (sym is) (type_valid c.args.entry.now c.requires fits)
