use Rattle.std.proofs.Common.{◌≡◌, ℕ, List, IfOk, subst}
use Rattle.ocsf_bundle.specs.FilesLook.{looks}
use Rattle.ocsf_rules.specs.Compilation.{compilation}
use Rattle.ocsf_rules.specs.PrintedSchema.{schema_parts}
use Rattle.ocsf_compiler.specs.declared.sections.Section.TheVariants as section
use Rattle.ocsf_compiler.specs.Sections.{section_tree}
use Rattle.ocsf_compiler.proofs.parts.extensions_of.Goals as goal

pub returns-clause-tree : goal.returns-clause-tree
unfolding compilation schema_parts
returns-clause-tree c =
    let bundle = c.args.bundle.now in
    let P : List (List ℕ) → Type 0 = λ l. IfOk c.section_tree.result (λ made. made ≡ section_tree section.Extensions (looks bundle.files bundle.enabled) l) in
    subst P c.enabled.ensures.enabled c.section_tree.ensures.tree
