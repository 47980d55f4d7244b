use Rattle.std.proofs.Common.{◌≡◌, ℕ, List, IfOk, sym, subst, rules}
use Rattle.ocsf_lists.specs.ByName.{IsByName}
use Rattle.ocsf_bundle.specs.FilesLook.{looks}
use Rattle.ocsf_bundle.specs.Listing.{listing}
use Rattle.ocsf_rules.specs.Compilation.{compilation}
use Rattle.ocsf_rules.specs.PrintedSchema.{schema_parts}
use Rattle.ocsf_compiler.specs.declared.sections.Section.TheVariants as section
use Rattle.ocsf_compiler.specs.Sections.{section_tree}
use Rattle.ocsf_compiler.proofs.Listed.{profiles_by_name}
use Rattle.ocsf_compiler.proofs.parts.profiles_of.Goals as goal

pub section_tree-requires : goal.section_tree-requires
section_tree-requires c =
    let is : c.as_slice.result.now ≡ (listing c.args.bundle.now).profiles = search rules in
    let P : List (List ℕ) → Type 0 = λ l. IsByName (λ n. n) l in
    subst P (sym is) (profiles_by_name c.args.bundle.now)

pub returns-clause-tree : goal.returns-clause-tree
unfolding compilation schema_parts
returns-clause-tree c =
    let bundle = c.args.bundle.now in
    let is : c.as_slice.result.now ≡ (listing bundle).profiles = search rules in
    let P : List (List ℕ) → Type 0 = λ l. IfOk c.section_tree.result (λ made. made ≡ section_tree section.Profiles (looks bundle.files bundle.enabled) l) in
    subst P is c.section_tree.ensures.tree
