use Rattle.std.proofs.Common.{◌∙◌}
use Rattle.ocsf_rules.specs.Compilation.{compilation}
use Rattle.ocsf_rules.specs.PrintedSchema.{schema_parts}
use Rattle.ocsf_compiler.proofs.parts.parts_of.Goals as goal

pub returns-clause-parts : goal.returns-clause-parts
unfolding compilation schema_parts
returns-clause-parts c =
    let kinds = c.in_ok-kinds.ensures.kinds in
    let categories = c.in_ok-sections.ensures.categories in
    let dictionary = c.in_ok-tables.ensures.dictionary in
    let extensions = c.in_ok-sections.ensures.extensions in
    let profiles = c.in_ok-sections.ensures.profiles in
    let types = c.in_ok-tables.ensures.types in
    let version = c.in_ok-version.ensures in
    c.assembled.ensures
    ∙ (λ i. record {
      pieces = c.args.pieces;
      kinds = kinds i;
      categories = categories i;
      dictionary = dictionary i;
      extensions = extensions i;
      profiles = profiles i;
      types = types i;
      version = version i;
    })
