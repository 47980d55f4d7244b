use Rattle.std.proofs.Common.{◌≡◌, ℕ, List, IfOk, subst}
use Rattle.ocsf_rules.specs.Compilation.{compilation}
use Rattle.ocsf_rules.specs.PrintedSchema.{schema_parts}
use Rattle.ocsf_compiler.proofs.parts.version_of.Goals as goal

pub returns : goal.returns
unfolding compilation schema_parts
returns c =
    let P : List ℕ → Type 0 = λ v. IfOk c.of.result (λ made. made ≡ v) in
    subst P c.version.ensures c.of.ensures
