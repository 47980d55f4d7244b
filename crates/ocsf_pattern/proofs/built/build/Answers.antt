use Rattle.std.proofs.Common.{◌≡◌, ◌<◌, ◌⊎◌, Option, Some, None, refl, inl, inr}
use Rattle.std.specs.Prelude.{IfSome, IsSomeAnd, chars}
use Rattle.regex.specs.Patterns.{Re, Refuses, default_config}
use Rattle.regex_syntax.specs.Grammar.{Names, read}
use Rattle.regex_syntax.specs.Brackets.{Nested}
use Rattle.ocsf_pattern.proofs.built.build.Goals as goal

none_or_deep : {X : Type 0} (o : Option X) (P : X → Type 0) → IfSome o P → (o ≡ None) ⊎ IsSomeAnd o P
none_or_deep None P deep = inl refl
none_or_deep (Some x) P deep = inr deep

pub returns-in-Err-Syntax-clause-refused : goal.returns-in-Err-Syntax-clause-refused
unfolding Refuses
returns-in-Err-Syntax-clause-refused c = λ _.
    let error = c.in-Err-Syntax.field-0-0 in
    elim (c.in-Err-Syntax.ensures.by_grammar error c.in-Err-Syntax.field-0-is) [
      | inl memory ↦ absurd ((rw c.in-Err-Syntax.field-0-is at c.in-Err-Syntax.ensures.kind) memory)
      | inr rest ↦ elim rest [
        | inl none ↦ inl none
        | inr deep ↦ none_or_deep (read default_config (chars c.args.text.now)) _ deep.1
      ]
    ]
