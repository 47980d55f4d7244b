use Rattle.std.proofs.Common.{◌≡◌, ◌∙◌, ap, ap₂, sym, refl, subst, rules, string_bytes, String, map, List, ℕ}
use Rattle.ocsf_pattern.specs.declared.built.Built.{Built}
use Rattle.ocsf_pattern.specs.Held.{used, IsBuiltFrom}
use Rattle.ocsf_pattern.proofs.Uses.{Entry, held_after, texts_after}
use Rattle.ocsf_pattern.proofs.patterns.Patterns.keep.Goals as goal

abbrev Holds : Entry Built → Type 0
Holds e = IsBuiltFrom (string_bytes e.0) e.1

moved : (r : Built) (text other : List ℕ) → IsBuiltFrom text r → other ≡ text → IsBuiltFrom other r
moved r text other built same = subst (λ t. IsBuiltFrom t r) (sym same) built

pub invariant_of-self : goal.invariant_of-self
invariant_of-self c =
    held_after Holds c.in_ok-key.key c.args.built c.self.inside.cache c.put.new.self c.self.invariant
    (moved c.args.built c.args.text.now _ c.requires c.in_ok-key.ensures.ok)
    (λ e same h. moved c.args.built c.args.text.now (string_bytes e.0) c.requires (same ∙ c.in_ok-key.ensures.ok))
    c.put.result c.put.ensures.entries c.put.ensures.err

pub invariant_of-self-2 : goal.invariant_of-self-2
invariant_of-self-2 c =
    held_after Holds c.in_ok-key.key c.args.built c.self.inside.cache c.put.new.self c.self.invariant
    (moved c.args.built c.args.text.now _ c.requires c.in_ok-key.ensures.ok)
    (λ e same h. moved c.args.built c.args.text.now (string_bytes e.0) c.requires (same ∙ c.in_ok-key.ensures.ok))
    c.put.result c.put.ensures.entries c.put.ensures.err

pub returns-in-Ok-clause-kept : goal.returns-in-Ok-clause-kept
returns-in-Ok-clause-kept c =
    texts_after Holds c.in_ok-key.key c.args.built c.self.inside.cache c.put.new.self c.self.invariant
    (moved c.args.built c.args.text.now _ c.requires c.in_ok-key.ensures.ok)
    (λ e same h. moved c.args.built c.args.text.now (string_bytes e.0) c.requires (same ∙ c.in_ok-key.ensures.ok))
    c.in-Ok.ensures.entries ∙ ap₂ used c.in_ok-key.ensures.ok c.self.view_is
