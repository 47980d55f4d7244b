use Rattle.std.proofs.Common.{◌+◌, ◌∷◌, ◌++◌, take, drop, sym, ap, subst, ◌∙◌, rules, arith}
use Rattle.std.specs.Prelude.{All}
use Rattle.std.proofs.lemmas.List.{take_all, take-append-drop, at_drop_more}
use Rattle.std.proofs.lemmas.List.Elements.{All-more}
use Rattle.ocsf_rules.specs.Verdict.{HasReadPattern}
use Rattle.ocsf_compiler.proofs.patterns.pattern_fault.Goals as goal

pub loop-entry-preserved : goal.loop-entry-preserved
loop-entry-preserved c =
    let types = c.args.types.now in
    let entry = c.entry-item.result in
    let read : HasReadPattern entry = c.in_ok-has_admitted_pattern.ensures.read (search rules) in
    All-more HasReadPattern types c.loop-entry.entry-index entry c.loop-entry-test.true c.loop-entry.invariant
    (subst HasReadPattern c.entry-item.is read)

pub returns-then-not-branch : goal.returns-then-not-branch
returns-then-not-branch c =
    let types = c.args.types.now in
    let entry = c.entry-item.result in
    let i = c.loop-entry.entry-index in
    record {
      before = take i types;
      entry = entry;
      after = drop (i + 1) types;
      listed = sym (take-append-drop i types) ∙ ap (λ l. take i types ++ l) (at_drop_more (λ l. l) types i entry c.loop-entry-test.true ∙ ap (λ x. x ∷ drop (i + 1) types) (sym c.entry-item.is));
      read = c.loop-entry.invariant;
      pattern = c.in_ok-has_admitted_pattern.ensures.refused (search rules);
      named = search rules;
    }

pub returns : goal.returns
returns c = subst (All HasReadPattern) (take_all c.loop-entry.entry-index c.args.types.now (omega arith)) c.loop-entry.invariant
