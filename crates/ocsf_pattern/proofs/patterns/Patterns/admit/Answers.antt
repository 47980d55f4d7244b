use Rattle.std.proofs.Common.{◌≡◌, ◌∙◌, ap, ap₂, sym, refl, subst, rules, string_bytes, String, map, List, ℕ, Bool, true, false, Result, Ok, Err, OnErr}
use Rattle.std.specs.declared.alloc.Global.{Global}
use Rattle.lru.specs.LruCache.{LruCache}
use Rattle.ocsf_pattern.specs.declared.built.Built.{Built}
use Rattle.ocsf_pattern.specs.Readings.{IsGood}
use Rattle.ocsf_pattern.specs.Held.{used, IsBuiltFrom}
use Rattle.ocsf_pattern.proofs.Uses.{Entry, text_of, there, entry_all, promoted_there, promoted_absent, promoted_held}
use Rattle.ocsf_pattern.proofs.patterns.Patterns.admit.Goals as goal

abbrev Holds : Entry Built → Type 0
Holds e = IsBuiltFrom (string_bytes e.0) e.1

good_of_built : (text : List ℕ) (b : Built) → IsBuiltFrom text b → IsGood text
good_of_built text b built = (b.finder.program.hir, built.1.0, built.1.1)

on_err : {A E : Type 0} {P : Type 0} (r : Result A E) → P → OnErr r P
on_err (Ok x) p = tt
on_err (Err e) p = p

pub invariant_of-self : goal.invariant_of-self
invariant_of-self c = promoted_held Holds c.args.text.now c.self.inside.cache c.promote.new.self c.self.invariant c.promote.ensures.entries c.promote.result (sym c.promote.ensures.value)

pub returns-then-promote-clause-good : goal.returns-then-promote-clause-good
returns-then-promote-clause-good c =
    let at = sym c.promote.ensures.value ∙ c.if-promote.true in
    let f = there c.args.text.now c.self.inside.cache.entries at in
    let built : Holds f.0 = (rw f.1 at (entry_all c.args.text.now Holds c.self.inside.cache.entries c.self.invariant.2)) in
    good_of_built c.args.text.now f.0.1 (subst (λ (t : List ℕ). IsBuiltFrom t f.0.1) f.2 built)

pub returns-then-promote-clause-kept : goal.returns-then-promote-clause-kept
returns-then-promote-clause-kept c =
    let at = sym c.promote.ensures.value ∙ c.if-promote.true in
    (promoted_there Holds c.args.text.now c.self.inside.cache c.promote.new.self c.self.invariant c.promote.ensures.entries at).0
    ∙ ap (used c.args.text.now) c.self.view_is

pub invariant_of-self-in_err-built : goal.invariant_of-self-in_err-built
invariant_of-self-in_err-built c = promoted_held Holds c.args.text.now c.self.inside.cache c.promote.new.self c.self.invariant c.promote.ensures.entries c.promote.result (sym c.promote.ensures.value)

pub returns-in_err-built-clause-same : goal.returns-in_err-built-clause-same
returns-in_err-built-clause-same c =
    let at = sym c.promote.ensures.value ∙ c.if-promote.false in
    let same = promoted_absent Holds c.args.text.now c.self.inside.cache c.promote.new.self c.self.invariant c.promote.ensures.entries at in
    on_err c.from_residual.result (ap (λ (h : LruCache (String Global) Built). map text_of h.entries) same ∙ c.self.view_is)

pub invariant_of-self-2 : goal.invariant_of-self-2
invariant_of-self-2 c = promoted_held Holds c.args.text.now c.self.inside.cache c.promote.new.self c.self.invariant c.promote.ensures.entries c.promote.result (sym c.promote.ensures.value)

pub returns-in-Ok-clause-kept : goal.returns-in-Ok-clause-kept
returns-in-Ok-clause-kept c =
    let at = sym c.promote.ensures.value ∙ c.if-promote.false in
    let same = promoted_absent Holds c.args.text.now c.self.inside.cache c.promote.new.self c.self.invariant c.promote.ensures.entries at in
    c.in-Ok.ensures.kept ∙ ap (used c.args.text.now) (ap (λ (h : LruCache (String Global) Built). map text_of h.entries) same ∙ c.self.view_is)

pub returns-in-Err-clause-same : goal.returns-in-Err-clause-same
returns-in-Err-clause-same c =
    let at = sym c.promote.ensures.value ∙ c.if-promote.false in
    let same = promoted_absent Holds c.args.text.now c.self.inside.cache c.promote.new.self c.self.invariant c.promote.ensures.entries at in
    c.in-Err.ensures.same ∙ (ap (λ (h : LruCache (String Global) Built). map text_of h.entries) same ∙ c.self.view_is)
