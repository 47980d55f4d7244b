use Rattle.std.proofs.Common.{◌≡◌, ◌∙◌, ap, sym, subst, string_bytes, List, ℕ, is_some, Some, Result, Ok, Err, OnErr, String}
use Rattle.std.specs.declared.alloc.Global.{Global}
use Rattle.std.specs.Map.{lookup, set_value}
use Rattle.lru.specs.LruCache.{LruCache, lru_cache}
use Rattle.ocsf_pattern.specs.declared.built.Built.{Built}
use Rattle.ocsf_pattern.specs.Held.{used, IsBuiltFrom}
use Rattle.ocsf_pattern.proofs.Uses.{Entry, IsHeldBy, is_text, found_all, promoted_there, promoted_held, written_texts, written_there, written_held}
use Rattle.ocsf_pattern.proofs.patterns.Patterns.matches.Goals as goal

abbrev Holds : Entry Built → Type 0
Holds e = IsBuiltFrom (string_bytes e.0) e.1

on_err : {A E : Type 0} {P : Type 0} (r : Result A E) → P → OnErr r P
on_err (Ok x) p = tt
on_err (Err e) p = p

module _ (text : List ℕ) (cache : LruCache (String Global) Built) (held : IsHeldBy Holds cache) (b : Built)
    (at : Some b ≡ lookup (is_text text) cache.entries) where
  -- what is there under the text is built from it
  built_there : IsBuiltFrom text b
  built_there =
      let f = found_all Holds text cache.entries held.2 b at in
      subst (λ t. IsBuiltFrom t b) f.2 (subst (λ (b : Built). IsBuiltFrom (string_bytes f.0.0) b) f.1 f.3)

  -- a search writes what it learns in its place
  held_after : (new : Built) → ((t : List ℕ) → IsBuiltFrom t b → IsBuiltFrom t new) →
      IsHeldBy Holds (lru_cache (set_value (is_text text) cache.entries new) cache.cap)
  held_after new same =
      written_held text new Holds (λ e key. subst (λ t. IsBuiltFrom t new) (sym key) (same text built_there)) cache held

pub invariant_of-self : goal.invariant_of-self
invariant_of-self c =
    held_after c.args.text.now c.self.inside.cache c.self.invariant c.in-Some.built.now c.in-Some.ensures.value
    c.search.new.self c.search.ensures.same

pub returns-in_err-found-clause-same : goal.returns-in_err-found-clause-same
returns-in_err-found-clause-same c =
    on_err c.from_residual.result (written_texts c.args.text.now c.search.new.self c.self.inside.cache.entries ∙ c.self.view_is)

pub invariant_of-self-in-Some : goal.invariant_of-self-in-Some
invariant_of-self-in-Some c =
    let held = held_after c.args.text.now c.self.inside.cache c.self.invariant c.in-Some.built.now c.in-Some.ensures.value
    c.search.new.self c.search.ensures.same in
    promoted_held Holds c.args.text.now _ c.promote.new.self held c.promote.ensures.entries c.promote.result
    (sym c.promote.ensures.value)

pub returns-in-Some-clause-found : goal.returns-in-Some-clause-found
returns-in-Some-clause-found c =
    c.in_ok-found.ensures.found c.args.text.now
    (built_there c.args.text.now c.self.inside.cache c.self.invariant c.in-Some.built.now c.in-Some.ensures.value)

pub returns-in-Some-clause-kept : goal.returns-in-Some-clause-kept
returns-in-Some-clause-kept c =
    let text = c.args.text.now in
    let entries = c.self.inside.cache.entries in
    let held = held_after text c.self.inside.cache c.self.invariant c.in-Some.built.now c.in-Some.ensures.value
    c.search.new.self c.search.ensures.same in
    (promoted_there Holds text _ c.promote.new.self held c.promote.ensures.entries
    (written_there text c.search.new.self entries ∙ ap is_some (sym c.in-Some.ensures.value))).0
    ∙ ap (used text) (written_texts text c.search.new.self entries ∙ c.self.view_is)

pub keep-requires : goal.keep-requires
keep-requires c = c.search-2.ensures.same c.args.text.now c.in-Ok.ensures.built
