use Rattle.std.proofs.Common.{◌≡◌, ℕ, List, take, Option, unwrap_or, sym, ap, subst, ◌∙◌, arith}
use Rattle.std.specs.Option.{IfSome}
use Rattle.std.specs.BTreeMap.{get}
use Rattle.std.proofs.lemmas.List.{take_all}
use Rattle.ocsf_lists.specs.ByName.{text_cmp, IsByName}
use Rattle.ocsf_bundle.specs.After.{said_of, name_said, stands_after}
use Rattle.ocsf_bundle.specs.NamedMap.{values_in}
use Rattle.ocsf_bundle.proofs.NamedMaps.{HoldsNames, IsByName-values, at_name-values}
use Rattle.ocsf_bundle.proofs.Afters.{names_own, stands-more, stands-own, all_after-is}
use Rattle.ocsf_bundle.proofs.draft.enabled_after.Goals as goal
use Rattle.ocsf_bundle.proofs.draft.enabled_after.Goals.{In_ok-enabled-2}

abbrev same : List ℕ → List ℕ
same name = name

pub loop-change-preserved : goal.loop-change-preserved
loop-change-preserved c q =
    c.in_ok-change_enabled.ensures q
    ∙ ap (unwrap_or (said_of same name_said q c.change-item.result)) (c.loop-change.invariant q)
    ∙ sym (stands-more same name_said names_own c.args.old.now c.args.changes.now c.loop-change.change-index c.change-item.result c.loop-change-test.true c.change-item.is q)

stands : (c : In_ok-enabled-2) → (q : List ℕ) → get text_cmp c.loop-change.enabled q ≡ stands_after same name_said c.args.old.now c.args.changes.now q
stands c q =
    let all : take c.loop-change.change-index c.args.changes.now ≡ c.args.changes.now = take_all c.loop-change.change-index c.args.changes.now (omega arith) in
    c.loop-change.invariant q ∙ ap (λ l. stands_after same name_said c.args.old.now l q) all

own : (c : In_ok-enabled-2) → HoldsNames same c.loop-change.enabled
own c q =
    let P : Option (List ℕ) → Type 0 = λ o. IfSome o (λ x. x ≡ q) in
    subst P (sym (stands c q)) (stands-own same name_said names_own c.args.old.now c.args.changes.now q)

pub returns-clause-after : goal.returns-clause-after
returns-clause-after c =
    let m = c.loop-change.enabled in
    let up = IsByName-values same m c.in_ok-enabled-2.ensures.ordered (own c) in
    c.in_ok-enabled-2.ensures.values
    ∙ all_after-is same name_said names_own c.args.old.now c.args.changes.now (values_in m) up
    (λ q. at_name-values same m c.in_ok-enabled-2.ensures.ordered (own c) q ∙ stands c q)

pub returns-clause-by_name : goal.returns-clause-by_name
returns-clause-by_name c =
    let P : List (List ℕ) → Type 0 = λ l. IsByName same l in
    subst P (sym c.in_ok-enabled-2.ensures.values) (IsByName-values same c.loop-change.enabled c.in_ok-enabled-2.ensures.ordered (own c))
