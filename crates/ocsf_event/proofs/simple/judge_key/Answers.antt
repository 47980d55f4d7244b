use Rattle.std.proofs.Common.{◌≡◌, ◌≢◌, true≢false, List, [], Some, sym, ap, ◌∙◌, subst, rules}
use Rattle.std.specs.Fmt.{signed_decimal}
use Rattle.ocsf_tree.specs.declared.attribute.EnumMember.{EnumMember}
use Rattle.ocsf_tree.specs.declared.tree.Tree.{out-Tree, the_lemmas}
use Rattle.ocsf_tree.specs.declared.tree.Tree.TheOpen.{Tree-F}
use Rattle.ocsf_event_rules.specs.Conditions.{enum_key, key_in}
use Rattle.ocsf_event.specs.Noted.{Noted}
use Rattle.ocsf_event.specs.Walk.{IsStrange}
use Rattle.ocsf_event.proofs.GainedParts.{on_ok}
use Rattle.ocsf_event.proofs.Kinded.{gains_word}
use Rattle.ocsf_event.proofs.Noted.{noted_by}
use Rattle.ocsf_event.proofs.simple.judge_key.Goals as goal

pub returns-in-Whole : goal.returns-in-Whole
returns-in-Whole c =
    let some : c.args.attr.now.members ≢ [] = λ none. true≢false (sym (c.is_empty.ensures.1 none) ∙ c.if-is_empty.false) in
    let shown : out-Tree c.args.value.now ≡ Tree-F.Whole c.in-Whole.whole = search (rules, the_lemmas) in
    let told : c.format.result.now ≡ signed_decimal c.in-Whole.whole = search rules in
    let is : enum_key c.args.value.now ≡ Some c.format.result.now = ap key_in shown ∙ ap Some (sym told) in
    on_ok c.judge_word.result c.judge_word.ensures
    (λ n. noted_by (λ g. gains_word c.args.attr.now c.args.value.now c.args.notes.now.place.items _ _ c.format.result.now some is g)
    (subst (λ (members : List EnumMember). Noted (IsStrange members c.format.result.now) c.args.notes.now c.judge_word.new.notes) c.as_slice-members.ensures n))

pub returns-in-Words : goal.returns-in-Words
returns-in-Words c =
    let some : c.args.attr.now.members ≢ [] = λ none. true≢false (sym (c.is_empty.ensures.1 none) ∙ c.if-is_empty.false) in
    let shown : out-Tree c.args.value.now ≡ Tree-F.Words c.in-Words.text = search (rules, the_lemmas) in
    let is : enum_key c.args.value.now ≡ Some c.as_str.result.now = ap key_in shown ∙ ap Some (sym c.as_str.ensures) in
    on_ok c.judge_word-in-Words.result c.judge_word-in-Words.ensures
    (λ n. noted_by (λ g. gains_word c.args.attr.now c.args.value.now c.args.notes.now.place.items _ _ c.as_str.result.now some is g)
    (subst (λ (members : List EnumMember). Noted (IsStrange members c.as_str.result.now) c.args.notes.now c.judge_word-in-Words.new.notes) c.as_slice-members.ensures n))
