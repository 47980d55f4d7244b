use Rattle.std.proofs.Common.{◌≡◌, [], ◌∷◌, ◌++◌, List, ℕ, true, sym, subst, ap, ◌∙◌}
use Rattle.ocsf_schema.specs.declared.records.Item.{Item}
use Rattle.ocsf_schema.specs.Joining.{separator, label, item_text, HoldsItems}
use Rattle.ocsf_schema.specs.Print.{fragment}
use Rattle.ocsf_schema.proofs.JoinedItems.{added, labelled}
use Rattle.ocsf_schema.proofs.printing.push_piece.Goals as goal

pub returns : goal.returns
returns c = λ before items h.
    let out = c.args.out.now in
    let later = c.args.is_later.now in
    let item = c.args.piece.now in
    let same = rw c.item.ensures.item at c.is_same_side.ensures in
    let named : c.in_ok-label_of.field-0 ≡ label later item.key.name =
    c.in_ok-label_of.ensures ∙ ap (label later) (c.as_str.ensures ∙ ap (λ (i : Item). i.key.name) c.item.ensures.item) in
    let whole : c.push_shared.new.self ≡ out ++ (separator later ++ item_text item) =
    c.in_ok-push_shared.ensures
    ∙ ap (λ (l : List ℕ). l ++ c.in_ok-share_text.field-0) (c.in_ok-push.ensures ∙ ap (λ (l : List ℕ). out ++ l) named)
    ∙ ap (λ (l : List ℕ). (out ++ label later item.key.name) ++ l) c.in_ok-share_text.ensures
    ∙ labelled out later item.key.name (fragment item) in
    subst (λ (o : List ℕ). HoldsItems c.args.side (items ++ item ∷ []) before o true) (sym whole)
    (added c.args.side items item before out later (sym same ∙ c.if-not-is_same_side.false) h)
