use Rattle.std.proofs.Common.{◌≡◌, [], ◌∷◌, ◌++◌, None, sym, ap, ◌∙◌, rules}
use Rattle.ocsf_tree.proofs.Valid.{rest_items_valid}
use Rattle.ocsf_raw.proofs.FilterMaps.{filter_map-kept, filter_map-passed}
use Rattle.ocsf_bundle.specs.EditContent.{change_of}
use Rattle.ocsf_bundle.proofs.edit.changes_in.Goals as goal

pub loop-item-preserved-in_default : goal.loop-item-preserved-in_default
loop-item-preserved-in_default c =
    let none : c.in_ok-change.field-0 ≡ None = search rules in
    let passed = filter_map-passed change_of c.args.items.now c.loop-item.item-index c.item-item.result c.loop-item-test.true c.item-item.is (sym c.in_ok-change.ensures ∙ none) in
    record {
      made = c.loop-item.invariant.made ∙ sym passed;
      valid = rest_items_valid c.args.items.now c.loop-item.item-index c.loop-item.invariant.valid;
    }

pub loop-item-preserved : goal.loop-item-preserved
loop-item-preserved c =
    let made : c.push.new.self ≡ c.loop-item.made ++ c.in-Some.change ∷ [] = search rules in
    let kept = filter_map-kept change_of c.args.items.now c.loop-item.item-index c.item-item.result c.loop-item-test.true c.item-item.is c.in-Some.change (sym c.in_ok-change.ensures ∙ c.in-Some.is) in
    record {
      made = made ∙ (ap (λ xs. xs ++ c.in-Some.change ∷ []) c.loop-item.invariant.made ∙ sym kept);
      valid = rest_items_valid c.args.items.now c.loop-item.item-index c.loop-item.invariant.valid;
    }
