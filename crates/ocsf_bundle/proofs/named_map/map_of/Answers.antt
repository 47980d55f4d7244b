use Rattle.std.proofs.Common.{◌≡◌, cond, Some, sym, ap, ◌∙◌, rules}
use Rattle.std.specs.BTreeMap.{get}
use Rattle.std.specs.Ordering.{is_eq}
use Rattle.ocsf_lists.specs.ByName.{text_cmp}
use Rattle.ocsf_bundle.proofs.NamedMaps.{at_name-grown}
use Rattle.ocsf_bundle.proofs.named_map.map_of.Goals as goal

pub loop-item-preserved : goal.loop-item-preserved
loop-item-preserved g c q =
    let key : c.in_ok-of.field-0 ≡ g.T.Named.name_of c.item-item.result = search rules in
    let item : c.in_ok-try_clone.field-0 ≡ c.item-item.result = search rules in
    c.in_ok-insert.ensures.updates.0 q
    ∙ ap (λ k. cond (is_eq (text_cmp k q)) (Some c.in_ok-try_clone.field-0) (get text_cmp c.loop-item.made q)) key
    ∙ ap (λ x. cond (is_eq (text_cmp (g.T.Named.name_of c.item-item.result) q)) (Some x) (get text_cmp c.loop-item.made q)) item
    ∙ ap (λ o. cond (is_eq (text_cmp (g.T.Named.name_of c.item-item.result) q)) (Some c.item-item.result) o) (c.loop-item.invariant q)
    ∙ sym (at_name-grown g.T.Named.name_of c.args.items.now c.loop-item.item-index c.item-item.result c.requires c.loop-item-test.true c.item-item.is q)
