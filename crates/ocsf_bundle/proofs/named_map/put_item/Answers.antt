use Rattle.std.proofs.Common.{cond, Some, ap, ◌∙◌}
use Rattle.std.specs.BTreeMap.{get}
use Rattle.std.proofs.lemmas.Map.Text.{is_eq-slice_cmp}
use Rattle.ocsf_lists.specs.ByName.{text_cmp}
use Rattle.ocsf_bundle.proofs.named_map.put_item.Goals as goal

pub returns : goal.returns
returns g c q =
    c.in_ok-insert.ensures.updates.0 q
    ∙ ap (λ b. cond b (Some c.args.item) (get text_cmp c.args.items.now q)) (is_eq-slice_cmp c.args.name q)
