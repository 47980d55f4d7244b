use Rattle.std.proofs.Common.{cond, None, ap, ◌∙◌}
use Rattle.std.specs.BTreeMap.{get}
use Rattle.std.proofs.lemmas.Map.Text.{is_eq-slice_cmp}
use Rattle.ocsf_lists.specs.ByName.{text_cmp}
use Rattle.ocsf_bundle.proofs.named_map.take_item.Goals as goal

pub returns-clause-rest : goal.returns-clause-rest
returns-clause-rest g c q =
    c.remove.ensures.updates.0 q
    ∙ ap (λ b. cond b None (get text_cmp c.args.items.now q)) (is_eq-slice_cmp c.args.name.now q)
