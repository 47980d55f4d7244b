use Rattle.std.proofs.Common.{◌≡◌, ap, ◌∙◌, rules}
use Rattle.std.proofs.lemmas.List.Sorted.{IsNonDecreasingBy-from_sort_by_key, answers_always}
use Rattle.ocsf_bundle.specs.Active.{extension_uid, in_order}
use Rattle.ocsf_bundle.proofs.Orders.{sorted-in_order}
use Rattle.ocsf_bundle.proofs.active.in_layers.Goals as goal

pub returns : goal.returns
returns c =
    let up = IsNonDecreasingBy-from_sort_by_key extension_uid c.sort_by_key.new.self.items c.in_ok-sort_by_key.ensures.sorted (λ a r q k. search rules) in
    let items : c.into_vec-layered.result.items ≡ c.args.files.now = search rules in
    c.from_vec.ensures
    ∙ sorted-in_order extension_uid c.into_vec-layered.result.items c.sort_by_key.new.self.items up
    (c.in_ok-sort_by_key.ensures.stable extension_uid (answers_always _ _ _ (λ f a r f' k. search rules)))
    ∙ ap (in_order extension_uid) items
