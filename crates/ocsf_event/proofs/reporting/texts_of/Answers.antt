use Rattle.std.proofs.Common.{◌≡◌, ◌+◌, ◌++◌, ◌∷◌, [], ℕ, List, take, sym, ap, ◌∙◌, rules}
use Rattle.std.specs.List.{filter_map}
use Rattle.std.proofs.lemmas.List.{take_more}
use Rattle.std.proofs.lemmas.List.Elements.{filter_map-append}
use Rattle.ocsf_event_rules.specs.Profiles.{as_text}
use Rattle.ocsf_event.proofs.reporting.texts_of.Goals as goal

pub loop-item-preserved : goal.loop-item-preserved
loop-item-preserved c =
    let items = c.args.items.now in
    let item = c.item-item.result in
    let i = c.loop-item.item-index in
    let pushed : c.push_text.new.made ≡ c.loop-item.made ++ filter_map as_text (c.item-item.result ∷ []) = search rules in
    let more : take (i + 1) items ≡ take i items ++ item ∷ [] = take_more items i item c.loop-item-test.true ∙ ap (λ n. take i items ++ n ∷ []) (sym c.item-item.is) in
    pushed ∙ ap (λ (m : List (List ℕ)). m ++ filter_map as_text (item ∷ [])) c.loop-item.invariant ∙ sym (filter_map-append as_text (take i items) (item ∷ [])) ∙ ap (filter_map as_text) (sym more)
