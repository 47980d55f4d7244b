use Rattle.std.proofs.Common.{◌≡◌, ◌+◌, ◌++◌, ◌∷◌, [], ℕ, List, take, sym, ap, ◌∙◌, rules}
use Rattle.std.specs.Prelude.{string_bytes}
use Rattle.std.specs.List.{join_with_byte}
use Rattle.std.proofs.lemmas.List.{take_more}
use Rattle.ocsf_event_rules.specs.Violations.{comma}
use Rattle.ocsf_event.proofs.Constraints.{join_more}
use Rattle.ocsf_event.proofs.members.push_all.Goals as goal

pub loop-name-preserved : goal.loop-name-preserved
loop-name-preserved c =
    let names = c.args.names.now in
    let name = c.name-item.result in
    let i = c.loop-name.name-index in
    let first = string_bytes c.args.out.now in
    let pushed : string_bytes c.push_later.new.out ≡ string_bytes c.loop-name.out ++ comma ∷ c.name-item.result = search rules in
    let more : take (i + 1) names ≡ take i names ++ name ∷ [] = take_more names i name c.loop-name-test.true ∙ ap (λ n. take i names ++ n ∷ []) (sym c.name-item.is) in
    pushed ∙ ap (λ (b : List ℕ). b ++ comma ∷ name) c.loop-name.invariant ∙ sym (join_more comma first (take i names) name) ∙ ap (λ xs. join_with_byte comma (first ∷ xs)) (sym more)
