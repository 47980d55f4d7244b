use Rattle.std.proofs.Common.{◌≡◌, ◌+◌, ◌∷◌, [], ◌++◌, take, sym, ◌∙◌, ap}
use Rattle.std.specs.Option.{option_or}
use Rattle.std.proofs.lemmas.List.{take_more}
use Rattle.std.proofs.lemmas.List.Folds.{find-append}
use Rattle.ocsf_schema.specs.declared.records.Item.{Item}
use Rattle.ocsf_schema.specs.Lookups.{is_number, class_number, class_at}
use Rattle.ocsf_schema.proofs.lookup.classes_by_uid.Goals as goal

pub loop-piece-preserved : goal.loop-piece-preserved
loop-piece-preserved c uid =
    let items = c.args.pieces.now in
    let i = c.loop-piece.piece-index in
    let item = c.piece-item.result in
    let more : take (i + 1) items ≡ take i items ++ item ∷ [] = take_more items i item c.loop-piece-test.true ∙ ap (λ (x : Item). take i items ++ x ∷ []) (sym c.piece-item.is) in
    c.in_ok-add_class.ensures uid
    ∙ ap (λ o. option_or o (class_at uid (item ∷ []))) (c.loop-piece.invariant uid)
    ∙ sym (find-append (λ x. is_number uid (class_number x)) (take i items) (item ∷ []))
    ∙ ap (class_at uid) (sym more)
