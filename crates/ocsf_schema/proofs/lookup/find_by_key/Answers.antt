use Rattle.std.proofs.Common.{◌≡◌, ap, sym, ◌∙◌, Some}
use Rattle.ocsf_tree.specs.Key.{key_text}
use Rattle.ocsf_lists.proofs.NameLists.{at_name-at, at_name-none, never_tied}
use Rattle.ocsf_schema.proofs.lookup.find_by_key.Goals as goal

pub returns-in-Ok-clause-item : goal.returns-in-Ok-clause-item
returns-in-Ok-clause-item c =
    let item = c.index-pieces-at.result in
    let same : c.item.result.now ≡ item = c.item.ensures.item ∙ c.get.ensures in
    ap Some (same ∙ c.index-pieces-at.is)
    ∙ sym (at_name-at (λ item. key_text item.key) (key_text c.args.key.now) c.args.pieces.now c.in-Ok.at item c.requires c.in-Ok.ensures.within (c.in-Ok.ensures.found item))

pub returns-in-Err-clause-item : goal.returns-in-Err-clause-item
returns-in-Err-clause-item c =
    sym (at_name-none (λ item. key_text item.key) (key_text c.args.key.now) c.args.pieces.now
    (never_tied (λ item. key_text item.key) (key_text c.args.key.now) c.args.pieces.now c.in-Err.field-0 c.in-Err.ensures.absent))
