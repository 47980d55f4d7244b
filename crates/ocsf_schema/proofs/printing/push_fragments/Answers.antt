use Rattle.std.proofs.Common.{◌++◌, List, true, subst, ◌∙◌}
use Rattle.std.proofs.lemmas.List.{take_all}
use Rattle.ocsf_tree.specs.CompactText.{text}
use Rattle.ocsf_schema.specs.declared.records.Item.{Item}
use Rattle.ocsf_schema.specs.Joining.{label, HoldsItems}
use Rattle.ocsf_schema.specs.Schema.{fragments}
use Rattle.ocsf_schema.proofs.JoinedItems.{all_fragments, labelled}
use Rattle.ocsf_schema.proofs.printing.push_fragments.Goals as goal

pub returns : goal.returns
returns c =
    let before = c.args.out.now ++ label true c.args.name.now in
    c.in_ok-push_bytes-2.ensures
    ∙ all_fragments c.args.side c.args.pieces.now before c.loop-piece.out c.loop-piece.is_later
    (subst (λ (items : List Item). HoldsItems c.args.side items before c.loop-piece.out c.loop-piece.is_later) (take_all c.loop-piece.piece-index c.args.pieces.now c.loop-piece-test.false) c.loop-piece.invariant)
    ∙ labelled c.args.out.now true c.args.name.now (text (fragments c.args.side c.args.pieces.now))
