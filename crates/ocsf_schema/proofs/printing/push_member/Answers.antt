use Rattle.std.proofs.Common.{◌++◌, List, ℕ, ap, ◌∙◌}
use Rattle.ocsf_schema.proofs.JoinedItems.{labelled}
use Rattle.ocsf_schema.proofs.printing.push_member.Goals as goal

pub returns : goal.returns
returns c =
    c.in_ok-push-2.ensures
    ∙ ap (λ (l : List ℕ). l ++ c.args.value) (c.in_ok-push.ensures ∙ ap (λ (l : List ℕ). c.args.out.now ++ l) c.in_ok-label_of.ensures)
    ∙ labelled c.args.out.now c.args.is_later c.args.name.now c.args.value
