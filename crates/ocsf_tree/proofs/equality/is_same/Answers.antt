use Rattle.std.proofs.Common.{sym, ap, ◌∙◌}
use Rattle.ocsf_tree.specs.Data.{data_of}
use Rattle.ocsf_tree.specs.Equality.{same}
use Rattle.ocsf_tree.proofs.Compared.{same_is, same_itself}
use Rattle.ocsf_tree.proofs.Same.{trees_by_data}
use Rattle.ocsf_tree.proofs.equality.is_same.Goals as goal

pub returns : goal.returns
returns c =
    let a = c.args.a.now in
    let b = c.args.b.now in (
      λ h. trees_by_data a b (same_is (data_of a) (data_of b) (sym c.compare.ensures ∙ h)),
      λ e. c.compare.ensures ∙ ap (λ t. same (data_of a) (data_of t)) (sym e) ∙ same_itself (data_of a) c.requires,
    )
