use Rattle.std.proofs.Common.{◌≡◌, map, refl, sym, subst}
use Rattle.ocsf_tree.specs.declared.tree.Tree.{Tree}
use Rattle.ocsf_tree.specs.declared.tree.Tree.TheVariants as tree
use Rattle.ocsf_tree.specs.Valid.{IsValid}
use Rattle.ocsf_event.specs.Code.{told_violation}
use Rattle.ocsf_event.specs.Answer.{report_tree}
use Rattle.ocsf_event.proofs.ValidReports.{report_valid}
use Rattle.ocsf_event.proofs.answer.report_tree.Goals as goal

pub returns-clause-tree : goal.returns-clause-tree
returns-clause-tree c =
    rw (c.in_ok-push.ensures.ok, c.new-members.ensures, c.in_ok-name.ensures, c.in_ok-violation_trees.ensures) refl

pub returns-clause-valid : goal.returns-clause-valid
returns-clause-valid c =
    let is : tree.Members c.push.new.self ≡ report_tree (map told_violation c.args.report.now) =
    rw (c.in_ok-push.ensures.ok, c.new-members.ensures, c.in_ok-name.ensures, c.in_ok-violation_trees.ensures) refl in
    subst (λ (t : Tree). IsValid t) (sym is) (report_valid (map told_violation c.args.report.now))
