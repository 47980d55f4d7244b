use Rattle.std.proofs.Common.{◌≡◌, None, rules}
use Rattle.ocsf_tree.specs.declared.tree.Tree.TheVariants as tree
use Rattle.ocsf_event_rules.specs.EventClass.{class_of}
use Rattle.ocsf_event.proofs.AsAWhole.{is_object}
use Rattle.ocsf_event.proofs.GainedParts.{on_ok}
use Rattle.ocsf_event.proofs.Noted.{noted_by}
use Rattle.ocsf_event.proofs.Reports.{gains_no_class}
use Rattle.ocsf_event.proofs.reporting.judge_body.Goals as goal

pub returns-in-None : goal.returns-in-None
returns-in-None c =
    let members = c.args.members.now in
    let none : class_of c.args.schema.now c.args.members.now ≡ None = search rules in
    on_ok c.judge_classless.result c.judge_classless.ensures
    (λ n. noted_by (λ g. gains_no_class c.args.schema.now (tree.Members members) _ _ members (is_object members) none g) n)
