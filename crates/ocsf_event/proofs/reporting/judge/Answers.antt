use Rattle.std.proofs.Common.{◌≡◌, None, subst, rules}
use Rattle.std.specs.Prelude.{codes}
use Rattle.ocsf_tree.specs.declared.tree.Tree.{the_lemmas}
use Rattle.ocsf_event.specs.declared.violation.Wrong.TheVariants as code
use Rattle.ocsf_event_rules.specs.EventClass.{as_object}
use Rattle.ocsf_event.specs.Gains.{Gains}
use Rattle.ocsf_event.specs.Walk.{IsThis}
use Rattle.ocsf_event.proofs.GainedParts.{on_ok}
use Rattle.ocsf_event.proofs.Noted.{noted_by}
use Rattle.ocsf_event.proofs.Reports.{gains_no_object}
use Rattle.ocsf_event.proofs.reporting.judge.Goals as goal

pub returns-in_default : goal.returns-in_default
returns-in_default c =
    let none : as_object c.args.event.now ≡ None = search (rules, the_lemmas) in
    on_ok c.add.result c.add.ensures
    (λ n. noted_by (λ g. gains_no_object c.args.schema.now c.args.event.now _ _ none
    (subst (λ p. Gains (IsThis p code.WrongType (codes "object_t")) c.args.notes.now.found c.add.new.self.found) c.requires.root g)) n)
