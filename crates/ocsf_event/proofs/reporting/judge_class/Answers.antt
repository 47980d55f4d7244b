use Rattle.std.proofs.Common.{◌⊎◌, subst}
use Rattle.ocsf_tree.specs.declared.tree.Tree.TheVariants as tree
use Rattle.ocsf_event_rules.specs.Profiles.{named_profiles}
use Rattle.ocsf_event_rules.specs.Judged.{with_item}
use Rattle.ocsf_event_rules.proofs.Classes.{class_has_number}
use Rattle.ocsf_event.specs.Gains.{Gains}
use Rattle.ocsf_event.specs.Noted.{Noted}
use Rattle.ocsf_event.specs.Walk.{InObject, IsAmiss}
use Rattle.ocsf_event.proofs.AsAWhole.{is_object}
use Rattle.ocsf_event.proofs.GainedParts.{on_ok}
use Rattle.ocsf_event.proofs.Noted.{noted_by, noted_both}
use Rattle.ocsf_event.proofs.Reports.{gains_class}
use Rattle.ocsf_event.proofs.reporting.judge_class.Goals as goal

pub returns-in-Some : goal.returns-in-Some
returns-in-Some c =
    let schema = c.args.judge.now.schema.now in
    let members = c.args.members.now in
    let event = tree.Members members in
    let object = with_item c.args.class.now members in
    let number = c.in-Some.number in
    on_ok c.judge_event.result c.judge_event.ensures
    (λ m. noted_by (λ g. gains_class schema event _ _ members c.args.class.now number (is_object members) c.requires.class c.in-Some.is
    (subst (λ p. Gains (λ v. InObject schema (named_profiles event) object p v ⊎ IsAmiss schema event number members v) c.args.notes.now.found c.judge_event.new.notes.found) c.requires.root g))
    (noted_both (InObject schema (named_profiles event) object) (λ place. IsAmiss schema event number members) _ _ _
    (subst (λ q. Noted (InObject schema q object) c.args.notes.now c.judge_object.new.notes) c.requires.profiles c.in_ok-judge_object.ensures) m))

pub returns-in-None : goal.returns-in-None
returns-in-None c = absurd (class_has_number c.args.judge.now.schema.now c.args.members.now c.args.class.now c.requires.class c.in-None.is)
