use Rattle.std.proofs.Common.{◌≡◌, None, true, rules}
use Rattle.ocsf_tree.specs.declared.attribute.Requirement.TheVariants.{Required}
use Rattle.ocsf_event_rules.specs.Profiles.{is_in_force}
use Rattle.ocsf_event_rules.specs.EventClass.{value_of}
use Rattle.ocsf_event.proofs.GainedParts.{on_ok, gains_missing}
use Rattle.ocsf_event.proofs.Noted.{noted_by}
use Rattle.ocsf_event.proofs.members.judge_absent.Goals as goal

pub returns-then-is_absent : goal.returns-then-is_absent
returns-then-is_absent c =
    let attr = c.args.attr.now in
    let none : value_of attr.name c.args.members.now ≡ None = search rules in
    let force : is_in_force c.args.profiles.now attr ≡ true = search rules in
    let wanted : attr.requirement ≡ Required = search rules in
    on_ok c.add_at.result c.add_at.ensures
    (λ n. noted_by (λ g. gains_missing c.args.profiles.now c.args.members.now c.args.notes.now.place.items attr _ _ none force wanted g) n)
