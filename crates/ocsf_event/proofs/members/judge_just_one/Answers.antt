use Rattle.std.proofs.Common.{◌≡◌, length, subst, arith, rules}
use Rattle.std.specs.List.{join_with_byte}
use Rattle.std.proofs.lemmas.Grind.{common_steps}
use Rattle.ocsf_event.specs.declared.violation.Wrong.TheVariants as code
use Rattle.ocsf_event_rules.specs.Conditions.{listed_in_force, count_present}
use Rattle.ocsf_event_rules.specs.Judged.{with_item}
use Rattle.ocsf_event_rules.specs.Violations.{comma}
use Rattle.ocsf_event.specs.Noted.{Noted}
use Rattle.ocsf_event.specs.Walk.{IsThis}
use Rattle.ocsf_event.proofs.GainedParts.{on_ok}
use Rattle.ocsf_event.proofs.Constraints.{gains_not_one, not_one}
use Rattle.ocsf_event.proofs.Noted.{noted_by}
use Rattle.ocsf_event.proofs.members.judge_just_one.Goals as goal

pub returns : goal.returns
returns c =
    let item = c.args.item.now in
    let members = c.args.members.now in
    let listed = listed_in_force c.args.profiles.now item item.just_one in
    let some : length (listed_in_force c.args.profiles.now c.args.item.now c.args.item.now.just_one) ≡ 0 → ⊥ = λ e. grind (arith, common_steps) in
    let given : count_present c.args.members.now (listed_in_force c.args.profiles.now c.args.item.now c.args.item.now.just_one) ≡ 1 → ⊥ = λ e. grind (arith, common_steps) in
    let detail : c.as_str.result.now ≡ join_with_byte comma c.args.item.now.just_one = search rules in
    on_ok c.add.result c.add.ensures
    (λ n. noted_by (λ g. gains_not_one c.args.profiles.now (with_item item members) c.args.notes.now.place.items _ _ (not_one members listed some given) g)
    (subst (λ d. Noted (λ place. IsThis place code.JustOne d) c.args.notes.now c.add.new.self) detail n))
