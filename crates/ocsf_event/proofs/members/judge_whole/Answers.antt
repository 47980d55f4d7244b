use Rattle.ocsf_event_rules.specs.Judged.{with_item}
use Rattle.ocsf_event.specs.Walk.{IsTooFew, IsNotOne}
use Rattle.ocsf_event.proofs.GainedParts.{on_ok}
use Rattle.ocsf_event.proofs.Constraints.{gains_whole}
use Rattle.ocsf_event.proofs.Noted.{noted_by, noted_both}
use Rattle.ocsf_event.proofs.members.judge_whole.Goals as goal

pub returns : goal.returns
returns c =
    let profiles = c.args.profiles.now in
    let object = with_item c.args.item.now c.args.members.now in
    on_ok c.judge_just_one.result c.judge_just_one.ensures
    (λ m. noted_by (λ g. gains_whole profiles object c.args.notes.now.place.items _ _ g)
    (noted_both (IsTooFew profiles object) (IsNotOne profiles object) _ _ _ c.in_ok-judge_at_least.ensures m))
