use Rattle.ocsf_walk.proofs.Givings.{given_more}
use Rattle.ocsf_walk.proofs.given.given_by.Goals as goal

pub loop-speaker-preserved : goal.loop-speaker-preserved
loop-speaker-preserved c = given_more c.args.speakers.now c.loop-speaker.speaker-index c.speaker-item.result _ _ c.loop-speaker-test.true c.speaker-item.is c.loop-speaker.invariant c.in_ok-add_file.ensures
