use Rattle.ocsf_walk.proofs.Speeches.{keys_more}
use Rattle.ocsf_walk.proofs.speakers.speakers_along.Goals as goal

pub loop-key-preserved : goal.loop-key-preserved
loop-key-preserved g c =
    keys_more (g.B.Shows.looks c.args.bundle.now) c.args.keys.now c.loop-key.key-index c.key-item.result _ _ c.loop-key-test.true c.key-item.is c.loop-key.invariant c.in_ok-push_speakers_of.ensures
