use Rattle.ocsf_walk.proofs.Files.{files_more}
use Rattle.ocsf_walk.proofs.walk.hear_files.Goals as goal

pub loop-speaker-preserved : goal.loop-speaker-preserved
loop-speaker-preserved g c =
    files_more (g.B.Shows.looks c.args.bundle.now) c.args.speakers.now c.loop-speaker.speaker-index c.speaker-item.result _ _ _ c.loop-speaker-test.true c.speaker-item.is c.loop-speaker.invariant c.in_ok-hear_file.ensures
