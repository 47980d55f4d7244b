use Rattle.ocsf_walk.proofs.Speeches.{speaks_then}
use Rattle.ocsf_walk.proofs.speakers.push_speakers_of.Goals as goal

pub returns : goal.returns
returns g c = speaks_then _ _ _ _ _ c.in_ok-push_own.ensures c.in_ok-push_patches.ensures
