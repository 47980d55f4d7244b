use Rattle.ocsf_walk.specs.Speakers.{speaks_for}
use Rattle.ocsf_walk.proofs.Speeches.{speaks_one}
use Rattle.ocsf_walk.proofs.speakers.push_speaker.Goals as goal

pub returns : goal.returns
returns c = speaks_one _ _ _ (speaks_for c.args.key.now c.args.ext c.args.file.now) c.in_ok-push.ensures.items (λ i. record { by = c.in_ok-by.ensures.equal i; ext = c.args.ext; file = c.args.file.now }) c.requires
