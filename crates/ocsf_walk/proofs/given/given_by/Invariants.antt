use Rattle.std.proofs.Common.{◌≡◌, map, take}
use Rattle.ocsf_walk.specs.Given.{given_by}
use Rattle.ocsf_walk.specs.Speakers.{speaker_of}
use Rattle.ocsf_walk.proofs.given.given_by.Given as goal

abbrev pub invariant-loop-speaker : goal.invariant-loop-speaker
invariant-loop-speaker l = l.given ≡ given_by (map speaker_of (take l.speaker-index l.speakers))
