use Rattle.std.proofs.Common.{take, []}
use Rattle.std.specs.Prelude.{flat_map}
use Rattle.ocsf_rules.specs.Chain.{speakers_of}
use Rattle.ocsf_walk.specs.Speakers.{Speaks}
use Rattle.ocsf_walk.proofs.speakers.speakers_along.Given as goal

abbrev pub invariant-loop-key : goal.invariant-loop-key
invariant-loop-key g l = Speaks [] l.speakers.items (flat_map (speakers_of (g.B.Shows.looks l.bundle)) (take l.key-index l.keys))
