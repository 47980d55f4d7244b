use Rattle.std.proofs.Common.{take, map}
use Rattle.ocsf_rules.specs.Chain.{patch_speaker}
use Rattle.ocsf_walk.specs.Speakers.{Speaks}
use Rattle.ocsf_walk.proofs.speakers.push_shown.Given as goal

abbrev pub invariant-loop-k : goal.invariant-loop-k
invariant-loop-k g l = Speaks l.fn.speakers.items l.speakers.items (map (patch_speaker l.key) (take l.k ((g.B.Shows.looks l.bundle).patches l.key)))
