use Rattle.ocsf_event.specs.Gains.{EachUpTo}
use Rattle.ocsf_event.specs.Noted.{Noted}
use Rattle.ocsf_event.specs.Walk.{IsNoProfile}
use Rattle.ocsf_event.proofs.whole.judge_profiles.Given as goal

abbrev pub invariant-loop-index : goal.invariant-loop-index
invariant-loop-index l = Noted (λ place. EachUpTo l.index (IsNoProfile l.schema) l.items) l.initial.notes l.notes
