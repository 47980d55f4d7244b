use denote.Shadow.{shadow}
use denote.Text.{Utf8}
use Rattle.ocsf_kind.proofs.Ways.{IsLeft}
use Rattle.ocsf_kind.proofs.kinds.kind_of.Given as goal

abbrev pub invariant-way : goal.invariant-way
invariant-way l = record { left : IsLeft l.types l.name l.limits l.left l.now; text : shadow (Utf8 l.now) }

abbrev pub decreases-way : goal.decreases-way
decreases-way l = l.left
