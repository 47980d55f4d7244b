use denote.Shadow.{shadow}
use denote.Text.{Utf8}
use Rattle.ocsf_bundle.specs.OwnFaults.{kinds_in}
use Rattle.ocsf_bundle.proofs.TypeWays.{IsLeft}
use Rattle.ocsf_bundle.proofs.type_fault.type_fault.Given as goal

abbrev pub invariant-way : goal.invariant-way
invariant-way l = record { left : IsLeft (kinds_in l.dictionaries) l.name l.left l.now; text : shadow (Utf8 l.now) }

abbrev pub decreases-way : goal.decreases-way
decreases-way l = l.left
