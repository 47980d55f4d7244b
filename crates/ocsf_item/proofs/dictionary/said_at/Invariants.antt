use Rattle.std.proofs.Common.{◌≡◌, take}
use Rattle.ocsf_rules.specs.Attribute.{dict_said}
use Rattle.ocsf_item.proofs.dictionary.said_at.Given as goal

abbrev pub invariant-loop-k : goal.invariant-loop-k
invariant-loop-k g l = l.said ≡ dict_said (take l.k ((g.B.Shows.looks l.bundle).dict l.name))
