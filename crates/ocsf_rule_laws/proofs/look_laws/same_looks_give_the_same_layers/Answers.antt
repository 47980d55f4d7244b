use Rattle.ocsf_rule_laws.proofs.SameLayers.{same_layers, same_marks}
use Rattle.ocsf_rule_laws.proofs.look_laws.same_looks_give_the_same_layers.Goals as goal

pub returns : goal.returns
returns c b d k keys heard = (same_layers b d k keys heard, same_marks b d k keys heard)
