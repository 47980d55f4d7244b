use Rattle.ocsf_rule_laws.proofs.SameItem.{from_reads}
use Rattle.ocsf_rule_laws.proofs.look_laws.same_looks_give_the_same_item.Goals as goal

pub returns : goal.returns
returns c b d k agree = from_reads b d k agree
