use Rattle.ocsf_rule_laws.proofs.SameAttributes.{same_dict_entries, same_target}
use Rattle.ocsf_rule_laws.proofs.look_laws.same_looks_give_the_same_attribute.Goals as goal

pub returns : goal.returns
returns c b d ext s at = (same_dict_entries b d ext s at, same_target b d ext s at)
