use Rattle.ocsf_rule_laws.proofs.SameItem.{same_category}
use Rattle.ocsf_rule_laws.proofs.look_laws.same_looks_give_the_same_category.Goals as goal

pub returns : goal.returns
returns c b d k on_chain on_category = same_category b d k on_chain on_category
