use Rattle.ocsf_rule_laws.proofs.SameChain.{same_chain}
use Rattle.ocsf_rule_laws.proofs.look_laws.same_looks_give_the_same_chain.Goals as goal

pub returns : goal.returns
returns c b d k agree = same_chain b d k agree
