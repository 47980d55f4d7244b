use Rattle.ocsf_rule_laws.proofs.TypesAgree.{types_agree}
use Rattle.ocsf_rule_laws.proofs.closed_laws.types_and_kinds_agree.Goals as goal

pub returns : goal.returns
returns c = types_agree
