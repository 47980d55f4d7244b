use Rattle.ocsf_tool.proofs.OneOutcome.{one_outcome}
use Rattle.ocsf_tool.proofs.laws.a_line_has_one_outcome.Goals as goal

pub returns : goal.returns
returns c = one_outcome
