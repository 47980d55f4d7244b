use Rattle.ocsf_lines.proofs.ReadingLemmas.{Ran-nothing, complete, limit_due}
use Rattle.ocsf_lines.proofs.reading.run_lines.Goals as goal

pub returns-in_default-clause-ran : goal.returns-in_default-clause-ran
returns-in_default-clause-ran g c = Ran-nothing _ _ g.met.M.LineMachine.answers _ _ _

pub returns-clause-limit_due : goal.returns-clause-limit_due
returns-clause-limit_due g c =
    let ran = c.read_lines.ensures in
    limit_due _ _ _ _ _ _ ran.has_ended ran.reads ran.writes

pub returns-clause-complete : goal.returns-clause-complete
returns-clause-complete g c =
    let ran = c.read_lines.ensures in
    complete _ _ _ _ _ _ _ _ _ _ _ _ ran.ran ran.reads ran.writes
