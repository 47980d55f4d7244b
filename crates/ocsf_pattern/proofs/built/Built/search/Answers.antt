use Rattle.std.proofs.Common.{◌∙◌}
use Rattle.ocsf_pattern.proofs.Found.{is_found_of_program}
use Rattle.ocsf_pattern.proofs.built.Built.search.Goals as goal

pub returns-in-Some-clause-found : goal.returns-in-Some-clause-found
returns-in-Some-clause-found c = λ text built.
    c.in-Some.ensures.found ∙ is_found_of_program text c.args.self.now built c.args.subject.now (λ k. (c.type_inv.subject k).fits) c.in-Some.ensures.filled
