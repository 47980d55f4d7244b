use Rattle.ocsf_pattern.proofs.Found.{is_found_of_regex}
use Rattle.ocsf_pattern.proofs.built.search.Goals as goal

pub returns : goal.returns
returns c = λ text built.
    rw (c.is_match.ensures.found, c.in_ok-matcher.ensures.pattern)
    (is_found_of_regex c.args.regex.now text c.args.subject.now built.0 built.1 built.2 (λ k. (c.type_inv.subject k).fits))
