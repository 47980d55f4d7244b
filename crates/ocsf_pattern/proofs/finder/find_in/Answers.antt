use Rattle.std.proofs.Common.{sym, ap, ◌∙◌, subst, arith, IsSome, is_some}
use Rattle.regex_meta.proofs.LeftmostLemmas.{are_bytes}
use Rattle.regex_meta.proofs.ProgramLemmas.{unanchored_end, leftmost_no_end}
use Rattle.regex_meta.specs.Programs.{leftmost}
use Rattle.regex_syntax.proofs.Written.{is_some-option_map}
use Rattle.ocsf_pattern.proofs.finder.find_in.Goals as goal

pub returns-in-At-clause-found : goal.returns-in-At-clause-found
returns-in-At-clause-found c =
    let p = c.args.program.now in
    let hay = c.args.subject.now in
    let ends = unanchored_end p hay (are_bytes hay c.type_inv.subject) 0 (omega arith) in
    sym (subst IsSome ends (rw c.as_bytes-bytes.ensures.value at c.in-At.ensures.end).0) ∙ is_some-option_map _ (leftmost p hay 0)

pub returns-in-NoMatch-clause-found : goal.returns-in-NoMatch-clause-found
returns-in-NoMatch-clause-found c =
    let p = c.args.program.now in
    let hay = c.args.subject.now in
    sym (ap is_some (leftmost_no_end p hay (are_bytes hay c.type_inv.subject) 0 (omega arith)
    (rw c.as_bytes-bytes.ensures.value at c.in-NoMatch.ensures.end)))
