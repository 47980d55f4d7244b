-- A run has one output: line by line, from the one outcome of a line.
use Rattle.std.proofs.Common.{◌≡◌, ℕ, List, [], ◌∷◌, ◌++◌, Bool, ◌||◌, Result, sym, ◌∙◌, ap, subst}
use Rattle.std.specs.Prelude.{is_err}
use Rattle.ocsf_lines.specs.Lines.{lines_of}
use Rattle.ocsf_lines.specs.Run.{Run}
use Rattle.ocsf_tree.specs.CompactText.{text}
use Rattle.ocsf_tree.specs.declared.fault.Fault.{Fault}
use Rattle.ocsf_bundle.specs.Stored.{Stored}
use Rattle.ocsf_rules.specs.Verdict.{types_of, AreDecided}
use Rattle.ocsf_tool.specs.Edits.{Edited, no_edits, reply_tree, after_line, EditStep, edits_print}
use Rattle.ocsf_tool.specs.Folders.{compile_text}
use Rattle.ocsf_tool.specs.Laws.{LeadsTo}
use Rattle.ocsf_tool.proofs.OneFolder.{one_schema}
use Rattle.ocsf_tool.proofs.OneOutcome.{one_outcome}
use Rattle.ocsf_run_laws.specs.RunLaws.{AreLinesDecided, HasOneOutput, CompileHasOneOutput}

-- ---- one line

record AreAlike (reply other : List ℕ) (is_refused was_refused : Bool) (next last : Edited) : Type 0 where
  replies : reply ≡ other
  flags : is_refused ≡ was_refused
  states : next ≡ last

reply_line : ℕ → Result Stored Fault → List ℕ
reply_line revision outcome = text (reply_tree revision outcome) ++ 10 ∷ []

one_step : (old : Edited) (line reply other : List ℕ) (is_refused was_refused : Bool) (next last : Edited)
    → ((new : Stored) → LeadsTo old line new → AreDecided (types_of new))
    → EditStep old line reply is_refused next → EditStep old line other was_refused last → AreAlike reply other is_refused was_refused next last
unfolding reply_line
one_step old line reply other is_refused was_refused next last decided p q =
    let same : p.outcome ≡ q.outcome = one_outcome old line p.outcome q.outcome decided p.judged q.judged in
    record {
      replies = p.replied ∙ ap (reply_line old.revision) same ∙ sym q.replied;
      flags = p.refused ∙ ap is_err same ∙ sym q.refused;
      states = p.left ∙ ap (after_line old) same ∙ sym q.left;
    }

-- ---- all lines

one_run : (lines : List (List ℕ)) (old : Edited) (out other : List ℕ) (is_refused was_refused : Bool) (new last : Edited) → AreLinesDecided old lines
    → Run EditStep old lines out is_refused new → Run EditStep old lines other was_refused last → AreAlike out other is_refused was_refused new last
one_run [] old out other is_refused was_refused new last decided (out_is, flag_is, new_is) (other_is, flag_was, last_is) = record {
  replies = out_is ∙ sym other_is;
  flags = flag_is ∙ sym flag_was;
  states = new_is ∙ sym last_is;
}
one_run (line ∷ lines) old out other is_refused was_refused new last decided
    (reply, one, next, more, others, step, run, out_is, flag_is)
    (answer, flag, after, rest, flags, made, went, other_is, flag_was) =
    let here = one_step old line reply answer one flag next after decided.0 step made in
    let moved : Run EditStep next lines rest flags last = subst (λ state. Run EditStep state lines rest flags last) (sym here.states) went in
    let below = one_run lines next more rest others flags new last (decided.1 reply one next step) run moved in
    record {
      replies = out_is ∙ (λ i. here.replies i ++ below.replies i) ∙ sym other_is;
      flags = flag_is ∙ (λ i. here.flags i || below.flags i) ∙ sym flag_was;
      states = below.states;
    }

pub one_output : HasOneOutput
one_output bytes one other is_refused was_refused decided p q =
    let runs = one_run (lines_of bytes) no_edits p.replies q.replies is_refused was_refused p.last q.last decided p.run q.run in
    (p.all ∙ (λ i. runs.replies i ++ edits_print (runs.states i)) ∙ sym q.all, runs.flags)

pub one_compiled : CompileHasOneOutput
one_compiled dir lying one other is_refused was_refused decided p q =
    let same : p.made ≡ q.made = one_schema dir lying p.made q.made decided p.compiled q.compiled in
    (p.written ∙ ap compile_text same ∙ sym q.written, p.refused ∙ ap is_err same ∙ sym q.refused)
