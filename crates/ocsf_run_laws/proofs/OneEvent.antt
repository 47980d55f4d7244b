-- A run of `validate` has one output: line by line, from the one report of an event.
use Rattle.std.proofs.Common.{◌≡◌, ◌≢◌, ℕ, List, [], ◌∷◌, ◌++◌, length, Bool, ◌||◌, Result, Ok, Err, inl, inr, refl, sym, ◌∙◌, ap, subst}
use Rattle.std.proofs.lemmas.Bool.{cases_lt}
use Rattle.ocsf_lines.specs.Lines.{lines_of}
use Rattle.ocsf_lines.specs.Run.{Run, Output}
use Rattle.ocsf_tree.specs.CompactText.{text}
use Rattle.ocsf_tree.specs.Place.{pointer_text}
use Rattle.ocsf_tree.specs.declared.tree.Tree.{Tree}
use Rattle.ocsf_tree.specs.declared.fault.Fault.{Fault}
use Rattle.ocsf_tree.specs.declared.reader.TreeError.{TreeError}
use Rattle.ocsf_tree.specs.declared.reader.TreeError.TheVariants.{NotJson, NumberNotWhole, Memory}
use Rattle.ocsf_tree.proofs.Readings.{one_reading}
use Rattle.ocsf_schema.specs.declared.parts.SchemaParts.{SchemaParts}
use Rattle.ocsf_event_rules.specs.Wrong.{Violation}
use Rattle.ocsf_event_rules.proofs.OneReport.{one_report}
use Rattle.ocsf_tool.specs.Events.{IsEventOutcome, IsReadEvent, IsEventJudgement, max_event, event_tree, is_event_flawed, EventStep, events_print}
use Rattle.ocsf_tool.proofs.OneFolder.{one_schema}
use Rattle.ocsf_run_laws.specs.RunLaws.{ValidateHasOneOutput}

abbrev Outcome : Type 0
Outcome = Result (List Violation) Fault

-- ---- one line

not_memory : (schema : SchemaParts) (reading : Result Tree TreeError) (outcome : Outcome) → IsEventOutcome schema reading outcome → reading ≢ Err Memory
not_memory schema (Ok event) outcome is e = cc
not_memory schema (Err NotJson) outcome is e = cc
not_memory schema (Err (NumberNotWhole place)) outcome is e = cc
not_memory schema (Err Memory) outcome is e = is

of_reading : (schema : SchemaParts) (reading : Result Tree TreeError) (a b : Outcome) → IsEventOutcome schema reading a → IsEventOutcome schema reading b → a ≡ b
of_reading schema (Ok event) (Ok r) (Ok s) x y = ap Ok (one_report schema event r s x y)
of_reading schema (Ok event) (Ok r) (Err f) x y = absurd y
of_reading schema (Ok event) (Err f) b x y = absurd x
of_reading schema (Err NotJson) a b x y = x ∙ sym y
of_reading schema (Err (NumberNotWhole place)) a b x y = x ∙ sym y
of_reading schema (Err Memory) a b x y = absurd x

of_text : (schema : SchemaParts) (line : List ℕ) (a b : Outcome) → IsReadEvent schema line a → IsReadEvent schema line b → a ≡ b
of_text schema line a b p q =
    let same : p.reading ≡ q.reading = one_reading line p.reading q.reading p.reads q.reads (not_memory schema p.reading a p.judged) (not_memory schema q.reading b q.judged) in
    of_reading schema p.reading a b p.judged (subst (λ (r : Result Tree TreeError). IsEventOutcome schema r b) (sym same) q.judged)

one_outcome : (schema : SchemaParts) (line : List ℕ) (a b : Outcome) → IsEventJudgement schema line a → IsEventJudgement schema line b → a ≡ b
one_outcome schema line a b p q = elim (cases_lt max_event (length line)) [
  | inl long ↦ p.long long ∙ sym (q.long long)
  | inr short ↦ of_text schema line a b (p.short short) (q.short short)
]

record AreAlike (reply other : List ℕ) (flawed was : Bool) (next last : SchemaParts) : Type 0 where
  replies : reply ≡ other
  flags : flawed ≡ was
  states : next ≡ last

reply_line : Outcome → List ℕ
reply_line outcome = text (event_tree outcome) ++ 10 ∷ []

one_step : (schema : SchemaParts) (line reply other : List ℕ) (flawed was : Bool) (next last : SchemaParts)
    → EventStep schema line reply flawed next → EventStep schema line other was last → AreAlike reply other flawed was next last
unfolding reply_line
one_step schema line reply other flawed was next last p q =
    let same : p.outcome ≡ q.outcome = one_outcome schema line p.outcome q.outcome p.judged q.judged in
    record {
      replies = p.replied ∙ ap reply_line same ∙ sym q.replied;
      flags = p.flawed ∙ ap is_event_flawed same ∙ sym q.flawed;
      states = p.same ∙ sym q.same;
    }

-- ---- all lines

one_run : (lines : List (List ℕ)) (schema : SchemaParts) (out other : List ℕ) (flawed was : Bool) (new last : SchemaParts)
    → Run EventStep schema lines out flawed new → Run EventStep schema lines other was last → AreAlike out other flawed was new last
one_run [] schema out other flawed was new last (out_is, flag_is, new_is) (other_is, flag_was, last_is) = record {
  replies = out_is ∙ sym other_is;
  flags = flag_is ∙ sym flag_was;
  states = new_is ∙ sym last_is;
}
one_run (line ∷ lines) schema out other flawed was new last
    (reply, one, next, more, others, step, run, out_is, flag_is)
    (answer, flag, after, rest, flags, made, went, other_is, flag_was) =
    let here = one_step schema line reply answer one flag next after step made in
    let moved : Run EventStep next lines rest flags last = subst (λ state. Run EventStep state lines rest flags last) (sym here.states) went in
    let below = one_run lines next more rest others flags new last run moved in
    record {
      replies = out_is ∙ (λ i. here.replies i ++ below.replies i) ∙ sym other_is;
      flags = flag_is ∙ (λ i. here.flags i || below.flags i) ∙ sym flag_was;
      states = below.states;
    }

-- ---- over a folder

inside_ok : (a b : SchemaParts) (x : Result SchemaParts Fault) → x ≡ Ok a → x ≡ Ok b → a ≡ b
inside_ok a b x e f = cc

module _ (schema : SchemaParts) (bytes one other : List ℕ) (flawed was : Bool) where
  one_output : Output EventStep events_print schema bytes one flawed → Output EventStep events_print schema bytes other was → (one ≡ other) × (flawed ≡ was)
  one_output p q =
      let runs = one_run (lines_of bytes) schema p.replies q.replies flawed was p.last q.last p.run q.run in
      (p.all ∙ (λ i. runs.replies i ++ []) ∙ sym q.all, runs.flags)

pub one_validated : ValidateHasOneOutput
one_validated dir lying bytes one other flawed was decided p q =
    let same : p.schema ≡ q.schema = inside_ok p.schema q.schema (Ok p.schema) refl (one_schema dir lying (Ok p.schema) (Ok q.schema) decided p.compiled q.compiled) in
    one_output p.schema bytes one other flawed was p.replies (subst (λ (s : SchemaParts). Output EventStep events_print s bytes other was) (sym same) q.replies)
