-- Each line of `validate` is answered, and a long one as its front is.
use Rattle.std.proofs.Common.{
  ◌≡◌,
  ◌≢◌,
  ℕ,
  ◌+◌,
  List,
  [],
  ◌∷◌,
  ◌++◌,
  length,
  take,
  Bool,
  Result,
  Ok,
  Err,
  inl,
  inr,
  refl,
  subst,
}
use Rattle.std.proofs.lemmas.Bool.{cases_lt}
use Rattle.ocsf_tree.specs.declared.tree.Tree.{Tree}
use Rattle.ocsf_tree.specs.declared.fault.Fault.{Fault}
use Rattle.ocsf_tree.specs.declared.fault.Code.TheVariants as code
use Rattle.ocsf_tree.specs.declared.reader.TreeError.{TreeError}
use Rattle.ocsf_tree.specs.declared.reader.TreeError.TheVariants.{NotJson, NumberNotWhole, Memory}
use Rattle.ocsf_tree.specs.CompactText.{text}
use Rattle.ocsf_tree.specs.Place.{pointer_text}
use Rattle.ocsf_tree.specs.Reading.{IsReading}
use Rattle.ocsf_tree.proofs.Readings.{some_reading}
use Rattle.ocsf_schema.specs.declared.parts.SchemaParts.{SchemaParts}
use Rattle.ocsf_event_rules.specs.Wrong.{Violation}
use Rattle.ocsf_event_rules.proofs.SomeReport.{some_report}
use Rattle.ocsf_tool.specs.Fronts.{past, front_long, front_whole}
use Rattle.ocsf_tool.specs.Edits.{line_fault}
use Rattle.ocsf_tool.specs.Events.{
  EventStep,
  IsEventOutcome,
  IsReadEvent,
  IsEventJudgement,
  max_event,
  event_too_long,
  event_tree,
  is_event_flawed,
}

abbrev Outcome : Type 0
Outcome = Result (List Violation) Fault

of_reading : (schema : SchemaParts) (line : List ℕ) (reading : Result Tree TreeError) → IsReading line reading
    → reading ≢ Err Memory
    → (outcome : Outcome) × IsEventOutcome schema reading outcome
of_reading schema line (Ok event) reads n = let made = some_report schema event reads.1 in (Ok made.0, made.1)
of_reading schema line (Err NotJson) reads n = (Err (line_fault code.NotJson []), refl)
of_reading schema line (Err (NumberNotWhole place)) reads n =
    (Err (line_fault code.NumberNotWhole (pointer_text place.steps)), refl)
of_reading schema line (Err Memory) reads n = absurd (n refl)

of_text : (schema : SchemaParts) (line : List ℕ) → (outcome : Outcome) × IsReadEvent schema line outcome
of_text schema line =
    let r = some_reading line in
    let judged = of_reading schema line r.0 r.1 r.2 in
    (judged.0, record { reading = r.0; reads = r.1; judged = judged.1 })

some_judgement : (schema : SchemaParts) (line : List ℕ) → (outcome : Outcome) × IsEventJudgement schema line outcome
some_judgement schema line =
    elim (cases_lt max_event (length line)) [
      | inl long ↦
          (Err event_too_long, record { long = λ h. refl; short = λ h. absurd (past max_event (length line) long h) })
      | inr short ↦ let o = of_text schema line in
          (o.0, record { long = λ h. absurd (past max_event (length line) h short); short = λ h. o.1 })
    ]

pub some_event_step : (schema : SchemaParts) (line : List ℕ)
    → (reply : List ℕ) × (is_flawed : Bool) × (new : SchemaParts) × EventStep schema line reply is_flawed new
some_event_step schema line = let j = some_judgement schema line in (
  text (event_tree j.0) ++ 10 ∷ [],
  is_event_flawed j.0,
  schema,
  record { outcome = j.0; judged = j.1; replied = refl; flawed = refl; same = refl },
)

-- ---- the front of a long line

front_judged : (schema : SchemaParts) (line : List ℕ) (outcome : Outcome)
    → IsEventJudgement schema (take (max_event + 1) line) outcome → IsEventJudgement schema line outcome
front_judged schema line outcome judged = record {
  long = λ h. judged.long (front_long max_event line h);
  short = λ h. (subst (λ l. IsEventJudgement schema l outcome) (front_whole max_event line h) judged).short h;
}

pub event_step_by_front : (schema : SchemaParts) (line reply : List ℕ) (is_flawed : Bool) (new : SchemaParts)
    → EventStep schema (take (max_event + 1) line) reply is_flawed new → EventStep schema line reply is_flawed new
event_step_by_front schema line reply is_flawed new step =
    record {
      outcome = step.outcome;
      judged = front_judged schema line step.outcome step.judged;
      replied = step.replied;
      flawed = step.flawed;
      same = step.same;
    }
