-- Each line is answered, and a long one as its front is.
use Rattle.std.proofs.Common.{
  ◌≡◌,
  ◌≢◌,
  ℕ,
  ◌+◌,
  List,
  [],
  ◌∷◌,
  ◌++◌,
  length,
  take,
  Bool,
  is_err,
  Option,
  Some,
  None,
  Result,
  Ok,
  Err,
  inl,
  inr,
  refl,
  subst,
}
use Rattle.std.specs.Prelude.{All, IfOk}
use Rattle.std.proofs.lemmas.Bool.{cases_lt}
use Rattle.ocsf_tree.specs.declared.tree.Tree.{Tree}
use Rattle.ocsf_tree.specs.declared.fault.Fault.{Fault}
use Rattle.ocsf_tree.specs.declared.fault.Code.TheVariants as code
use Rattle.ocsf_tree.specs.declared.reader.TreeError.{TreeError}
use Rattle.ocsf_tree.specs.declared.reader.TreeError.TheVariants.{NotJson, NumberNotWhole, Memory}
use Rattle.ocsf_tree.specs.CompactText.{text}
use Rattle.ocsf_tree.specs.Place.{pointer_text}
use Rattle.ocsf_tree.specs.Reading.{IsReading}
use Rattle.ocsf_tree.specs.Valid.{IsValid}
use Rattle.ocsf_tree.proofs.Readings.{some_reading}
use Rattle.ocsf_raw.specs.declared.file_shape.RawError.{RawError}
use Rattle.ocsf_raw.specs.declared.file_shape.RawError.TheVariants as error
use Rattle.ocsf_bundle.specs.declared.edit.Edit.{Edit}
use Rattle.ocsf_bundle.specs.declared.edit.Change.{Change}
use Rattle.ocsf_bundle.specs.Edits.{IsValidChange}
use Rattle.ocsf_bundle.specs.After.{IsAfter}
use Rattle.ocsf_bundle.specs.Stored.{Stored}
use Rattle.ocsf_rules.specs.Judgement.{revision_fault}
use Rattle.ocsf_rules.specs.Verdict.{IsVerdict}
use Rattle.ocsf_rule_laws.proofs.SomeEdit.{some_edit}
use Rattle.ocsf_rule_laws.proofs.SomeAfter.{some_after}
use Rattle.ocsf_rule_laws.proofs.SomeVerdict.{some_verdict}
use Rattle.ocsf_tool.specs.Fronts.{past, front_long, front_whole}
use Rattle.ocsf_tool.specs.Edits.{
  Edited,
  EditStep,
  IsChangesOutcome,
  IsSaidOutcome,
  IsReadOutcome,
  IsLineOutcome,
  IsLineJudgement,
  max_edit,
  too_long,
  line_fault,
  reply_tree,
  after_line,
}

-- ---- changes

by_verdict : (old : Edited) (changes : List Change) (new : Stored) → IsAfter old.bundle changes (Ok new)
    → (v r : Option Fault) → IsVerdict new v → r ≡ revision_fault old.revision
    → (outcome : Result Stored Fault) × IsChangesOutcome old changes outcome
by_verdict old changes new after (Some f) r verdict e = (Err f, (Ok new, after, (Some f, verdict, refl)))
by_verdict old changes new after None (Some f) verdict e = (Err f, (Ok new, after, (None, verdict, e)))
by_verdict old changes new after None None verdict e = (Ok new, (after, (Ok new, after, (None, verdict, e))))

of_after : (old : Edited) (changes : List Change) (made : Result Stored RawError) → IsAfter old.bundle changes made
    → made ≢ Err error.Memory
    → (outcome : Result Stored Fault) × IsChangesOutcome old changes outcome
of_after old changes (Ok new) after n =
    let v = some_verdict new in
    by_verdict old changes new after v.0 (revision_fault old.revision) v.1 refl
of_after old changes (Err (error.Fault f)) after n = (Err f, (Err (error.Fault f), after, refl))
of_after old changes (Err error.Memory) after n = absurd (n refl)

of_changes : (old : Edited) (changes : List Change) → All IsValidChange changes
    → (outcome : Result Stored Fault) × IsChangesOutcome old changes outcome
of_changes old changes valid =
    let made = some_after old.bundle changes valid in
    of_after old changes made.0 made.1 made.2

-- ---- trees and texts

of_said : (old : Edited) (said : Result Edit RawError) → said ≢ Err error.Memory
    → IfOk said (λ edit. All IsValidChange edit.changes)
    → (outcome : Result Stored Fault) × IsSaidOutcome old said outcome
of_said old (Ok edit) n valid = of_changes old edit.changes valid
of_said old (Err (error.Fault f)) n valid = (Err f, refl)
of_said old (Err error.Memory) n valid = absurd (n refl)

of_tree : (old : Edited) (tree : Tree) → IsValid tree
    → (outcome : Result Stored Fault) × IsReadOutcome old (Ok tree) outcome
of_tree old tree valid =
    let said = some_edit tree valid in
    let judged = of_said old said.0 said.2 said.3 in
    (judged.0, record { said = said.0; says = said.1; judged = judged.1 })

of_reading : (old : Edited) (line : List ℕ) (reading : Result Tree TreeError) → IsReading line reading
    → reading ≢ Err Memory
    → (outcome : Result Stored Fault) × IsReadOutcome old reading outcome
of_reading old line (Ok tree) reads n = of_tree old tree reads.1
of_reading old line (Err NotJson) reads n = (Err (line_fault code.NotJson []), refl)
of_reading old line (Err (NumberNotWhole place)) reads n =
    (Err (line_fault code.NumberNotWhole (pointer_text place.steps)), refl)
of_reading old line (Err Memory) reads n = absurd (n refl)

of_text : (old : Edited) (line : List ℕ) → (outcome : Result Stored Fault) × IsLineOutcome old line outcome
of_text old line =
    let r = some_reading line in
    let judged = of_reading old line r.0 r.1 r.2 in
    (judged.0, record { reading = r.0; reads = r.1; judged = judged.1 })

-- ---- lines

some_judgement : (old : Edited) (line : List ℕ) → (outcome : Result Stored Fault) × IsLineJudgement old line outcome
some_judgement old line =
    elim (cases_lt max_edit (length line)) [
      | inl long ↦ (Err too_long, record { long = λ h. refl; short = λ h. absurd (past max_edit (length line) long h) })
      | inr short ↦ let o = of_text old line in
          (o.0, record { long = λ h. absurd (past max_edit (length line) h short); short = λ h. o.1 })
    ]

abbrev Answer : Edited → List ℕ → Type 0
Answer old line = (reply : List ℕ) × (is_refused : Bool) × (new : Edited) × EditStep old line reply is_refused new

answer_of : (old : Edited) (line : List ℕ) (outcome : Result Stored Fault)
    → IsLineJudgement old line outcome → Answer old line
answer_of old line outcome judged = (
  text (reply_tree old.revision outcome) ++ 10 ∷ [],
  is_err outcome,
  after_line old outcome,
  record { outcome = outcome; judged = judged; replied = refl; refused = refl; left = refl },
)

pub some_step : (old : Edited) (line : List ℕ)
    → (reply : List ℕ) × (is_refused : Bool) × (new : Edited) × EditStep old line reply is_refused new
some_step old line = let j = some_judgement old line in answer_of old line j.0 j.1

-- ---- the front of a long line

front_judged : (old : Edited) (line : List ℕ) (outcome : Result Stored Fault)
    → IsLineJudgement old (take (max_edit + 1) line) outcome → IsLineJudgement old line outcome
front_judged old line outcome judged = record {
  long = λ h. judged.long (front_long max_edit line h);
  short = λ h. (subst (λ l. IsLineJudgement old l outcome) (front_whole max_edit line h) judged).short h;
}

pub step_by_front : (old : Edited) (line reply : List ℕ) (is_refused : Bool) (new : Edited)
    → EditStep old (take (max_edit + 1) line) reply is_refused new → EditStep old line reply is_refused new
step_by_front old line reply is_refused new step =
    record {
      outcome = step.outcome;
      judged = front_judged old line step.outcome step.judged;
      replied = step.replied;
      refused = step.refused;
      left = step.left;
    }
