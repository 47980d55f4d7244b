-- The command `validate`: what each line is answered.
use Rattle.std.specs.Prelude.{
  ◌≡◌,
  ℕ,
  ◌≤◌,
  ◌<◌,
  ◌^◌,
  List,
  [],
  ◌∷◌,
  ◌++◌,
  length,
  Bool,
  true,
  false,
  codes,
  Result,
  Ok,
  Err,
}
use Rattle.ocsf_edge.specs.declared.records.KeptFile.{KeptFile}
use Rattle.ocsf_tree.specs.declared.tree.Tree.{Tree}
use Rattle.ocsf_tree.specs.declared.tree.Tree.TheVariants as tree
use Rattle.ocsf_tree.specs.declared.fault.Code.TheVariants as code
use Rattle.ocsf_tree.specs.declared.fault.Fault.{Fault}
use Rattle.ocsf_tree.specs.declared.reader.TreeError.{TreeError}
use Rattle.ocsf_tree.specs.declared.reader.TreeError.TheVariants.{NotJson, NumberNotWhole, Memory}
use Rattle.ocsf_tree.specs.CompactText.{text}
use Rattle.ocsf_tree.specs.Place.{pointer_text}
use Rattle.ocsf_tree.specs.Reading.{IsReading}
use Rattle.ocsf_schema.specs.declared.parts.SchemaParts.{SchemaParts}
use Rattle.ocsf_event_rules.specs.Wrong.{Violation}
use Rattle.ocsf_event_rules.specs.Violations.{IsReport}
use Rattle.ocsf_event.specs.Answer.{report_tree}
use Rattle.ocsf_lines.specs.Run.{Output, Replies}
use Rattle.ocsf_tool.specs.Edits.{line_fault, member, fault_tree}
use Rattle.ocsf_tool.specs.Folders.{IsCompiled}

-- ---- how a line is judged

-- of what a line reads as: the event's report, or why it isn't read
abbrev pub IsEventOutcome : SchemaParts → Result Tree TreeError → Result (List Violation) Fault → Type 0
IsEventOutcome schema (Ok event) (Ok report) = IsReport schema event report
IsEventOutcome schema (Ok event) (Err fault) = ⊥
IsEventOutcome schema (Err NotJson) outcome = outcome ≡ Err (line_fault code.NotJson [])
IsEventOutcome schema (Err (NumberNotWhole place)) outcome =
    outcome ≡ Err (line_fault code.NumberNotWhole (pointer_text place.steps))
IsEventOutcome schema (Err Memory) outcome = ⊥

pub record IsReadEvent (schema : SchemaParts) (line : List ℕ) (outcome : Result (List Violation) Fault) : Type 0 where
  pub reading : Result Tree TreeError
  pub reads : IsReading line reading
  pub judged : IsEventOutcome schema reading outcome

-- the longest line of an event: 1 MiB
abbrev pub max_event : ℕ
max_event = 2 ^ 20

abbrev pub event_too_long : Fault
event_too_long = line_fault code.Limit (codes "event")

-- a longer line is unread
pub record IsEventJudgement (schema : SchemaParts) (line : List ℕ) (outcome : Result (List Violation) Fault) : Type 0
  where
    pub long : max_event < length line → outcome ≡ Err event_too_long
    pub short : length line ≤ max_event → IsReadEvent schema line outcome

-- ---- the reply

abbrev pub unread_tree : Fault → Tree
unread_tree fault = tree.Members (member (codes "unread") (fault_tree fault) ∷ [])

abbrev pub event_tree : Result (List Violation) Fault → Tree
event_tree (Ok report) = report_tree report
event_tree (Err fault) = unread_tree fault

-- it is other than the report that lists nothing
abbrev pub is_event_flawed : Result (List Violation) Fault → Bool
is_event_flawed (Ok []) = false
is_event_flawed (Ok (violation ∷ more)) = true
is_event_flawed (Err fault) = true

-- A line is judged by the schema alone, whatever came before it.
pub record EventStep (schema : SchemaParts) (line reply : List ℕ) (is_flawed : Bool) (new : SchemaParts) : Type 0 where
  pub outcome : Result (List Violation) Fault
  pub judged : IsEventJudgement schema line outcome
  pub replied : reply ≡ text (event_tree outcome) ++ 10 ∷ []
  pub flawed : is_flawed ≡ is_event_flawed outcome
  pub same : new ≡ schema

-- nothing follows the replies
abbrev pub events_print : SchemaParts → List ℕ
events_print schema = []

-- ---- the output

-- The whole output of `validate` over a folder that compiles and these bytes: a reply to each line. Tells whether one
-- is other than the empty report.
pub record ValidateOutput (dir : List ℕ) (lying : List KeptFile) (bytes out : List ℕ) (is_flawed : Bool) : Type 0 where
  pub schema : SchemaParts
  pub compiled : IsCompiled dir lying (Ok schema)
  pub replies : Output EventStep events_print schema bytes out is_flawed

-- the replies to the lines that a line feed ends, and nothing else
pub record ValidateReplies (dir : List ℕ) (lying : List KeptFile) (bytes out : List ℕ) : Type 0 where
  pub schema : SchemaParts
  pub compiled : IsCompiled dir lying (Ok schema)
  pub replies : Replies EventStep schema bytes out
