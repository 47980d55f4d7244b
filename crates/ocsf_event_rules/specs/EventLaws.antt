-- Laws of events: the statements of the functions in src/event_laws.rt, each of all schemas and events.
use Rattle.std.specs.Prelude.{◌≡◌, ◌↔◌, ℕ, List, []}
use Rattle.ocsf_tree.specs.declared.tree.Tree.{Tree}
use Rattle.ocsf_tree.specs.declared.place.Step.{Step}
use Rattle.ocsf_tree.specs.Valid.{IsValid}
use Rattle.ocsf_schema.specs.declared.parts.SchemaParts.{SchemaParts}
use Rattle.ocsf_event_rules.specs.Allowed.{IsAllowed}
use Rattle.ocsf_event_rules.specs.Wrong.{Violation}
use Rattle.ocsf_event_rules.specs.Violations.{IsViolation, IsReport}

-- nothing is wrong with an event that is allowed
abbrev pub AllowedIsFaultless : Type 0
AllowedIsFaultless = (schema : SchemaParts) (event : Tree) (place : List Step) (code : ℕ) (detail : List ℕ)
    → IsAllowed schema event → IsViolation schema event place code detail → ⊥

-- and an event with which nothing is wrong is allowed
abbrev pub FaultlessIsAllowed : Type 0
FaultlessIsAllowed = (schema : SchemaParts) (event : Tree) → IsValid event
    → ((place : List Step) (code : ℕ) (detail : List ℕ) → IsViolation schema event place code detail → ⊥)
    → IsAllowed schema event

-- an event's report is empty just where the event is allowed
abbrev pub ReportIsEmptyWhereAllowed : Type 0
ReportIsEmptyWhereAllowed = (schema : SchemaParts) (event : Tree) (report : List Violation) → IsValid event
    → IsReport schema event report → ((report ≡ []) ↔ IsAllowed schema event)

-- an event has one report
abbrev pub HasOneReport : Type 0
HasOneReport =
    (schema : SchemaParts) (event : Tree) (r s : List Violation) → IsReport schema event r → IsReport schema event s
    → r ≡ s

-- and every event has a report
abbrev pub HasSomeReport : Type 0
HasSomeReport = (schema : SchemaParts) (event : Tree) → IsValid event
    → (report : List Violation) × IsReport schema event report
