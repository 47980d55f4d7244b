-- A report is empty just where the event is allowed.
use Rattle.std.proofs.Common.{◌≡◌, List, [], ◌∷◌, refl, subst, arith}
use Rattle.std.specs.Prelude.{Contains}
use Rattle.ocsf_tree.specs.declared.tree.Tree.{Tree}
use Rattle.ocsf_schema.specs.declared.parts.SchemaParts.{SchemaParts}
use Rattle.ocsf_event_rules.specs.Allowed.{IsAllowed}
use Rattle.ocsf_event_rules.specs.EventLaws.{ReportIsEmptyWhereAllowed}
use Rattle.ocsf_event_rules.specs.Wrong.{Violation}
use Rattle.ocsf_event_rules.specs.Violations.{IsReport}
use Rattle.ocsf_event_rules.proofs.AllowedEvents.{allowed_is_faultless}
use Rattle.ocsf_event_rules.proofs.FaultlessEvents.{faultless_is_allowed}

none_listed : (v : Violation) → Contains [] v → ⊥
none_listed v c = let lt = c.1 in absurd (omega (arith, lt))

empty : (schema : SchemaParts) (event : Tree) (report : List Violation) → IsReport schema event report
    → IsAllowed schema event → report ≡ []
empty schema event [] is allowed = refl
empty schema event (v ∷ vs) is allowed =
    absurd (allowed_is_faultless schema event v.place v.code v.detail allowed ((is.listed v).0 (0, omega arith, refl)))

pub report_is_empty : ReportIsEmptyWhereAllowed
report_is_empty schema event report valid is = (
  λ none. faultless_is_allowed schema event valid (λ place code detail wrong.
      let v : Violation = record { place = place; code = code; detail = detail } in
      none_listed v (subst (λ r. Contains r v) none ((is.listed v).1 wrong))),
  λ allowed. empty schema event report is allowed,
)
