-- A report is empty just where the files that its schema is compiled of allow the event.
use Rattle.std.proofs.Common.{◌≡◌, List, [], ◌∷◌, map, refl, ap, subst}
use Rattle.std.specs.Prelude.{◌↔◌}
use Rattle.ocsf_tree.specs.declared.tree.Tree.{Tree}
use Rattle.ocsf_tree.specs.Valid.{IsValid}
use Rattle.ocsf_schema.specs.declared.parts.SchemaParts.{SchemaParts}
use Rattle.ocsf_bundle.specs.Stored.{Stored}
use Rattle.ocsf_rules.specs.Compilation.{compilation}
use Rattle.ocsf_rules.specs.Verdict.{IsFaultless}
use Rattle.ocsf_event_rules.specs.Violations.{IsReport}
use Rattle.ocsf_event_laws.specs.FilesAllow.{IsAllowedByFiles}
use Rattle.ocsf_event_laws.proofs.Events.{report_is_empty_where_files_allow}
use Rattle.ocsf_event.specs.declared.violation.Violation.{Violation}
use Rattle.ocsf_event.specs.Code.{told_violation}

none_told : (made : List Violation) → map told_violation made ≡ [] → made ≡ []
none_told [] e = refl
none_told (v ∷ vs) e = cc

pub empty_over_files : (schema : SchemaParts) (event : Tree) (made : List Violation) → IsValid event → IsReport schema event (map told_violation made)
    → (bundle : Stored) → IsFaultless bundle → schema ≡ compilation bundle → ((made ≡ []) ↔ IsAllowedByFiles bundle event)
empty_over_files schema event made valid is bundle sound same =
    let law = report_is_empty_where_files_allow bundle event (map told_violation made) sound valid
    (subst (λ (s : SchemaParts). IsReport s event (map told_violation made)) same is) in
    (λ e. law.0 (ap (map told_violation) e), λ allowed. none_told made (law.1 allowed))
