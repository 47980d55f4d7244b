-- The law of events over files: the statement of the function in src/file_laws.rt, of all bundles and events.
use Rattle.std.specs.Prelude.{◌≡◌, ◌↔◌, List, []}
use Rattle.ocsf_tree.specs.declared.tree.Tree.{Tree}
use Rattle.ocsf_tree.specs.Valid.{IsValid}
use Rattle.ocsf_bundle.specs.Stored.{Stored}
use Rattle.ocsf_rules.specs.Compilation.{compilation}
use Rattle.ocsf_rules.specs.Verdict.{IsFaultless}
use Rattle.ocsf_event_rules.specs.Wrong.{Violation}
use Rattle.ocsf_event_rules.specs.Violations.{IsReport}
use Rattle.ocsf_event_laws.specs.FilesAllow.{IsAllowedByFiles}

-- where nothing is wrong with a bundle, the report by its compilation is empty just where the files allow the event
abbrev pub ReportIsEmptyWhereFilesAllow : Type 0
ReportIsEmptyWhereFilesAllow = (bundle : Stored) (event : Tree) (report : List Violation) → IsFaultless bundle
    → IsValid event → IsReport (compilation bundle) event report
    → ((report ≡ []) ↔ IsAllowedByFiles bundle event)
