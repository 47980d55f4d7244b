use Rattle.std.proofs.Common.{List}
use Rattle.ocsf_event.specs.declared.violation.Violation.{Violation}
use Rattle.ocsf_event.proofs.GainedParts.{if_ok}
use Rattle.ocsf_event.proofs.OverFiles.{empty_over_files}
use Rattle.ocsf_event.proofs.Reports.{reported}
use Rattle.ocsf_event.proofs.reporting.report.Goals as goal

pub returns-clause-report : goal.returns-clause-report
returns-clause-report c =
    if_ok c.in_order.result c.in_order.ensures
    (λ (made : List Violation) is. reported c.args.schema.now c.args.event.now _ _ _ made c.in_ok-judge.ensures c.new-notes.ensures.found c.into_found.ensures is)

pub returns-clause-files : goal.returns-clause-files
returns-clause-files c =
    if_ok c.in_order.result c.in_order.ensures
    (λ (made : List Violation) is. empty_over_files c.args.schema.now c.args.event.now made c.requires
    (reported c.args.schema.now c.args.event.now _ _ _ made c.in_ok-judge.ensures c.new-notes.ensures.found c.into_found.ensures is))
