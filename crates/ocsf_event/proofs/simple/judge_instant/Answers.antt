use Rattle.std.proofs.Common.{true≢false, sym, ◌∙◌}
use Rattle.ocsf_event.specs.declared.violation.Wrong.TheVariants as code
use Rattle.ocsf_event.proofs.GainedParts.{on_ok}
use Rattle.ocsf_event.proofs.Kinded.{gains_broken}
use Rattle.ocsf_event.proofs.Noted.{noted_by}
use Rattle.ocsf_event.proofs.simple.judge_instant.Goals as goal

pub returns : goal.returns
returns c =
    let detail = c.as_str.result.now in
    on_ok c.add.result c.add.ensures
    (λ n. noted_by (λ g. gains_broken c.args.limit.now c.args.value.now c.args.notes.now.place.items _ _ code.NotAnInstant detail
    (λ d w. w.1 ∙ sym c.as_str.ensures)
    (λ m. true≢false (sym c.if-not-is_no_instant.false ∙ c.is_no_instant.ensures.1 m), c.as_str.ensures) g) n)
