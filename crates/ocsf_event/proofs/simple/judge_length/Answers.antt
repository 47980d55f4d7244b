use Rattle.std.proofs.Common.{◌≡◌, true≢false, Some, sym, ◌∙◌, rules}
use Rattle.std.specs.Prelude.{decimal}
use Rattle.std.specs.Option.{option_map}
use Rattle.std.proofs.lemmas.Option.{same_Some}
use Rattle.ocsf_event.specs.declared.violation.Wrong.TheVariants as code
use Rattle.ocsf_event.proofs.GainedParts.{on_ok}
use Rattle.ocsf_event.proofs.Kinded.{gains_broken}
use Rattle.ocsf_event.proofs.Noted.{noted_by}
use Rattle.ocsf_event.proofs.simple.judge_length.Goals as goal

pub returns-in_ok-detail-in-Some : goal.returns-in_ok-detail-in-Some
returns-in_ok-detail-in-Some c =
    let detail = c.as_str.result.now in
    let is : option_map decimal c.args.limit.now.max_len ≡ Some c.as_str.result.now = search rules in
    on_ok c.add.result c.add.ensures
    (λ n. noted_by (λ g. gains_broken c.args.limit.now c.args.value.now c.args.notes.now.place.items _ _ code.TooLong detail
    (λ d w. same_Some d detail (sym w.1 ∙ is))
    (λ m. true≢false (sym c.if-not-breaks.false ∙ c.breaks.ensures.1 m), is) g) n)
