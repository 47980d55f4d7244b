use Rattle.std.proofs.Common.{◌≡◌, [], ◌∷◌, subst, rules}
use Rattle.std.specs.Prelude.{codes}
use Rattle.ocsf_tree.specs.declared.place.Step.TheVariants.{Name}
use Rattle.ocsf_event.specs.declared.violation.Wrong.TheVariants as code
use Rattle.ocsf_event_rules.specs.EventClass.{whole_of}
use Rattle.ocsf_event_rules.specs.Violations.{whole_text}
use Rattle.ocsf_event.specs.Noted.{Noted}
use Rattle.ocsf_event.specs.Walk.{IsThis}
use Rattle.ocsf_event.proofs.GainedParts.{on_ok}
use Rattle.ocsf_event.proofs.reporting.judge_classless.Goals as goal

pub returns : goal.returns
returns c =
    let detail : c.as_str.result.now ≡ whole_text (whole_of (codes "class_uid") c.args.members.now) = search rules in
    on_ok c.put.result c.put.ensures
    (λ n. subst (λ d. Noted (λ way. IsThis (Name (codes "class_uid") ∷ []) code.ClassUnknown d) c.args.notes.now c.put.new.self) detail
    (subst (λ p. Noted (λ way. IsThis p code.ClassUnknown c.as_str.result.now) c.args.notes.now c.put.new.self) c.in_ok-at_root.ensures n))
