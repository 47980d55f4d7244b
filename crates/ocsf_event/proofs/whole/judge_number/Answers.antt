use mir.Syntax.{w128}
use Rattle.std.proofs.Common.{◌≡◌, [], ◌∷◌, Some, sym, ◌∙◌, subst, of_z, rules}
use Rattle.std.specs.Prelude.{codes}
use Rattle.std.specs.Fmt.{signed_decimal}
use Rattle.ocsf_tree.specs.declared.place.Step.TheVariants.{Name}
use Rattle.ocsf_event_rules.specs.EventClass.{whole_of}
use Rattle.ocsf_event_rules.specs.Conditions.{expected_type}
use Rattle.ocsf_event.specs.declared.violation.Wrong.TheVariants as code
use Rattle.ocsf_event.specs.Noted.{Noted}
use Rattle.ocsf_event.specs.Walk.{IsThis}
use Rattle.ocsf_event.proofs.AsAWhole.{gains_mismatch}
use Rattle.ocsf_event.proofs.GainedParts.{on_ok}
use Rattle.ocsf_event.proofs.Noted.{noted_by}
use Rattle.ocsf_event.proofs.whole.judge_number.Goals as goal

pub returns : goal.returns
returns c =
    let number = c.args.number in
    let members = c.args.members.now in
    let given = c.in-Some.given in
    let activity = c.in-Some-whole_at.activity in
    let expected = expected_type number activity in
    let typed : whole_of (codes "type_uid") members ≡ Some given = search rules in
    let active : whole_of (codes "activity_id") members ≡ Some activity = search rules in
    let detail : c.as_str.result.now ≡ signed_decimal expected = search rules in
    let asked : c.expected_type-expected.result ≡ expected = search rules in
    let differ : given ≡ expected → ⊥ = λ e. c.if-given-expected.false (λ i. of_z w128 ((e ∙ sym asked) i)) in
    on_ok c.put.result c.put.ensures
    (λ n. noted_by (λ g. gains_mismatch number members given activity typed active _ _ differ g)
    (subst (λ d. Noted (λ way. IsThis (Name (codes "type_uid") ∷ []) code.NumberMismatch d) c.args.notes.now c.put.new.self) detail
    (subst (λ p. Noted (λ way. IsThis p code.NumberMismatch c.as_str.result.now) c.args.notes.now c.put.new.self) c.in_ok-at_root.ensures n)))
