use Rattle.std.proofs.Common.{◌≡◌, false, rules, subst, ap}
use Rattle.ocsf_tree.specs.declared.tree.Tree.{out-Tree, the_lemmas}
use Rattle.ocsf_tree.specs.declared.tree.Tree.TheOpen.{Tree-F}
use Rattle.ocsf_tree.specs.Lookup.{text_of}
use Rattle.ocsf_event_rules.specs.Profiles.{is_profile}
use Rattle.ocsf_event_rules.specs.Violations.{profile_place}
use Rattle.ocsf_event.specs.declared.violation.Wrong.TheVariants as code
use Rattle.ocsf_event.specs.Noted.{Noted}
use Rattle.ocsf_event.specs.Walk.{IsThis}
use Rattle.ocsf_event.proofs.AsAWhole.{gains_no_profile}
use Rattle.ocsf_event.proofs.GainedParts.{on_ok}
use Rattle.ocsf_event.proofs.Noted.{noted_by}
use Rattle.ocsf_event.proofs.whole.judge_profile.Goals as goal

pub returns : goal.returns
returns c =
    let profile = c.in-Words.profile in
    let shown : out-Tree c.args.item.now ≡ Tree-F.Words profile = search (rules, the_lemmas) in
    let unknown : is_profile c.args.schema.now profile ≡ false = search rules in
    let detail : c.as_str-2.result.now ≡ profile = search rules in
    on_ok c.put.result c.put.ensures
    (λ n. noted_by (λ g. gains_no_profile c.args.schema.now c.args.position c.args.item.now profile (ap text_of shown) _ _ unknown g)
    (subst (λ d. Noted (λ way. IsThis (profile_place c.args.position) code.ProfileUnknown d) c.args.notes.now c.put.new.self) detail
    (subst (λ p. Noted (λ way. IsThis p code.ProfileUnknown c.as_str-2.result.now) c.args.notes.now c.put.new.self) c.in_ok-place.ensures n)))
