use Rattle.std.proofs.Common.{◌≡◌, [], Some, None, sym, ◌∙◌, ap, subst, rules}
use Rattle.std.specs.Prelude.{codes, unwrap_or}
use Rattle.std.specs.Option.{option_and_then}
use Rattle.ocsf_tree.specs.declared.tree.Tree.TheVariants as tree
use Rattle.ocsf_tree.specs.Lookup.{member_in, member_at}
use Rattle.ocsf_event_rules.specs.Profiles.{as_list, profile_list}
use Rattle.ocsf_event.specs.Noted.{Noted}
use Rattle.ocsf_event.specs.Walk.{IsMismatch, AreNoProfiles}
use Rattle.ocsf_event.proofs.AsAWhole.{event_list, noted_no_profiles}
use Rattle.ocsf_event.proofs.GainedParts.{on_ok}
use Rattle.ocsf_event.proofs.Noted.{noted_both}
use Rattle.ocsf_event.proofs.whole.judge_event.Goals as goal

pub returns-in-Some : goal.returns-in-Some
returns-in-Some c =
    let schema = c.args.schema.now in
    let members = c.args.members.now in
    let some : option_and_then as_list (option_and_then (member_at (codes "profiles")) (member_in (codes "metadata") c.args.members.now)) ≡ Some c.as_slice.result.now = search rules in
    let listed = event_list members ∙ ap (λ o. unwrap_or o []) some in
    on_ok c.judge_profiles.result c.judge_profiles.ensures
    (λ m. noted_both (λ place. IsMismatch c.args.number members) (λ place. AreNoProfiles schema (profile_list (tree.Members members))) _ _ _
    c.in_ok-judge_number.ensures
    (subst (λ items. Noted (λ place. AreNoProfiles schema items) c.judge_number.new.notes c.judge_profiles.new.notes) (sym listed) m))

pub returns-in-None : goal.returns-in-None
returns-in-None c =
    let schema = c.args.schema.now in
    let members = c.args.members.now in
    let none : option_and_then as_list (option_and_then (member_at (codes "profiles")) (member_in (codes "metadata") c.args.members.now)) ≡ None = search rules in
    let listed = event_list members ∙ ap (λ o. unwrap_or o []) none in
    noted_both (λ place. IsMismatch c.args.number members) (λ place. AreNoProfiles schema (profile_list (tree.Members members))) _ _ _
    c.in_ok-judge_number.ensures
    (subst (λ items. Noted (λ place. AreNoProfiles schema items) c.judge_number.new.notes c.judge_number.new.notes) (sym listed) (noted_no_profiles schema c.judge_number.new.notes))
