use Rattle.std.proofs.Common.{◌≡◌, [], Some, None, sym, ◌∙◌, ap, rules}
use Rattle.std.specs.Prelude.{codes, unwrap_or, filter_map}
use Rattle.std.specs.Option.{option_and_then}
use Rattle.ocsf_tree.specs.Lookup.{member_in, member_at}
use Rattle.ocsf_event_rules.specs.Profiles.{as_list, as_text}
use Rattle.ocsf_event.proofs.AsAWhole.{event_list}
use Rattle.ocsf_event.proofs.GainedParts.{if_ok}
use Rattle.ocsf_event.proofs.reporting.profiles_of.Goals as goal

pub returns-in-Some : goal.returns-in-Some
returns-in-Some c =
    let some : option_and_then as_list (option_and_then (member_at (codes "profiles")) (member_in (codes "metadata") c.args.members.now)) ≡ Some c.as_slice.result.now = search rules in
    if_ok c.texts_of.result c.texts_of.ensures
    (λ made is. is ∙ ap (filter_map as_text) (sym (event_list c.args.members.now ∙ ap (λ o. unwrap_or o []) some)))

pub returns-in-None : goal.returns-in-None
returns-in-None c =
    let none : option_and_then as_list (option_and_then (member_at (codes "profiles")) (member_in (codes "metadata") c.args.members.now)) ≡ None = search rules in
    c.new.ensures ∙ ap (filter_map as_text) (sym (event_list c.args.members.now ∙ ap (λ o. unwrap_or o []) none))
