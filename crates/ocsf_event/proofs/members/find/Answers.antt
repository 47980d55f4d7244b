use Rattle.std.proofs.Common.{◌≡◌, option_map, sym, ap, ◌∙◌, rules}
use Rattle.std.specs.Option.{option_copied}
use Rattle.ocsf_tree.specs.declared.tree.Member.{Member}
use Rattle.ocsf_tree.specs.Lookup.{member_in}
use Rattle.ocsf_tree.proofs.MembersByName.{members_by_name, member_in-at_name}
use Rattle.ocsf_event.proofs.members.find.Goals as goal

pub find_by_name-requires : goal.find_by_name-requires
find_by_name-requires c = members_by_name c.args.members.now c.requires

pub returns-in-Some : goal.returns-in-Some
returns-in-Some c =
    let found : member_in c.args.name.now c.args.members.now ≡ option_map (λ (m : Member). m.value) (option_copied c.find_by_name.result) =
    member_in-at_name c.args.name.now c.args.members.now ∙ ap (option_map (λ (m : Member). m.value)) (sym c.find_by_name.ensures) in
    search rules

pub returns-in-None : goal.returns-in-None
returns-in-None c =
    let found : member_in c.args.name.now c.args.members.now ≡ option_map (λ (m : Member). m.value) (option_copied c.find_by_name.result) =
    member_in-at_name c.args.name.now c.args.members.now ∙ ap (option_map (λ (m : Member). m.value)) (sym c.find_by_name.ensures) in
    search rules
