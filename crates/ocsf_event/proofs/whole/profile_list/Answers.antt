use Rattle.std.proofs.Common.{◌≡◌, Some, subst, rules}
use Rattle.std.specs.Prelude.{codes}
use Rattle.std.specs.Option.{IfSome}
use Rattle.ocsf_tree.specs.Lookup.{member_in}
use Rattle.ocsf_tree.specs.Valid.{IsValid}
use Rattle.ocsf_tree.proofs.Valid.{member_valid}
use Rattle.ocsf_event.proofs.whole.profile_list.Goals as goal

pub listed_at-requires : goal.listed_at-requires
listed_at-requires c =
    let found : member_in (codes "metadata") c.args.members.now ≡ Some c.in-Some.metadata.now = search rules in
    subst (λ o. IfSome o IsValid) found (member_valid (codes "metadata") c.args.members.now c.requires)
