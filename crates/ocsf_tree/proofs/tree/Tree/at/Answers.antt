use Rattle.std.proofs.Common.{sym, subst}
use Rattle.std.specs.Option.{IfSome}
use Rattle.ocsf_tree.specs.Valid.{IsValid, IsValidMembers}
use Rattle.ocsf_tree.proofs.Valid.{members_of_valid, member_valid, of_ref}
use Rattle.ocsf_tree.proofs.tree.Tree.at.Goals as goal

pub returns-in-Members-clause-valid : goal.returns-in-Members-clause-valid
returns-in-Members-clause-valid c =
    let members = members_of_valid c.in-Members.members (subst IsValid c.in-Members.is c.requires) in
    let listed = subst IsValidMembers (sym c.as_slice.ensures) members in
    of_ref c.find.result (subst (λ o. IfSome o IsValid) (sym c.find.ensures) (member_valid c.args.name.now c.as_slice.result.now listed))
