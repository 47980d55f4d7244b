use Rattle.std.proofs.Common.{sym, ap, ap₂, ◌∙◌}
use Rattle.ocsf_tree.specs.Data.{data_of, members_data}
use Rattle.ocsf_tree.specs.Equality.{same, same_members}
use Rattle.ocsf_tree.proofs.Views.{data_of-Members}
use Rattle.ocsf_tree.proofs.Compared.{other_lengths, other_counts}
use Rattle.ocsf_tree.proofs.equality.+compare.Goals as goal

pub compare-returns-in-Members-Members : goal.compare-returns-in-Members-Members
compare-returns-in-Members-Members t c =
    let both = c.in-Members-Members in
    let a = ap data_of both.is-0 ∙ data_of-Members both.x in
    let b = ap data_of both.is-1 ∙ data_of-Members both.y in
    let listed = ap₂ (λ x y. same_members (members_data x) (members_data y)) c.as_slice-in-Members-Members.ensures c.as_slice-in-Members-Members-2.ensures in
    c.compare_members.ensures ∙ listed ∙ sym (ap₂ same a b)

pub compare_items-returns-then-a-b : goal.compare_items-returns-then-a-b
compare_items-returns-then-a-b t c = sym (other_lengths c.args.a.now c.args.b.now c.if-a-b.true)

pub compare_members-returns-then-a-b : goal.compare_members-returns-then-a-b
compare_members-returns-then-a-b t c = sym (other_counts c.args.a.now c.args.b.now c.if-a-b.true)
