use Rattle.std.proofs.Common.{◌≡◌, drop}
use Rattle.ocsf_tree.specs.Data.{list_data, members_data}
use Rattle.ocsf_tree.specs.Equality.{same_items, same_members}
use Rattle.ocsf_tree.proofs.equality.+compare.Given as goal

abbrev pub invariant-compare_items-loop-index : goal.invariant-compare_items-loop-index
invariant-compare_items-loop-index l = same_items (list_data l.a) (list_data l.b) ≡ same_items (list_data (drop l.index l.a)) (list_data (drop l.index l.b))

abbrev pub invariant-compare_members-loop-index : goal.invariant-compare_members-loop-index
invariant-compare_members-loop-index l = same_members (members_data l.a) (members_data l.b) ≡ same_members (members_data (drop l.index l.a)) (members_data (drop l.index l.b))
