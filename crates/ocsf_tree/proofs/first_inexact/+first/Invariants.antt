use Rattle.std.proofs.Common.{◌≡◌, drop}
use Rattle.serde_json.specs.View.{items_view, members_view}
use Rattle.ocsf_tree.specs.FirstInexact.{first_item, first_member}
use Rattle.ocsf_tree.proofs.first_inexact.+first.Given as goal

abbrev pub invariant-first_in_items-loop-index : goal.invariant-first_in_items-loop-index
invariant-first_in_items-loop-index l = first_item 0 (items_view l.items) ≡ first_item l.index (items_view (drop l.index l.items))

abbrev pub invariant-first_in_members-loop-name : goal.invariant-first_in_members-loop-name
invariant-first_in_members-loop-name l = first_member (members_view l.members.entries) ≡ first_member (members_view l.name-iterator)
