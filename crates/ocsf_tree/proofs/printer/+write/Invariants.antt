use Rattle.std.proofs.Common.{◌≡◌, ◌++◌, true, drop}
use Rattle.json.specs.Tree.{items_tokens, members_tokens}
use Rattle.serde_json.specs.Written.{items_outline, members_outline}
use Rattle.ocsf_tree.specs.Data.{list_data, members_data}
use Rattle.ocsf_tree.specs.Valid.{are_valid, members_valid}
use Rattle.ocsf_tree.proofs.printer.+write.Given as goal

-- what is written, and what is left to write
abbrev pub invariant-write_items-loop-item : goal.invariant-write_items-loop-item
invariant-write_items-loop-item l = record {
  before : l.out.before ≡ l.initial.out.before;
  all : l.out.tokens ++ items_tokens (items_outline (list_data (drop l.item-index l.items)))
      ≡ l.initial.out.tokens ++ items_tokens (items_outline (list_data l.items));
  valid : are_valid (list_data (drop l.item-index l.items)) ≡ true;
}

abbrev pub invariant-write_members-loop-member : goal.invariant-write_members-loop-member
invariant-write_members-loop-member l = record {
  before : l.out.before ≡ l.initial.out.before;
  all : l.out.tokens ++ members_tokens (members_outline (members_data (drop l.member-index l.members)))
      ≡ l.initial.out.tokens ++ members_tokens (members_outline (members_data l.members));
  valid : members_valid (members_data (drop l.member-index l.members)) ≡ true;
}
