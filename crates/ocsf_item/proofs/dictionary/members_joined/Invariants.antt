use Rattle.std.proofs.Common.{◌≡◌, ◌++◌, take}
use Rattle.ocsf_item.proofs.dictionary.members_joined.Given as goal

abbrev pub invariant-loop-member : goal.invariant-loop-member
invariant-loop-member l = l.made ≡ l.first ++ take l.member-index l.then
