use Rattle.std.proofs.Common.{◌≡◌, map, take}
use Rattle.ocsf_schema.specs.Print.{enum_member}
use Rattle.ocsf_schema.proofs.fields.enum_members.Given as goal

abbrev pub invariant-loop-member : goal.invariant-loop-member
invariant-loop-member l = l.made ≡ map enum_member (take l.member-index l.list)
