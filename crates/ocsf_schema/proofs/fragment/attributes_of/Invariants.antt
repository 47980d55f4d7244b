use Rattle.std.proofs.Common.{◌≡◌, map, take}
use Rattle.ocsf_schema.specs.Print.{attribute_member}
use Rattle.ocsf_schema.proofs.fragment.attributes_of.Given as goal

abbrev pub invariant-loop-attr : goal.invariant-loop-attr
invariant-loop-attr l = l.made ≡ map attribute_member (take l.attr-index l.attrs)
