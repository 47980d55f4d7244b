use Rattle.std.proofs.Common.{◌≡◌, take}
use Rattle.std.specs.Prelude.{flat_map}
use Rattle.ocsf_bundle.specs.Listing.{attribute_names, in_byte_order}
use Rattle.ocsf_bundle.proofs.listing.attribute_names.Given as goal

abbrev pub invariant-loop-file : goal.invariant-loop-file
invariant-loop-file l = l.names.keys ≡ in_byte_order (flat_map attribute_names (take l.file-index l.files))
