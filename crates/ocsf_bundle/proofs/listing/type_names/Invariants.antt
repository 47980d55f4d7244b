use Rattle.std.proofs.Common.{◌≡◌, take}
use Rattle.std.specs.Prelude.{flat_map}
use Rattle.ocsf_bundle.specs.Listing.{type_names, in_byte_order}
use Rattle.ocsf_bundle.proofs.listing.type_names.Given as goal

abbrev pub invariant-loop-file : goal.invariant-loop-file
invariant-loop-file l = l.names.keys ≡ in_byte_order (flat_map type_names (take l.file-index l.files))
