use Rattle.std.proofs.Common.{◌≡◌, ◌∷◌, take, codes}
use Rattle.std.specs.Prelude.{flat_map}
use Rattle.ocsf_bundle.specs.Listing.{category_keys, in_byte_order}
use Rattle.ocsf_bundle.proofs.listing.category_keys.Given as goal

abbrev pub invariant-loop-file : goal.invariant-loop-file
invariant-loop-file l = l.keys.keys ≡ in_byte_order (codes "other" ∷ flat_map category_keys (take l.file-index l.files))
