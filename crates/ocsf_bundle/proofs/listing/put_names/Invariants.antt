use Rattle.std.proofs.Common.{◌≡◌, ℕ, List, ◌++◌, map, take}
use Rattle.ocsf_bundle.specs.Listing.{in_byte_order}
use Rattle.ocsf_bundle.proofs.listing.put_names.Given as goal

abbrev pub invariant-loop-item : goal.invariant-loop-item
invariant-loop-item g l =
    (before : List (List ℕ)) → l.fn.names.keys ≡ in_byte_order before → l.names.keys ≡ in_byte_order (before ++ map g.T.Named.name_of (take l.item-index l.items))
