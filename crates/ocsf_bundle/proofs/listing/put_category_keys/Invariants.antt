use Rattle.std.proofs.Common.{◌≡◌, ℕ, List, ◌++◌, map, take}
use Rattle.ocsf_bundle.specs.Keys.{key_of}
use Rattle.ocsf_bundle.specs.Listing.{in_byte_order}
use Rattle.ocsf_bundle.proofs.listing.put_category_keys.Given as goal

abbrev pub invariant-loop-entry : goal.invariant-loop-entry
invariant-loop-entry l =
    (before : List (List ℕ)) → l.fn.keys.keys ≡ in_byte_order before → l.keys.keys ≡ in_byte_order (before ++ map (λ entry. key_of l.file entry.name) (take l.entry-index l.entry-items))
