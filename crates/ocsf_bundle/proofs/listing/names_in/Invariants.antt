use Rattle.std.proofs.Common.{◌≡◌, ◌++◌}
use Rattle.ocsf_bundle.proofs.listing.names_in.Given as goal

abbrev pub invariant-loop-name : goal.invariant-loop-name
invariant-loop-name l = l.made ++ l.name-iterator ≡ l.fn.names.keys
