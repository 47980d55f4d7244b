use Rattle.std.proofs.Common.{◌≡◌}
use Rattle.std.specs.List.{filter_map}
use Rattle.ocsf_tree.specs.LeastFault.{least_fault}
use Rattle.ocsf_bundle.proofs.Noted.{left_of}
use Rattle.ocsf_compiler.specs.Building.{clash_in}
use Rattle.ocsf_compiler.proofs.schema_fault.uid_clash.Given as goal

abbrev pub invariant-loop-piece : goal.invariant-loop-piece
invariant-loop-piece l =
    left_of (clash_in l.schema.pieces) l.pieces l.least l.piece-index ≡ least_fault (filter_map (clash_in l.schema.pieces) l.pieces)
