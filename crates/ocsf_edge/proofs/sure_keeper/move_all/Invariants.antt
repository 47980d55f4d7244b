use Rattle.std.proofs.Common.{◌≡◌, drop}
use Rattle.ocsf_edge.specs.Tables.{moved}
use Rattle.ocsf_edge.proofs.sure_keeper.move_all.Given as goal

abbrev pub invariant-loop-step : goal.invariant-loop-step
invariant-loop-step l = moved (drop l.step-index l.moves) l.kept ≡ moved l.moves l.fn.kept
