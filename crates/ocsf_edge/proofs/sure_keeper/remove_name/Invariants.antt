use Rattle.std.proofs.Common.{◌≡◌}
use Rattle.ocsf_edge.specs.Tables.{without_name}
use Rattle.ocsf_edge.proofs.sure_keeper.remove_name.Given as goal

abbrev pub invariant-loop-other : goal.invariant-loop-other
invariant-loop-other l = l.others ≡ without_name l.name l.yielded
