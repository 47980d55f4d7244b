use Rattle.std.proofs.Common.{◌≡◌}
use Rattle.ocsf_edge.specs.Tables.{without_path}
use Rattle.ocsf_edge.proofs.sure_keeper.remove_path.Given as goal

abbrev pub invariant-loop-file : goal.invariant-loop-file
invariant-loop-file l = l.others ≡ without_path l.path l.yielded
