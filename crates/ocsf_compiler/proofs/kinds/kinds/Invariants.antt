use Rattle.std.proofs.Common.{◌≡◌, take}
use Rattle.std.specs.Prelude.{filter_map}
use Rattle.std.specs.Result.{result_ok}
use Rattle.ocsf_kind.specs.Kinds.{kind_of}
use Rattle.ocsf_compiler.proofs.kinds.kinds.Given as goal

abbrev pub invariant-loop-name : goal.invariant-loop-name
invariant-loop-name l = l.made ≡ filter_map (λ name. result_ok (kind_of l.types name)) (take l.name-index l.names)
