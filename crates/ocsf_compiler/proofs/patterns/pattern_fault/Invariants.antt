use Rattle.std.proofs.Common.{take}
use Rattle.std.specs.Prelude.{All}
use Rattle.ocsf_rules.specs.Verdict.{HasReadPattern}
use Rattle.ocsf_compiler.proofs.patterns.pattern_fault.Given as goal

abbrev pub invariant-loop-entry : goal.invariant-loop-entry
invariant-loop-entry l = All HasReadPattern (take l.entry-index l.types)
