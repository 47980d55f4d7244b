use Rattle.std.proofs.Common.{◌≡◌, drop}
use Rattle.ocsf_rules.specs.ItemFaults.{least_key}
use Rattle.ocsf_walk.proofs.chain_faults.least_key.Given as goal

abbrev pub invariant-loop-key : goal.invariant-loop-key
invariant-loop-key l = least_key l.least (drop l.key-index l.rest) ≡ least_key l.first l.rest
