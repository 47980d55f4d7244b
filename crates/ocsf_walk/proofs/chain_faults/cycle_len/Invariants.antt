use Rattle.std.proofs.Common.{◌≡◌, ◌+◌, drop}
use Rattle.std.specs.Prelude.{not}
use Rattle.std.specs.List.{list_any, prefix_len}
use Rattle.ocsf_rules.specs.ItemFaults.{same_key}
use Rattle.ocsf_walk.proofs.chain_faults.cycle_len.Given as goal

abbrev pub invariant-loop-at : goal.invariant-loop-at
invariant-loop-at l = record {
  any : list_any (same_key l.key) (drop l.at l.keys) ≡ list_any (same_key l.key) l.keys;
  first : l.at + prefix_len (λ j. not (same_key l.key j)) (drop l.at l.keys) ≡ prefix_len (λ j. not (same_key l.key j)) l.keys;
}
