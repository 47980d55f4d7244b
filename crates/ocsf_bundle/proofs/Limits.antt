-- The least of a few faults, looked for one after the other.
use Rattle.std.specs.Prelude.{◌≡◌, [], ◌∷◌, Option, None}
use Rattle.std.proofs.Common.{sym, ◌∙◌}
use Rattle.std.specs.List.{filter_map, cons_option}
use Rattle.ocsf_tree.specs.declared.fault.Fault.{Fault}
use Rattle.ocsf_tree.specs.LeastFault.{least_fault}
use Rattle.ocsf_bundle.specs.OwnFaults.{lesser_of}
use Rattle.ocsf_bundle.proofs.Noted.{least_from-cons}

pub least_of_four : (a b c d : Option Fault)
    → lesser_of (lesser_of (lesser_of (lesser_of None a) b) c) d ≡ least_fault (filter_map (λ found. found) (a ∷ b ∷ c ∷ d ∷ []))
least_of_four a b c d =
    sym (least_from-cons None a (cons_option b (cons_option c (cons_option d [])))
    ∙ least_from-cons (lesser_of None a) b (cons_option c (cons_option d []))
    ∙ least_from-cons (lesser_of (lesser_of None a) b) c (cons_option d [])
    ∙ least_from-cons (lesser_of (lesser_of (lesser_of None a) b) c) d [])
