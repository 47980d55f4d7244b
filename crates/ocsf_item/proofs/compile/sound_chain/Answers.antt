use Rattle.std.proofs.Common.{◌∙◌, sym, ap}
use Rattle.ocsf_tree.specs.LeastFault.{least_fault}
use Rattle.ocsf_rules.specs.ItemFaults.{faults_along}
use Rattle.ocsf_item.proofs.Leasts.{chain_first}
use Rattle.ocsf_item.proofs.compile.sound_chain.Goals as goal

pub returns-in-Some-clause-fault : goal.returns-in-Some-clause-fault
returns-in-Some-clause-fault g c =
    let b = g.B.Shows.looks c.args.bundle.now in
    let k = c.args.key.now in
    chain_first b k c.in-Some.fault
    (ap (λ ks. least_fault (faults_along b k ks)) (sym (c.as_slice.ensures ∙ c.in_ok-made.ensures.keys)) ∙ sym c.in_ok-fault.ensures ∙ c.in-Some.is)
