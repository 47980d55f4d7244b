use Rattle.std.proofs.Common.{◌≡◌, codes, None, sym, ap, ◌∙◌, rules}
use Rattle.ocsf_tree.specs.LeastFault.{least_from}
use Rattle.ocsf_tree.proofs.LeastFaults.{least_from-append}
use Rattle.ocsf_bundle.specs.BundleFaults.{extension_numbers, listed_categories, with_other}
use Rattle.ocsf_bundle.specs.OwnFaults.{number_faults}
use Rattle.ocsf_bundle.proofs.numbers.uid_taken.Goals as goal

pub returns : goal.returns
returns c =
    let active = c.args.active.now in
    let extensions = number_faults (codes "extension") (extension_numbers active) in
    let categories = number_faults (codes "category") (with_other (listed_categories active)) in
    let first : c.in_ok-least.least ≡ least_from None (number_faults (codes "extension") c.in_ok-extensions.extensions) = search rules in
    let second : c.in_ok-least-2.least ≡ least_from c.in_ok-least.least (number_faults (codes "category") c.in_ok-categories.categories) = search rules in
    second
    ∙ ap (λ all. least_from c.in_ok-least.least (number_faults (codes "category") all)) c.in_ok-categories.ensures
    ∙ ap (λ o. least_from o categories) (first ∙ ap (λ all. least_from None (number_faults (codes "extension") all)) c.in_ok-extensions.ensures)
    ∙ sym (least_from-append None extensions categories)
