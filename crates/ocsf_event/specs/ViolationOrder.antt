-- Violations are totally ordered.
use Rattle.std.specs.Cmp.{IsTotalOrder}
use Rattle.std.proofs.lemmas.Cmp.{then_total, on_total, nat_cmp_total, nat_list_cmp_total}
use Rattle.ocsf_tree.proofs.Places.{place_cmp_total}
use Rattle.ocsf_event.specs.declared.violation.Violation.{Violation}
use Rattle.ocsf_event.specs.Code.{rank, violation_order}

pub violation_order_total : IsTotalOrder violation_order
violation_order_total =
    then_total (on_total (λ (v : Violation). v.place.steps) place_cmp_total)
    (then_total (on_total (λ (v : Violation). rank v.code) nat_cmp_total)
    (on_total (λ (v : Violation). v.detail) nat_list_cmp_total))
