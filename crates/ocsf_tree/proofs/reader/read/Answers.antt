use Rattle.std.proofs.Common.{◌≡◌, Some, option_map, reverse, true, sym, ap, ◌∙◌, subst}
use Rattle.serde_json.specs.View.{view}
use Rattle.ocsf_tree.specs.Valid.{is_valid}
use Rattle.ocsf_tree.specs.FirstInexact.{first}
use Rattle.ocsf_tree.specs.Reading.{IsFirstInexact}
use Rattle.ocsf_tree.proofs.Order.{IfSomeIs, read-InOrder, is_valid-InOrder}
use Rattle.ocsf_tree.proofs.FirstFound.{none_first, first_found}
use Rattle.ocsf_tree.proofs.reader.read.Goals as goal

pub returns-in-Some-clause-reads : goal.returns-in-Some-clause-reads
returns-in-Some-clause-reads c =
    let d = view c.in-Ok.value in
    let reads = c.in-Ok.ensures.ok in
    let found : Some c.reverse.new.self ≡ first d = ap Some c.reverse.ensures ∙ ap (option_map reverse) (sym c.in-Some.is) ∙ c.in_ok-steps.ensures in
    (d, reads, subst (IfSomeIs (IsFirstInexact d)) (sym found) (first_found d (read-InOrder c.args.bytes.now d reads.1)))

pub tree_of-requires : goal.tree_of-requires
tree_of-requires c =
    none_first (view c.in-Ok.value) (sym c.in_ok-steps.ensures ∙ ap (option_map reverse) c.in_default.is)

pub returns-clause-reads : goal.returns-clause-reads
returns-clause-reads c =
    let d = view c.in-Ok.value in
    let reads = c.in-Ok.ensures.ok in
    let whole = none_first d (sym c.in_ok-steps.ensures ∙ ap (option_map reverse) c.in_default.is) in
    let valid = is_valid-InOrder d (read-InOrder c.args.bytes.now d reads.1) whole in
    ((reads.0, reads.1 ∙ ap Some (sym c.in_ok-tree_of.ensures)), subst (λ e. is_valid e ≡ true) (sym c.in_ok-tree_of.ensures) valid)

pub returns-clause-valid : goal.returns-clause-valid
returns-clause-valid c =
    let d = view c.in-Ok.value in
    let whole = none_first d (sym c.in_ok-steps.ensures ∙ ap (option_map reverse) c.in_default.is) in
    subst (λ e. is_valid e ≡ true) (sym c.in_ok-tree_of.ensures) (is_valid-InOrder d (read-InOrder c.args.bytes.now d c.in-Ok.ensures.ok.1) whole)
