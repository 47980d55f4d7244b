use Rattle.std.proofs.Common.{◌≡◌, true, false, cond, Some, ap, ◌∙◌, rules}
use Rattle.std.specs.Ordering.{is_eq, nat_cmp}
use Rattle.std.specs.BTreeMap.{get}
use Rattle.ocsf_bundle.specs.OwnFaults.{has_lesser}
use Rattle.ocsf_bundle.proofs.LeastNames.{kept_lesser, put_lesser}
use Rattle.ocsf_bundle.proofs.numbers.keep_least.Goals as goal

pub returns-then-is_taken : goal.returns-then-is_taken
returns-then-is_taken c number name =
    let taken : has_lesser (get nat_cmp c.args.least.now c.args.item.now.number) c.args.item.now.name ≡ true = search rules in
    kept_lesser (get nat_cmp c.args.least.now) c.args.item.now taken number name

pub returns : goal.returns
returns c number name =
    let free : has_lesser (get nat_cmp c.args.least.now c.args.item.now.number) c.args.item.now.name ≡ false = search rules in
    let same : c.in_ok-copy.field-0 ≡ c.args.item.now.name = search rules in
    ap (λ o. has_lesser o name) (c.in_ok-insert.ensures.updates.0 number)
    ∙ ap (λ n. has_lesser (cond (is_eq (nat_cmp c.args.item.now.number number)) (Some n) (get nat_cmp c.args.least.now number)) name) same
    ∙ put_lesser (get nat_cmp c.args.least.now) c.args.item.now free number name
