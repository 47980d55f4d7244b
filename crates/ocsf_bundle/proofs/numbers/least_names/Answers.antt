use Rattle.std.proofs.Common.{◌≡◌, take, ap, sym, ◌∙◌, ◌||◌, arith}
use Rattle.std.specs.List.{list_any}
use Rattle.std.proofs.lemmas.List.{take_all}
use Rattle.ocsf_bundle.specs.BundleFaults.{is_before}
use Rattle.ocsf_bundle.proofs.LeastNames.{any_more}
use Rattle.ocsf_bundle.proofs.numbers.least_names.Goals as goal

pub loop-item-preserved : goal.loop-item-preserved
loop-item-preserved c number name =
    c.in_ok-keep_least.ensures number name
    ∙ ap (λ b. b || is_before number name c.item-item.result) (c.loop-item.invariant number name)
    ∙ sym (any_more (is_before number name) c.args.items.now c.loop-item.item-index c.item-item.result c.loop-item-test.true c.item-item.is)

pub returns : goal.returns
returns c number name =
    let all : take c.loop-item.item-index c.args.items.now ≡ c.args.items.now = take_all c.loop-item.item-index c.args.items.now (omega arith) in
    c.loop-item.invariant number name ∙ ap (list_any (is_before number name)) all
