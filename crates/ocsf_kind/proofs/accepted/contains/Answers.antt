use Rattle.std.proofs.Common.{◌≡◌, ℕ, ◌<◌, length, List, get_or, sym, ◌∙◌, refl, arith, below_more}
use Rattle.std.proofs.lemmas.Bool.{false≢true}
use Rattle.std.proofs.lemmas.List.{get_or_default}
use Rattle.ocsf_tree.specs.declared.tree.Tree.{Tree}
use Rattle.ocsf_kind.proofs.accepted.contains.Goals as goal

-- an item of the list, whatever stands for one past its end
item : (xs : List Tree) (i : ℕ) (x d : Tree) → i < length xs → x ≡ get_or xs i x → get_or xs i d ≡ x
item xs i x d h at = get_or_default xs i d x h ∙ sym at

pub loop-listed-preserved : goal.loop-listed-preserved
loop-listed-preserved c =
    below_more _ _ c.loop-listed.invariant
    (λ e. false≢true (sym c.if-is_same.false ∙ c.is_same.ensures.1 (sym e ∙ item c.args.values.now c.loop-listed.listed-index c.listed-item.result c.args.value.now c.loop-listed-test.true c.listed-item.is)))

pub returns-then-is_same : goal.returns-then-is_same
returns-then-is_same c = (
  λ yes. (
    c.loop-listed.listed-index,
    c.loop-listed-test.true,
    item c.args.values.now c.loop-listed.listed-index c.listed-item.result c.args.value.now c.loop-listed-test.true c.listed-item.is ∙ sym (c.is_same.ensures.0 c.if-is_same.true),
  ),
  λ among. refl,
)

pub returns : goal.returns
returns c = (λ no. absurd (false≢true no), λ among. absurd (c.loop-listed.invariant among.0 (omega arith) among.2))
