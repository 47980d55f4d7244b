use Rattle.std.proofs.Common.{◌≡◌, [], ◌∷◌, ◌++◌, ap, ◌∙◌}
use Rattle.json.specs.Token as token
use Rattle.serde_json.specs.Data.{string}
use Rattle.serde_json.proofs.Texts.{print-outline}
use Rattle.ocsf_tree.proofs.printer.quote.Goals as goal

pub returns : goal.returns
returns c =
    let words = c.args.text.now in
    let tokens : c.string.new.self.tokens ≡ token.string words ∷ [] = c.in_ok-string.ensures.ok ∙ ap (λ ts. ts ++ token.string words ∷ []) c.new-out.ensures.tokens in
    let before : c.string.new.self.before ≡ [] = c.in_ok-string.ensures.room.0 ∙ c.new-out.ensures.before ∙ c.new.ensures.items in
    c.from_vec.ensures ∙ c.into_inner.ensures.items ∙ rw (before, tokens) (print-outline (string words))
