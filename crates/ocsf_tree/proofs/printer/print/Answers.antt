use Rattle.std.proofs.Common.{◌≡◌, [], ◌++◌, IsUtf8, sym, ap, ◌∙◌, subst}
use Rattle.json.specs.Tree.{json_tokens}
use Rattle.json.specs.Print.{print}
use Rattle.serde_json.specs.Written.{outline}
use Rattle.serde_json.proofs.Texts.{print-outline}
use Rattle.serde_json.specs.Read.{read}
use Rattle.ocsf_tree.specs.Data.{data_of}
use Rattle.ocsf_tree.specs.CompactText.{text}
use Rattle.ocsf_tree.proofs.RoundTrip.{read-text}
use Rattle.ocsf_tree.proofs.printer.print.Goals as goal

pub returns : goal.returns
returns c =
    let d = data_of c.args.tree.now in
    let tokens : c.write.new.out.tokens ≡ json_tokens (outline d) = c.in_ok-write.ensures.ok ∙ ap (λ ts. ts ++ json_tokens (outline d)) c.new-out.ensures.tokens in
    let before : c.write.new.out.before ≡ [] = c.in_ok-write.ensures.before ∙ c.new-out.ensures.before ∙ c.new.ensures.items in
    let same : c.shrink_to_fit.new.self ≡ text c.args.tree.now = c.shrink_to_fit.ensures ∙ (c.from_vec-bytes.ensures ∙ c.into_inner.ensures.items ∙ rw (before, tokens) (print-outline d)) in
    let utf8 : IsUtf8 (text c.args.tree.now) = subst IsUtf8 (ap print tokens ∙ print-outline d) c.into_inner.ensures.utf8 in
    record {
      text = same;
      reads_back = λ shallow. ((subst IsUtf8 (sym same) utf8, ap read same ∙ read-text d c.requires shallow), c.requires);
    }
