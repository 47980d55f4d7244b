use Rattle.std.proofs.Common.{◌≡◌, ◌+◌, List, [], ◌∷◌, ◌++◌, true, drop, sym, ap, ◌∙◌, subst, arith, rules, append_assoc}
use Rattle.std.proofs.lemmas.List.{drop_more}
use Rattle.std.proofs.lemmas.Bool.{and_parts}
use Rattle.json.specs.Token.{Token, key}
use Rattle.json.specs.Tree.{json_tokens, members_tokens}
use Rattle.serde_json.specs.Written.{outline, members_outline}
use Rattle.ocsf_tree.specs.declared.tree.Member.{Member}
use Rattle.ocsf_tree.specs.Data.{data_of, members_data}
use Rattle.ocsf_tree.specs.Valid.{is_before, is_valid, members_valid}
use Rattle.ocsf_tree.proofs.printer.+write.Goals as goal

one_more : (old named new all : List Token) (m : Member) (rest : List Member) → named ≡ old ++ key m.name ∷ [] → new ≡ named ++ json_tokens (outline (data_of m.value))
    → old ++ members_tokens (members_outline (members_data (m ∷ rest))) ≡ all → new ++ members_tokens (members_outline (members_data rest)) ≡ all
one_more old named new all m rest n w h =
    let text = json_tokens (outline (data_of m.value)) in
    let more = members_tokens (members_outline (members_data rest)) in
    ap (λ ts. ts ++ more) (w ∙ ap (λ ts. ts ++ text) n) ∙ append_assoc _ text more ∙ append_assoc old (key m.name ∷ []) (text ++ more) ∙ h

pub write_members-loop-member-preserved : goal.write_members-loop-member-preserved
write_members-loop-member-preserved t c =
    let l = c.loop-member in
    let xs = c.args.members.now in
    let x = c.member-item.result in
    let here : drop l.member-index xs ≡ x ∷ drop (l.member-index + 1) xs = drop_more xs l.member-index x (omega arith) ∙ ap (λ y. y ∷ drop (l.member-index + 1) xs) (sym c.member-item.is) in
    let valid : members_valid (members_data (x ∷ drop (l.member-index + 1) xs)) ≡ true = subst (λ ms. members_valid (members_data ms) ≡ true) here l.invariant.valid in
    let key_written : c.key.new.self.tokens ≡ l.out.tokens ++ key x.name ∷ [] = search rules in
    record {
      before = search rules;
      all = one_more l.out.tokens c.key.new.self.tokens c.write.new.out.tokens _ x (drop (l.member-index + 1) xs) key_written c.in_ok-write.ensures.ok
          (subst (λ ms. l.out.tokens ++ members_tokens (members_outline (members_data ms)) ≡ c.args.out.now.tokens ++ members_tokens (members_outline (members_data xs))) here l.invariant.all);
      valid = (and_parts (is_valid (data_of x.value)) _ (and_parts (is_before x.name (members_data (drop (l.member-index + 1) xs))) _ valid).1).1;
    }
