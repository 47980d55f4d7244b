use Rattle.std.proofs.Common.{◌≡◌, ◌+◌, map, true, false, drop, sym, ap, ◌∙◌}
use Rattle.std.specs.Str.{bytes_eq}
use Rattle.ocsf_tree.specs.declared.attribute.EnumMember.{EnumMember}
use Rattle.ocsf_event_rules.specs.Conditions.{is_key}
use Rattle.ocsf_event.proofs.Among.{cut, among_here, among_later}
use Rattle.ocsf_event.proofs.simple.is_key.Goals as goal

pub loop-member-preserved : goal.loop-member-preserved
loop-member-preserved c =
    let name = c.args.name.now in
    let members = c.args.members.now in
    let i = c.loop-member.member-index in
    let m = c.member-item.result in
    let split = cut members i m c.loop-member-test.true c.member-item.is in
    let apart : bytes_eq name m.key ≡ false = ap (bytes_eq name) (sym c.as_str.ensures) ∙ sym c.eq.ensures ∙ c.if-eq.false in
    sym (among_later name m.key (map (λ (e : EnumMember). e.key) (drop (i + 1) members)) apart) ∙ sym (ap (λ ms. is_key ms name) split) ∙ c.loop-member.invariant

pub returns-then-eq : goal.returns-then-eq
returns-then-eq c =
    let name = c.args.name.now in
    let members = c.args.members.now in
    let i = c.loop-member.member-index in
    let m = c.member-item.result in
    let split = cut members i m c.loop-member-test.true c.member-item.is in
    let same : bytes_eq name m.key ≡ true = ap (bytes_eq name) (sym c.as_str.ensures) ∙ sym c.eq.ensures ∙ c.if-eq.true in
    sym (among_here name m.key (map (λ (e : EnumMember). e.key) (drop (i + 1) members)) same) ∙ sym (ap (λ ms. is_key ms name) split) ∙ c.loop-member.invariant
