use Rattle.std.proofs.Common.{◌≡◌, ◌+◌, true, false, drop, sym, ap, ◌∙◌}
use Rattle.std.specs.Str.{bytes_eq}
use Rattle.ocsf_lists.specs.Among.{is_among}
use Rattle.ocsf_event.proofs.Among.{cut, among_here, among_later}
use Rattle.ocsf_event.proofs.members.is_among.Goals as goal

pub loop-other-preserved : goal.loop-other-preserved
loop-other-preserved c =
    let name = c.args.name.now in
    let names = c.args.names.now in
    let i = c.loop-other.other-index in
    let y = c.other-item.result in
    let split = cut names i y c.loop-other-test.true c.other-item.is in
    let apart : bytes_eq name y ≡ false = ap (bytes_eq name) (sym c.as_str.ensures) ∙ sym c.eq.ensures ∙ c.if-eq.false in
    sym (among_later name y (drop (i + 1) names) apart) ∙ sym (ap (is_among name) split) ∙ c.loop-other.invariant

pub returns-then-eq : goal.returns-then-eq
returns-then-eq c =
    let name = c.args.name.now in
    let names = c.args.names.now in
    let i = c.loop-other.other-index in
    let y = c.other-item.result in
    let split = cut names i y c.loop-other-test.true c.other-item.is in
    let same : bytes_eq name y ≡ true = ap (bytes_eq name) (sym c.as_str.ensures) ∙ sym c.eq.ensures ∙ c.if-eq.true in
    sym (among_here name y (drop (i + 1) names) same) ∙ sym (ap (is_among name) split) ∙ c.loop-other.invariant
