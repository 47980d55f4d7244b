use Rattle.std.proofs.Common.{◌∙◌}
use Rattle.ocsf_item.proofs.ClassParts.{number_is, numbered_is}
use Rattle.ocsf_item.proofs.class.class_parts.Goals as goal

pub returns-clause-number : goal.returns-clause-number
returns-clause-number g c =
    c.class_number-number.ensures.number
    ∙ number_is (g.B.Shows.looks c.args.site.now.bundle.now) c.args.site.now.key.now _ _ _ c.in_ok-counted.ensures.ext c.in_ok-made.ensures.category c.requires.uid

pub returns-clause-numbered : goal.returns-clause-numbered
returns-clause-numbered g c =
    let b = g.B.Shows.looks c.args.site.now.bundle.now in
    let k = c.args.site.now.key.now in
    numbered_is b k _ _ _ _ _
    (c.class_number-number.ensures.number ∙ number_is b k _ _ _ c.in_ok-counted.ensures.ext c.in_ok-made.ensures.category c.requires.uid)
    c.in_ok-counted.ensures.caption c.in_ok-made.ensures.category c.in_ok-counted.ensures.activities c.in_ok-numbered.ensures.numbered c.in_ok-numbered.ensures.none
