use Rattle.std.proofs.Common.{◌++◌, map, ◌∙◌}
use Rattle.ocsf_rules.specs.Names.{ext_of}
use Rattle.ocsf_rules.specs.Attribute.{attr_of}
use Rattle.ocsf_rules.specs.Compiled.{computed}
use Rattle.ocsf_item.proofs.parts.joined_of.Goals as goal

pub returns-clause-attrs : goal.returns-clause-attrs
returns-clause-attrs g c =
    let b = g.B.Shows.looks c.args.site.now.bundle.now in
    let ext = ext_of c.args.site.now.key.now.name in
    let numbered = c.args.whole.now.class.numbered in
    c.in_ok-join_all.ensures.attrs
    ∙ (λ i. c.in_ok-attrs.ensures i ++ map (λ s. attr_of b ext (computed numbered s.attr.name) s) c.args.rows.now)
