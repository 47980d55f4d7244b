use Rattle.ocsf_rules.specs.Names.{ext_of}
use Rattle.ocsf_rules.specs.Attribute.{attr_of}
use Rattle.ocsf_rules.specs.Compiled.{computed}
use Rattle.ocsf_rules.specs.ItemFaults.{attribute_fault}
use Rattle.ocsf_rules.specs.Reads.{attribute_reads}
use Rattle.ocsf_item.proofs.Joinings.{joins_more}
use Rattle.ocsf_item.proofs.join.join_all.Goals as goal

pub loop-row-preserved : goal.loop-row-preserved
loop-row-preserved g c =
    let b = g.B.Shows.looks c.args.site.now.bundle.now in
    let k = c.args.site.now.key.now in
    let ext = ext_of k.name in
    joins_more (λ s. attr_of b ext (computed c.args.numbered.now s.attr.name) s) (attribute_reads b ext) (attribute_fault b k)
    c.args.rows.now c.loop-row.row-index c.row-item.result _ _ _
    c.loop-row-test.true c.row-item.is c.loop-row.invariant c.in_ok-join.ensures
