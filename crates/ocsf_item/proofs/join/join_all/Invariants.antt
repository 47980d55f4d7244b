use Rattle.std.proofs.Common.{take, map}
use Rattle.std.specs.Prelude.{flat_map}
use Rattle.ocsf_rules.specs.Names.{ext_of}
use Rattle.ocsf_rules.specs.Attribute.{attr_of}
use Rattle.ocsf_rules.specs.Compiled.{computed}
use Rattle.ocsf_rules.specs.ItemFaults.{attribute_fault}
use Rattle.ocsf_rules.specs.Reads.{attribute_reads}
use Rattle.ocsf_item.specs.Joined.{Joins}
use Rattle.ocsf_item.proofs.join.join_all.Given as goal

abbrev pub invariant-loop-row : goal.invariant-loop-row
invariant-loop-row g l =
    let b = g.B.Shows.looks l.site.bundle.now in
    let k = l.site.key.now in
    let ext = ext_of k.name in
    let done = take l.row-index l.rows in
    Joins l.fn.joined l.joined (map (λ s. attr_of b ext (computed l.numbered s.attr.name) s) done)
    (flat_map (attribute_reads b ext) done) (flat_map (attribute_fault b k) done)
