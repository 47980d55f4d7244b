use Rattle.ocsf_rules.specs.Chain.{include_layer}
use Rattle.ocsf_rules.specs.ItemFaults.{include_faults}
use Rattle.ocsf_rules.specs.Reads.{include_reads}
use Rattle.ocsf_walk.proofs.Hearings.{hears_more}
use Rattle.ocsf_walk.proofs.walk.hear_includes.Goals as goal

pub loop-path-preserved : goal.loop-path-preserved
loop-path-preserved g c =
    let b = g.B.Shows.looks c.args.bundle.now in
    let by = c.args.voice.now.by.now in
    let ext = c.args.voice.now.ext.now in
    hears_more (include_layer b ext) (include_reads b ext) (include_faults b by ext) c.args.paths.now c.loop-path.path-index c.path-item.result _ _ _
    c.loop-path-test.true c.path-item.is c.loop-path.invariant c.in_ok-hear_include.ensures
