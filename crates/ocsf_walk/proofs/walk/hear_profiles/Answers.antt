use Rattle.ocsf_rules.specs.Chain.{listed_layer}
use Rattle.ocsf_rules.specs.ItemFaults.{listed_faults}
use Rattle.ocsf_rules.specs.Reads.{listed_reads}
use Rattle.ocsf_walk.proofs.Hearings.{hears_more}
use Rattle.ocsf_walk.proofs.walk.hear_profiles.Goals as goal

pub loop-name-preserved : goal.loop-name-preserved
loop-name-preserved g c =
    let b = g.B.Shows.looks c.args.bundle.now in
    let by = c.args.voice.now.by.now in
    let ext = c.args.voice.now.ext.now in
    hears_more (listed_layer b ext) (listed_reads b ext) (listed_faults b by ext) c.args.names.now c.loop-name.name-index c.name-item.result _ _ _
    c.loop-name-test.true c.name-item.is c.loop-name.invariant c.in_ok-hear_listed.ensures
