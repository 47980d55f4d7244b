use Rattle.ocsf_rules.specs.ItemFaults.{entry_fault}
use Rattle.ocsf_rules.specs.Reads.{entry_reads}
use Rattle.ocsf_walk.proofs.Hearings.{hears_more_cells}
use Rattle.ocsf_walk.proofs.walk.hear_marks.Goals as goal

pub loop-entry-preserved : goal.loop-entry-preserved
loop-entry-preserved g c =
    let b = g.B.Shows.looks c.args.bundle.now in
    let by = c.args.voice.now.by.now in
    let ext = c.args.voice.now.ext.now in
    hears_more_cells (entry_reads b ext) (entry_fault b by ext) c.args.entries.now c.loop-entry.entry-index c.entry-item.result _ _ _
    c.loop-entry-test.true c.entry-item.is c.loop-entry.invariant c.in_ok-hear_mark.ensures
