use Rattle.std.proofs.Common.{take, []}
use Rattle.std.specs.Prelude.{flat_map}
use Rattle.ocsf_rules.specs.ItemFaults.{entry_fault}
use Rattle.ocsf_rules.specs.Reads.{entry_reads}
use Rattle.ocsf_walk.specs.Walk.{Hears}
use Rattle.ocsf_walk.proofs.walk.hear_marks.Given as goal

abbrev pub invariant-loop-entry : goal.invariant-loop-entry
invariant-loop-entry g l =
    let b = g.B.Shows.looks l.bundle in
    let by = l.voice.by.now in
    let ext = l.voice.ext.now in
    Hears l.fn.walk l.walk [] (flat_map (entry_reads b ext) (take l.entry-index l.entries)) (flat_map (entry_fault b by ext) (take l.entry-index l.entries))
