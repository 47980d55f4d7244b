use Rattle.std.proofs.Common.{take}
use Rattle.std.specs.Prelude.{flat_map}
use Rattle.ocsf_rules.specs.Chain.{listed_layer}
use Rattle.ocsf_rules.specs.ItemFaults.{listed_faults}
use Rattle.ocsf_rules.specs.Reads.{listed_reads}
use Rattle.ocsf_walk.specs.Walk.{Hears}
use Rattle.ocsf_walk.proofs.walk.hear_profiles.Given as goal

abbrev pub invariant-loop-name : goal.invariant-loop-name
invariant-loop-name g l =
    let b = g.B.Shows.looks l.bundle in
    let by = l.voice.by.now in
    let ext = l.voice.ext.now in
    Hears l.fn.walk l.walk (flat_map (listed_layer b ext) (take l.name-index l.names)) (flat_map (listed_reads b ext) (take l.name-index l.names)) (flat_map (listed_faults b by ext) (take l.name-index l.names))
