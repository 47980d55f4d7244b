use Rattle.std.proofs.Common.{take}
use Rattle.std.specs.Prelude.{flat_map}
use Rattle.ocsf_rules.specs.Chain.{include_layer}
use Rattle.ocsf_rules.specs.ItemFaults.{include_faults}
use Rattle.ocsf_rules.specs.Reads.{include_reads}
use Rattle.ocsf_walk.specs.Walk.{Hears}
use Rattle.ocsf_walk.proofs.walk.hear_includes.Given as goal

abbrev pub invariant-loop-path : goal.invariant-loop-path
invariant-loop-path g l =
    let b = g.B.Shows.looks l.bundle in
    let by = l.voice.by.now in
    let ext = l.voice.ext.now in
    Hears l.fn.walk l.walk (flat_map (include_layer b ext) (take l.path-index l.paths)) (flat_map (include_reads b ext) (take l.path-index l.paths)) (flat_map (include_faults b by ext) (take l.path-index l.paths))
