use Rattle.std.proofs.Common.{take, map}
use Rattle.std.specs.Prelude.{flat_map}
use Rattle.ocsf_rules.specs.Chain.{layers_of}
use Rattle.ocsf_rules.specs.ItemFaults.{speaker_faults}
use Rattle.ocsf_rules.specs.Reads.{speaker_reads}
use Rattle.ocsf_walk.specs.Speakers.{speaker_of}
use Rattle.ocsf_walk.specs.Walk.{Hears}
use Rattle.ocsf_walk.proofs.walk.hear_files.Given as goal

abbrev pub invariant-loop-speaker : goal.invariant-loop-speaker
invariant-loop-speaker g l =
    let b = g.B.Shows.looks l.bundle in
    let heard = take l.speaker-index (map speaker_of l.speakers) in
    Hears l.fn.walk l.walk (flat_map (layers_of b) heard) (flat_map (speaker_reads b) heard) (flat_map (speaker_faults b) heard)
