use Rattle.std.proofs.Common.{◌≡◌, [], map, reverse, ◌∙◌, sym, ap}
use Rattle.std.specs.Prelude.{flat_map}
use Rattle.ocsf_tree.specs.LeastFault.{least_fault}
use Rattle.ocsf_merge.specs.Table.{table_of}
use Rattle.ocsf_rules.specs.Chain.{speakers, speakers_of, layers_of}
use Rattle.ocsf_rules.specs.ItemFaults.{speaker_faults}
use Rattle.ocsf_walk.specs.Speakers.{speaker_of}
use Rattle.ocsf_item.proofs.Leasts.{layers_next}
use Rattle.ocsf_item.proofs.compile.sound_layers.Goals as goal

pub returns-in-Some-clause-fault : goal.returns-in-Some-clause-fault
returns-in-Some-clause-fault g c =
    let b = g.B.Shows.looks c.args.bundle.now in
    let k = c.args.key.now in
    let all : map speaker_of c.as_slice-2.result.now ≡ speakers b k =
    ap (map speaker_of) c.as_slice-2.ensures.value ∙ c.in_ok-speakers.ensures.speakers ∙ ap (flat_map (speakers_of b)) (c.as_slice.ensures ∙ c.reverse.ensures ∙ ap reverse c.requires.keys) in
    layers_next b k c.in-Some.fault c.requires.sound
    (ap (λ ss. least_fault (flat_map (speaker_faults b) ss)) (sym all) ∙ sym c.in_ok-hear_files.ensures.least ∙ c.in-Some.is)

pub returns-clause-rows : goal.returns-clause-rows
returns-clause-rows g c =
    let b = g.B.Shows.looks c.args.bundle.now in
    let k = c.args.key.now in
    let all : map speaker_of c.as_slice-2.result.now ≡ speakers b k =
    ap (map speaker_of) c.as_slice-2.ensures.value ∙ c.in_ok-speakers.ensures.speakers ∙ ap (flat_map (speakers_of b)) (c.as_slice.ensures ∙ c.reverse.ensures ∙ ap reverse c.requires.keys) in
    c.in_ok-hear_files.ensures.table [] c.empty.ensures ∙ ap (λ ss. table_of (flat_map (layers_of b) ss)) all
