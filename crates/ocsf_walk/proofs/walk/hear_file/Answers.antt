use Rattle.ocsf_walk.specs.Speakers.{speaker_of}
use Rattle.ocsf_walk.proofs.Files.{file_heard}
use Rattle.ocsf_walk.proofs.walk.hear_file.Goals as goal

pub returns : goal.returns
returns g c =
    file_heard (g.B.Shows.looks c.args.bundle.now) (speaker_of c.args.speaker.now) _ _ _ _ c.as_str-ext.result.now c.as_slice.result.now c.as_slice-2.result.now c.as_slice-3.result.now
    c.as_str-ext.ensures c.as_slice.ensures c.as_slice-2.ensures c.as_slice-3.ensures c.in_ok-hear_includes.ensures c.in_ok-hear_profiles.ensures c.in_ok-hear_plain.ensures
