use Rattle.std.proofs.Common.{◌≤◌, length, arith}
use Rattle.std.proofs.lemmas.List.{length-map}
use Rattle.ocsf_bundle.specs.Looks.{show_patch}
use Rattle.ocsf_walk.specs.Speakers.{patches_cell, patch_of}
use Rattle.ocsf_walk.proofs.Speeches.{patches_more, patches_end, patches_through}
use Rattle.ocsf_walk.proofs.speakers.push_shown.Goals as goal

pub loop-k-preserved : goal.loop-k-preserved
loop-k-preserved g c =
    let b = g.B.Shows.looks c.args.bundle.now in
    patches_more c.args.key.now (b.patches c.args.key.now) c.loop-k.k _ _ _ (patch_of c.in-Some.patch) c.in-Some.ensures.patch c.loop-k.invariant c.in_ok-push_patch-in-Some.ensures

pub returns-in-None : goal.returns-in-None
returns-in-None g c =
    let b = g.B.Shows.looks c.args.bundle.now in
    patches_end c.args.key.now (b.patches c.args.key.now) c.loop-k.k _ _ c.in-None.ensures.patch c.loop-k.invariant

pub returns : goal.returns
returns g c =
    let b = g.B.Shows.looks c.args.bundle.now in
    let few : length (b.patches c.args.key.now) ≤ c.loop-k.k =
    omega (arith, c.most-k-end.ensures (patches_cell c.args.key.now), length-map (b.patches c.args.key.now) show_patch, c.loop-k-test.false) in
    patches_through c.args.key.now (b.patches c.args.key.now) c.loop-k.k _ _ few c.loop-k.invariant
