use Rattle.std.proofs.Common.{◌≤◌, length, refl, arith}
use Rattle.std.proofs.lemmas.Grind.{common_steps}
use Rattle.std.proofs.lemmas.Option.{slice_get_read}
use Rattle.ocsf_event.specs.Walk.{IsNoProfile}
use Rattle.ocsf_event.proofs.Noted.{noted_begins, noted_more, noted_ends}
use Rattle.ocsf_event.proofs.whole.judge_profiles.Goals as goal

pub loop-index-init : goal.loop-index-init
loop-index-init c = noted_begins (λ place. IsNoProfile c.args.schema.now) c.args.items.now c.args.notes.now

pub loop-index-preserved : goal.loop-index-preserved
loop-index-preserved c =
    let items = c.args.items.now in
    let i = c.loop-index.index in
    let item = c.index-items-index.result in
    let at = slice_get_read items (length items) i item refl c.loop-index-test.true c.index-items-index.is in
    noted_more (λ place. IsNoProfile c.args.schema.now) items i item _ _ _ at c.loop-index.invariant c.in_ok-judge_profile.ensures

pub returns : goal.returns
returns c =
    let all : length c.args.items.now ≤ c.loop-index.index = grind (arith, common_steps) in
    noted_ends (λ place. IsNoProfile c.args.schema.now) c.args.items.now c.loop-index.index _ _ all c.loop-index.invariant
