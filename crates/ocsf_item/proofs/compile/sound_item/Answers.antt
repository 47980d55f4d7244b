use Rattle.std.proofs.Common.{None, Some, sym, ◌∙◌}
use Rattle.ocsf_item.proofs.Assembling.{item_is}
use Rattle.ocsf_item.proofs.Leasts.{own_last, no_activity_fault}
use Rattle.ocsf_item.proofs.compile.sound_item.Goals as goal

pub returns-in-Some-clause-fault : goal.returns-in-Some-clause-fault
returns-in-Some-clause-fault g c =
    own_last (g.B.Shows.looks c.args.site.now.bundle.now) c.args.site.now.key.now (Some c.in-Some.fault) c.requires.chain c.requires.layers (sym c.in_ok-met.ensures.least ∙ c.in-Some.is)

pub returns-in_ok-item-in-None-clause-sound : goal.returns-in_ok-item-in-None-clause-sound
returns-in_ok-item-in-None-clause-sound g c =
    own_last (g.B.Shows.looks c.args.site.now.bundle.now) c.args.site.now.key.now None c.requires.chain c.requires.layers (sym c.in_ok-met.ensures.least ∙ c.in-None.is)

pub returns-in_ok-item-in-None-clause-item : goal.returns-in_ok-item-in-None-clause-item
returns-in_ok-item-in-None-clause-item g c =
    let b = g.B.Shows.looks c.args.site.now.bundle.now in
    let k = c.args.site.now.key.now in
    let parts = c.in_ok-met.ensures in
    c.in_ok-item-in-None.ensures
    ∙ item_is b k _ c.in_ok-met.met.parts.own _ _ _ _ _ _ c.requires.up parts.caption parts.description parts.hidden parts.category parts.number (parts.profiles ∙ c.requires.profiles) parts.at_least_one parts.just_one
    (parts.attrs (no_activity_fault b k (sym parts.least ∙ c.in-None.is)))
