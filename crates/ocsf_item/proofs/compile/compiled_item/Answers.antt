use Rattle.std.proofs.Common.{◌∙◌, ap}
use Rattle.std.specs.Prelude.{slice_get}
use Rattle.std.specs.Option.{option_map}
use Rattle.ocsf_tree.specs.declared.key.Key.{Key}
use Rattle.ocsf_item.proofs.Assembling.{second_key, reads_are}
use Rattle.ocsf_item.proofs.compile.compiled_item.Goals as goal

pub sound_item-made-requires-clause-up : goal.sound_item-made-requires-clause-up
sound_item-made-requires-clause-up g c =
    c.in_ok-up.ensures
    ∙ ap (λ ks. option_map (λ (p : Key). p.name) (slice_get ks 1)) (c.as_slice.ensures ∙ c.in-Ok.ensures.keys)
    ∙ ap (option_map (λ (p : Key). p.name)) (second_key (g.B.Shows.looks c.args.bundle.now) c.args.key.now)

pub returns-in_ok-reads-in-Ok-made-clause-reads : goal.returns-in_ok-reads-in-Ok-made-clause-reads
returns-in_ok-reads-in-Ok-made-clause-reads g c =
    reads_are (g.B.Shows.looks c.args.bundle.now) c.args.key.now _ _ _ _ c.in-Ok.ensures.reads c.in-Ok-sound_layers.ensures.reads c.in-Ok-made.ensures.reads c.in_ok-reads-in-Ok-made.ensures
