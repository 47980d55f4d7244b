use Rattle.std.proofs.Common.{◌∷◌, codes, take, sym, ap, ◌∙◌}
use Rattle.std.specs.Prelude.{flat_map}
use Rattle.ocsf_bundle.specs.Listing.{category_keys, in_byte_order}
use Rattle.ocsf_bundle.proofs.Listed.{flat_map-more}
use Rattle.ocsf_bundle.proofs.listing.category_keys.Goals as goal

pub loop-file-preserved : goal.loop-file-preserved
loop-file-preserved c =
    c.in_ok-put_category_keys.ensures (codes "other" ∷ flat_map category_keys (take c.loop-file.file-index c.args.files.now)) c.loop-file.invariant
    ∙ ap (λ l. in_byte_order (codes "other" ∷ l)) (sym (flat_map-more category_keys c.args.files.now c.loop-file.file-index c.file-item.result c.loop-file-test.true c.file-item.is))
