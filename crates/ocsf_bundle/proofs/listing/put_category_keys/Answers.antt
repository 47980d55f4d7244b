use Rattle.std.proofs.Common.{◌≡◌, rules, ◌∙◌}
use Rattle.ocsf_raw.specs.declared.files.CategoryEntry.{CategoryEntry}
use Rattle.ocsf_bundle.specs.Keys.{key_of}
use Rattle.ocsf_bundle.proofs.Listed.{in_byte_order-more}
use Rattle.ocsf_bundle.proofs.listing.put_category_keys.Goals as goal

pub loop-entry-preserved : goal.loop-entry-preserved
loop-entry-preserved c before is =
    let key : c.in_ok-key_of.field-0 ≡ key_of c.args.file.now c.entry-item.result.name = search rules in
    c.in_ok-put_name.ensures
    ∙ in_byte_order-more (λ (entry : CategoryEntry). key_of c.args.file.now entry.name) before c.categories_said-entry-items.result.now c.loop-entry.entry-index c.entry-item.result c.in_ok-key_of.field-0 c.loop-entry.keys.keys c.loop-entry-test.true c.entry-item.is key (c.loop-entry.invariant before is)
