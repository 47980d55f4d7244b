use Rattle.std.proofs.Common.{◌≡◌, [], List, refl, sym, ap, subst, ◌∙◌}
use Rattle.ocsf_schema.specs.declared.records.Item.{Item}
use Rattle.ocsf_schema.specs.Lookups.{IsByKey}
use Rattle.ocsf_bundle.specs.Stored.{Stored}
use Rattle.ocsf_bundle.specs.FilesLook.{looks}
use Rattle.ocsf_bundle.specs.Listing.{listing}
use Rattle.ocsf_rules.specs.PrintedSchema.{items}
use Rattle.ocsf_compiler.specs.NoFiles.{no_files}
use Rattle.ocsf_compiler.proofs.BundleFaults.{whole}
use Rattle.ocsf_compiler.proofs.no_files.schema_without_items.Goals as goal

abbrev no_items : List Item
no_items = []

none : (s : Stored) → s ≡ no_files → no_items ≡ items (looks s.files s.enabled) (listing s)
none s e = subst (λ (t : Stored). no_items ≡ items (looks t.files t.enabled) (listing t)) (sym e) refl

pub of-requires-clause-pieces : goal.of-requires-clause-pieces
of-requires-clause-pieces c =
    let is : c.in_ok-parts.parts.pieces ≡ no_items =
    ap (λ p. p.pieces) c.in_ok-parts.ensures.parts ∙ c.new.ensures in
    subst IsByKey (sym is) refl

pub returns : goal.returns
returns c =
    let bundle = c.args.bundle.now in
    record {
      schema =
          c.in_ok-schema.ensures
          ∙ c.in_ok-parts.ensures.parts
          ∙ whole bundle c.new.result (c.new.ensures ∙ none bundle c.requires.files);
    }
