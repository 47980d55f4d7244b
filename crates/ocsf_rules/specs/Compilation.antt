-- The schema that a bundle is compiled to.
use Rattle.std.specs.Prelude.{◌≡◌}
use Rattle.ocsf_schema.specs.declared.parts.SchemaParts.{SchemaParts}
use Rattle.ocsf_bundle.specs.Stored.{Stored}
use Rattle.ocsf_bundle.specs.FilesLook.{looks}
use Rattle.ocsf_bundle.specs.Listing.{listing}
use Rattle.ocsf_rules.specs.PrintedSchema.{schema_parts}

-- by full key the item of each active item, by name the kind of each base type and each listed one, and what is
-- printed of the rest
unfoldable pub compilation : Stored → SchemaParts
compilation bundle = schema_parts (looks bundle.files bundle.enabled) (listing bundle)

-- the schema is compiled from the bundle: from what it is, and from nothing that it was before
abbrev pub IsCompilation : Stored → SchemaParts → Type 0
IsCompilation bundle schema = schema ≡ compilation bundle
