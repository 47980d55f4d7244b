-- The patterns of a schema's types, by what `regex` reads.
use Rattle.std.specs.Prelude.{All, IfSome}
use Rattle.ocsf_pattern.specs.Readings.{IsRead}
use Rattle.ocsf_schema.specs.declared.parts.SchemaParts.{SchemaParts}

-- `regex` reads every pattern of the schema: in each of its kinds, that of each limit that has one
abbrev pub HasReadPatterns : SchemaParts → Type 0
HasReadPatterns schema = All (λ kind. All (λ limit. IfSome limit.pattern IsRead) kind.limits) schema.kinds
