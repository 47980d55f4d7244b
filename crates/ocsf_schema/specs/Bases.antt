-- The names of the base types.
use Rattle.std.specs.Prelude.{ℕ, List, codes, Option, Some, None, if◌then◌else◌}
use Rattle.std.specs.Str.{bytes_eq}
use Rattle.ocsf_schema.specs.declared.records.Base.{Base}
use Rattle.ocsf_schema.specs.declared.records.Base.TheVariants.{Boolean, Words, Integer, Long, Float, Json}

-- the base type of that name
abbrev pub base_of : List ℕ → Option Base
base_of name =
    if bytes_eq name (codes "boolean_t") then Some Boolean
    else (if bytes_eq name (codes "string_t") then Some Words
    else (if bytes_eq name (codes "integer_t") then Some Integer
    else (if bytes_eq name (codes "long_t") then Some Long
    else (if bytes_eq name (codes "float_t") then Some Float
    else (if bytes_eq name (codes "json_t") then Some Json else None)))))
