-- The patterns of a compilation are read: the statement of the law in src/pattern_laws.rt, of all bundles.
use Rattle.std.specs.Prelude.{None}
use Rattle.ocsf_bundle.specs.Stored.{Stored}
use Rattle.ocsf_rules.specs.Compilation.{compilation}
use Rattle.ocsf_rules.specs.Patterns.{HasReadPatterns}
use Rattle.ocsf_rules.specs.Verdict.{IsVerdict}

-- where the verdict on a bundle is clean, `regex` reads every pattern of the schema that it is compiled to
abbrev pub ReadsEveryPattern : Type 0
ReadsEveryPattern = (bundle : Stored) → IsVerdict bundle None → HasReadPatterns (compilation bundle)
