-- The codes as the rules number them.
use Rattle.std.specs.Prelude.{ℕ}
use Rattle.std.specs.declared.cmp.Ordering.{Ordering}
use Rattle.ocsf_event.specs.declared.violation.Wrong.{Wrong}
use Rattle.ocsf_event.specs.declared.violation.Wrong.TheVariants as code
use Rattle.ocsf_event.specs.declared.violation.Violation.{Violation}
use Rattle.ocsf_event_rules.specs.Wrong as wrong

abbrev pub rank : Wrong → ℕ
rank code.ClassUnknown = wrong.class_unknown
rank code.AttributeUnknown = wrong.attribute_unknown
rank code.ProfileInactive = wrong.profile_inactive
rank code.RequiredMissing = wrong.required_missing
rank code.WrongType = wrong.wrong_type
rank code.TooLong = wrong.too_long
rank code.OutOfRange = wrong.out_of_range
rank code.Pattern = wrong.pattern
rank code.NotAnInstant = wrong.not_an_instant
rank code.NotAValue = wrong.not_a_value
rank code.EnumUnknown = wrong.enum_unknown
rank code.AtLeastOne = wrong.at_least_one
rank code.JustOne = wrong.just_one
rank code.NumberMismatch = wrong.number_mismatch
rank code.ProfileUnknown = wrong.profile_unknown

-- a violation as the rules tell it
abbrev pub told_violation : Violation → wrong.Violation
told_violation v = record { place = v.place.steps; code = rank v.code; detail = v.detail }

-- by place, then by rank, then by the detail's bytes
abbrev pub violation_order : Violation → Violation → Ordering
violation_order v w = wrong.violation_cmp (told_violation v) (told_violation w)
