-- The numbers of activities.
use Rattle.std.specs.Prelude.{ℕ, List, Option, Some, None, if◌then◌else◌}
use Rattle.std.specs.Option.{option_map, option_and_then}
use Rattle.std.specs.Str.Parse.{digits_value}
use Rattle.ocsf_tree.specs.declared.attribute.EnumMember.{EnumMember}
use Rattle.ocsf_rules.specs.declared.category.Category.{Category}
use Rattle.ocsf_rules.specs.declared.numbered.Numbered.{Numbered}
use Rattle.ocsf_rules.specs.ItemFaults.{is_small_decimal}

-- the number that a decimal from 0 to 99 writes
abbrev pub small_number : List ℕ → Option ℕ
small_number key = if is_small_decimal key then Some (digits_value 10 key) else None

abbrev pub numbered_by : Option ℕ → List ℕ → Option Category → List EnumMember → Option Numbered
numbered_by number caption category activities =
    option_and_then (λ number. option_map
    (λ c. record { number = number; caption = caption; category = c; activities = activities }) category) number
