-- The ranges of a class's numbers.
use Rattle.std.specs.Prelude.{◌≡◌, ◌≤◌, Bool, true, List}
use Rattle.std.specs.List.{list_all}
use Rattle.ocsf_tree.specs.declared.attribute.EnumMember.{EnumMember}
use Rattle.ocsf_rules.specs.declared.category.Category.{Category}
use Rattle.ocsf_rules.specs.declared.numbered.Numbered.{Numbered}
use Rattle.ocsf_rules.specs.ItemFaults.{is_small_decimal}

abbrev pub IsCategoryInRange : Category → Type 0
IsCategoryInRange c = (c.ext_uid ≤ 999) × (c.uid ≤ 99)

-- each key is a decimal from 0 to 99
abbrev pub are_small : List EnumMember → Bool
are_small activities = list_all (λ m. is_small_decimal m.key) activities

pub record IsNumberedInRange (n : Numbered) : Type 0 where
  pub number : n.number ≤ 99999999
  pub category : IsCategoryInRange n.category
  pub activities : are_small n.activities ≡ true
