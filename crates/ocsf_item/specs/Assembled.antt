-- An item from its parts.
use Rattle.std.specs.Prelude.{ℕ, List, Option}
use Rattle.std.specs.Option.{option_map}
use Rattle.ocsf_tree.specs.declared.key.Key.{Key}
use Rattle.ocsf_lists.specs.FirstOfEach.{first_of_each}
use Rattle.ocsf_schema.specs.declared.records.Attr.{Attr}
use Rattle.ocsf_schema.specs.declared.records.Item.{Item}
use Rattle.ocsf_rules.specs.declared.category.Category.{Category}
use Rattle.ocsf_item.specs.declared.own.Own.{Own}
use Rattle.ocsf_rules.specs.Compiled.{category_number}

abbrev pub item_from : Key → Option (List ℕ) → Own → Option Category → Option ℕ → List (List ℕ) → List (List ℕ)
    → List (List ℕ) → List Attr → Item
item_from k parent own category number profiles at_least_one just_one attrs = record {
  key = k;
  caption = own.caption;
  description = own.description;
  parent = parent;
  hidden = own.hidden;
  category = option_map (λ c. c.key) category;
  category_uid = option_map category_number category;
  class_uid = number;
  profiles = first_of_each (λ p. p) profiles;
  at_least_one = at_least_one;
  just_one = just_one;
  attrs = attrs;
}
