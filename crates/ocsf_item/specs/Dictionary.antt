-- The entries of dictionaries as the code lends them, and what one more says.
use Rattle.std.specs.Prelude.{ℕ, List, ◌++◌}
use Rattle.std.specs.Option.{option_or}
use Rattle.ocsf_bundle.specs.Looks.{DictOf}
use Rattle.ocsf_bundle.specs.declared.cells.Cell.{Cell}
use Rattle.ocsf_bundle.specs.declared.cells.Cell.TheVariants as cell
use Rattle.ocsf_item.specs.declared.dictionary.DictLayer.{DictLayer}
use Rattle.ocsf_rules.specs.declared.said.DictSaid.{DictSaid}
use Rattle.ocsf_rules.specs.Attribute.{type_said_in}

abbrev pub dict_of : DictLayer → DictOf
dict_of layer = record { ext = layer.ext.now; entry = layer.entry.now }

abbrev pub dict_cell : List ℕ → Cell
dict_cell name = cell.Dict name

-- what an entry says, and behind it what was said before
abbrev pub dict_over : DictOf → DictSaid → DictSaid
dict_over d before = record {
  caption = option_or d.entry.caption before.caption;
  description = option_or d.entry.description before.description;
  type_said = option_or (type_said_in d.ext d.entry.type_name) before.type_said;
  is_array = option_or d.entry.is_array before.is_array;
  sibling = option_or d.entry.sibling before.sibling;
  members = d.entry.members ++ before.members;
}
