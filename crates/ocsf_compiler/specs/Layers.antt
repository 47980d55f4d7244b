-- For private clauses: one layer of the dictionaries more.
use Rattle.std.specs.Prelude.{◌++◌, Option, Some, None}
use Rattle.std.specs.Option.{option_or}
use Rattle.ocsf_lists.specs.FirstOfEach.{first_of_each}
use Rattle.ocsf_raw.specs.declared.dictionary.DictEntry.{DictEntry}
use Rattle.ocsf_raw.specs.declared.dictionary.TypeEntry.{TypeEntry}
use Rattle.ocsf_bundle.specs.Shown.{Shown, Dict, Kind}

abbrev pub as_entry : Shown → Option DictEntry
as_entry (Dict ext entry) = Some entry
as_entry _ = None

abbrev pub as_type : Shown → Option TypeEntry
as_type (Kind entry) = Some entry
as_type _ = None

-- each field as the layer gives it where it does, else the old one; of each key the layer's member before the old one
abbrev pub entry_over : DictEntry → DictEntry → DictEntry
entry_over layer old = record {
  name = old.name;
  caption = option_or layer.caption old.caption;
  description = option_or layer.description old.description;
  type_name = option_or layer.type_name old.type_name;
  is_array = option_or layer.is_array old.is_array;
  members = first_of_each (λ m. m.key) (layer.members ++ old.members);
  sibling = option_or layer.sibling old.sibling;
}

-- each field as the layer gives it where it does, else the old one
abbrev pub type_over : TypeEntry → TypeEntry → TypeEntry
type_over layer old = record {
  name = old.name;
  caption = option_or layer.caption old.caption;
  description = option_or layer.description old.description;
  parent = option_or layer.parent old.parent;
  pattern = option_or layer.pattern old.pattern;
  range = option_or layer.range old.range;
  max_len = option_or layer.max_len old.max_len;
  values = option_or layer.values old.values;
}
