-- The dictionaries in one: of an attribute and of a type, each field of the last layer that gives it.
use Rattle.std.specs.Prelude.{ℕ, List, [], ◌∷◌, ◌++◌, map, filter_map, codes, Option, None}
use Rattle.std.specs.Option.{option_map, option_or}
use Rattle.std.specs.Result.{result_ok}
use Rattle.ocsf_lists.specs.FirstOfEach.{first_of_each}
use Rattle.ocsf_lists.specs.Given.{last_given}
use Rattle.ocsf_raw.specs.declared.dictionary.DictEntry.{DictEntry}
use Rattle.ocsf_raw.specs.declared.dictionary.TypeEntry.{TypeEntry}
use Rattle.ocsf_schema.specs.declared.records.Kind.{Kind}
use Rattle.ocsf_bundle.specs.Looks.{Looks}
use Rattle.ocsf_kind.specs.Kinds.{kind_of}
use Rattle.ocsf_rules.specs.declared.said.DictSaid.{DictSaid}
use Rattle.ocsf_rules.specs.Attribute.{dict_said}
use Rattle.ocsf_bundle.specs.Listing.{Listing, in_byte_order}

-- ---- attributes

-- an attribute of which the dictionaries say that; of each key the last member that is given
abbrev pub entry_said : List ℕ → DictSaid → DictEntry
entry_said name said = record {
  name = name;
  caption = said.caption;
  description = said.description;
  type_name = option_map (λ t. t.name) said.type_said;
  is_array = said.is_array;
  members = first_of_each (λ m. m.key) said.members;
  sibling = said.sibling;
}

abbrev pub merged_entry : Looks → List ℕ → DictEntry
merged_entry b name = entry_said name (dict_said (b.dict name))

abbrev pub merged_entries : Looks → Listing → List DictEntry
merged_entries b l = map (merged_entry b) l.attributes

-- ---- types

abbrev pub merged_layers : List ℕ → List TypeEntry → TypeEntry
merged_layers name layers = record {
  name = name;
  caption = last_given (λ t. t.caption) layers;
  description = last_given (λ t. t.description) layers;
  parent = last_given (λ t. t.parent) layers;
  pattern = last_given (λ t. t.pattern) layers;
  range = last_given (λ t. t.range) layers;
  max_len = last_given (λ t. t.max_len) layers;
  values = last_given (λ t. t.values) layers;
}

abbrev pub merged_type : Looks → List ℕ → TypeEntry
merged_type b name = merged_layers name (b.kinds name)

abbrev pub merged_types : Looks → Listing → List TypeEntry
merged_types b l = map (merged_type b) l.types

-- ---- what types lead to

abbrev pub base_types : List (List ℕ)
base_types =
    codes "boolean_t" ∷ codes "float_t" ∷ codes "integer_t" ∷ codes "json_t" ∷ codes "long_t" ∷ codes "string_t" ∷ []

-- the base types and the listed types
abbrev pub data_types : Listing → List (List ℕ)
data_types l = in_byte_order (base_types ++ l.types)

-- by name, the kind of each data type that leads to a base
abbrev pub kinds : Looks → Listing → List Kind
kinds b l = filter_map (λ name. result_ok (kind_of (merged_types b l) name)) (data_types l)
