-- What layers say of their attributes: of each field, what the last layer says that gives it.
use Rattle.std.specs.Prelude.{ℕ, Bool, true, false, List, [], ◌∷◌, map, reverse, flat_map, Option, Some, None}
use Rattle.std.specs.Prelude.{unwrap_or, if◌then◌else◌}
use Rattle.std.specs.Option.{option_or, option_map, option_map_or}
use Rattle.std.specs.List.{filter_map}
use Rattle.ocsf_tree.specs.declared.attribute.EnumMember.{EnumMember}
use Rattle.ocsf_lists.specs.FirstOfEach.{first_of_each}
use Rattle.ocsf_lists.specs.Given.{first_given}
use Rattle.ocsf_raw.specs.declared.attribute.Mark.{Mark}
use Rattle.ocsf_raw.specs.declared.attribute.Mark.TheVariants.{Unsaid}
use Rattle.ocsf_merge.specs.declared.spoken.Spoken.{Spoken}
use Rattle.ocsf_merge.specs.Layers.{Layer, GivenMark, no_mark, entries_for}

-- what is said before the first removal
abbrev pub until_removal : List (Option Spoken) → List Spoken
until_removal [] = []
until_removal (None ∷ rest) = []
until_removal (Some said ∷ rest) = said ∷ until_removal rest

-- the entries that count, the last one first: those after the last removal
abbrev pub counting : List ℕ → List Layer → List Spoken
counting attribute layers = until_removal (reverse (entries_for attribute layers))

-- the type with the extension that gives it
abbrev pub type_said : Spoken → Option (List ℕ × List ℕ)
type_said said = option_map (λ t. (t, said.type_from)) said.attr.type_name

-- a mark is said where it names a profile and where it is cleared
abbrev pub is_said : Mark → Bool
is_said Unsaid = false
is_said _ = true

abbrev pub mark_said : Spoken → Option GivenMark
mark_said said =
    if is_said said.attr.mark
    then Some (record { mark = said.attr.mark; from = said.mark_from; is_key = said.mark_is_key }) else None

-- of each key the member of the first of these entries that gives it
abbrev pub members_said : List Spoken → List EnumMember
members_said entries = first_of_each (λ m. m.key) (flat_map (λ said. said.attr.members) entries)

-- what these entries say, the last one first
abbrev pub spoken_by : List ℕ → List Spoken → Spoken
spoken_by attribute entries =
    let mark = unwrap_or (first_given mark_said entries) no_mark in
    record {
      attr = record {
        name = attribute;
        removed = false;
        caption = first_given (λ said. said.attr.caption) entries;
        description = first_given (λ said. said.attr.description) entries;
        type_name = first_given (λ said. said.attr.type_name) entries;
        is_array = first_given (λ said. said.attr.is_array) entries;
        members = members_said entries;
        sibling = first_given (λ said. said.attr.sibling) entries;
        requirement = first_given (λ said. said.attr.requirement) entries;
        mark = mark.mark;
        group = first_given (λ said. said.attr.group) entries;
      };
      type_from = option_map_or (λ t. t.1) (first_given type_said entries) [];
      mark_from = mark.from;
      mark_is_key = mark.is_key;
    }

-- an attribute is present where an entry counts
abbrev pub present : List ℕ → List Spoken → Option Spoken
present attribute [] = None
present attribute (said ∷ rest) = Some (spoken_by attribute (said ∷ rest))

-- what the layers say of the attribute, if it is present
abbrev pub spoken : List ℕ → List Layer → Option Spoken
spoken attribute layers = present attribute (counting attribute layers)

-- the attributes that some layer names, in byte order
abbrev pub names_in : List Layer → List (List ℕ)
names_in layers = first_of_each (λ name. name) (flat_map (λ layer. map (λ e. e.name) layer.entries) layers)

-- what the layers say of each attribute that is present, in byte order
abbrev pub table_of : List Layer → List Spoken
table_of layers = filter_map (λ attribute. spoken attribute layers) (names_in layers)
