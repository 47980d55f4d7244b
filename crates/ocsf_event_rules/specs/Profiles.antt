-- The profiles of an event, and the attributes that are in force.
use Rattle.std.specs.Prelude.{ℕ, Bool, true, List, [], filter_map, codes, Option, unwrap_or, is_some}
use Rattle.std.specs.Option.{option_map_or, option_and_then}
use Rattle.ocsf_tree.specs.declared.tree.Tree.{Tree, out-Tree}
use Rattle.ocsf_tree.specs.Lookup.{text_of, items_of, member_at}
use Rattle.ocsf_schema.specs.declared.records.Attr.{Attr}
use Rattle.ocsf_schema.specs.declared.parts.SchemaParts.{SchemaParts}
use Rattle.ocsf_lists.specs.Among.{is_among}

abbrev pub as_list : Tree → Option (List Tree)
as_list value = items_of (out-Tree value)

abbrev pub as_text : Tree → Option (List ℕ)
as_text value = text_of (out-Tree value)

-- the list that an event has at `metadata.profiles`
abbrev pub profile_list : Tree → List Tree
profile_list event =
    unwrap_or
    (option_and_then as_list (option_and_then (member_at (codes "profiles")) (member_at (codes "metadata") event)))
    []

-- the profiles of an event: the texts in that list
abbrev pub named_profiles : Tree → List (List ℕ)
named_profiles event = filter_map as_text (profile_list event)

-- an attribute is in force without a profile, and with one that is among these
abbrev pub is_in_force : List (List ℕ) → Attr → Bool
is_in_force profiles attr = option_map_or (λ profile. is_among profile profiles) attr.profile true

-- whether the schema has the profile
abbrev pub is_profile : SchemaParts → List ℕ → Bool
is_profile schema profile = is_some (member_at profile schema.profiles)
