-- An attribute of an item: what its layers say, and behind that the dictionary.
use Rattle.std.specs.Prelude.{ℕ, ◌||◌, Bool, false, List, [], ◌∷◌, ◌++◌, map, reverse, flat_map, codes, Option, Some}
use Rattle.std.specs.Prelude.{None, unwrap_or, is_some, if◌then◌else◌}
use Rattle.std.specs.Option.{option_map, option_and_then, option_or}
use Rattle.std.specs.Str.{bytes_eq}
use Rattle.ocsf_tree.specs.declared.key.Key.{Key}
use Rattle.ocsf_tree.specs.declared.key.Side.TheVariants.{Object}
use Rattle.ocsf_tree.specs.declared.attribute.EnumMember.{EnumMember}
use Rattle.ocsf_tree.specs.declared.attribute.Requirement.TheVariants.{Optional}
use Rattle.ocsf_lists.specs.FirstOfEach.{first_of_each}
use Rattle.ocsf_lists.specs.Given.{last_given}
use Rattle.ocsf_raw.specs.declared.attribute.Mark.{Mark}
use Rattle.ocsf_raw.specs.declared.attribute.Mark.TheVariants.{Named}
use Rattle.ocsf_schema.specs.declared.records.Attr.{Attr}
use Rattle.ocsf_schema.specs.declared.records.Target.{Target}
use Rattle.ocsf_schema.specs.declared.records.Target.TheVariants as target
use Rattle.ocsf_bundle.specs.Looks.{Looks, is_there, DictOf}
use Rattle.ocsf_bundle.specs.declared.cells.Cell.{Cell}
use Rattle.ocsf_merge.specs.declared.spoken.Spoken.{Spoken}
use Rattle.ocsf_schema.specs.Bases.{base_of}
use Rattle.ocsf_rules.specs.declared.said.DictSaid.{DictSaid}
use Rattle.ocsf_rules.specs.declared.said.TypeSaid.{TypeSaid}
use Rattle.ocsf_rules.specs.Names.{has_slash, in_extension, exists_cell, found, item_at, profile_named}

-- ---- the dictionary

-- a type as it is written in a layer or a dictionary of that extension
abbrev pub type_said_in : List ℕ → Option (List ℕ) → Option TypeSaid
type_said_in ext written = option_map (λ name. record { name = name; from = ext }) written

-- what the dictionaries say of an attribute, the last layer before those before it
abbrev pub dict_said : List DictOf → DictSaid
dict_said ds = record {
  caption = last_given (λ d. d.entry.caption) ds;
  description = last_given (λ d. d.entry.description) ds;
  type_said = last_given (λ d. type_said_in d.ext d.entry.type_name) ds;
  is_array = last_given (λ d. d.entry.is_array) ds;
  sibling = last_given (λ d. d.entry.sibling) ds;
  members = flat_map (λ d. d.entry.members) (reverse ds);
}

-- ---- fields

-- the type: the layers', else the dictionary's
abbrev pub type_of : DictSaid → Spoken → Option TypeSaid
type_of d s = option_or (type_said_in s.type_from s.attr.type_name) d.type_said

-- the enumeration: of each key the member of the last that gives it, the dictionary before the layers
abbrev pub members_of : DictSaid → Spoken → List EnumMember
members_of d s = first_of_each (λ m. m.key) (s.attr.members ++ d.members)

-- the key of the profile that the mark names
abbrev pub mark_key : Looks → List ℕ → Bool → Mark → Option (List ℕ)
mark_key b ext is_key (Named p) = if is_key then Some p else profile_named b ext p
mark_key b ext is_key _ = None

abbrev pub profile_of : Looks → Spoken → Option (List ℕ)
profile_of b s = mark_key b s.mark_from s.mark_is_key s.attr.mark

-- ---- targets

abbrev pub is_base_type : List ℕ → Bool
is_base_type t = is_some (base_of t)

-- a base type or a listed one
abbrev pub is_data_type : Looks → List ℕ → Bool
is_data_type b t = is_base_type t || is_there (b.kinds t)

abbrev pub is_open_object : List ℕ → Bool
is_open_object t = bytes_eq t (codes "object") || bytes_eq t (codes "object_t")

abbrev pub only_in : List ℕ → List ℕ → List (List ℕ)
only_in [] t = []
only_in (c ∷ ext) t = in_extension (c ∷ ext) t ∷ []

-- the keys of objects that a type may mean: in the item's extension, in that of who gives the type, in core
abbrev pub object_candidates : List ℕ → TypeSaid → List (List ℕ)
object_candidates ext t =
    if has_slash t.name then t.name ∷ [] else only_in ext t.name ++ only_in t.from t.name ++ t.name ∷ []

abbrev pub object_cells : List ℕ → TypeSaid → List Cell
object_cells ext t = map (exists_cell Object) (object_candidates ext t)

-- the object that the type means
abbrev pub object_named : Looks → List ℕ → TypeSaid → Option (List ℕ)
object_named b ext t = option_map (λ (k : Key). k.name) (option_and_then item_at (found b (object_cells ext t)))

abbrev pub open_object : List ℕ → Option Target
open_object t = if is_open_object t then Some target.Anything else None

-- a data type, else an object, else the open object
abbrev pub target_named : Looks → List ℕ → TypeSaid → Option Target
target_named b ext t =
    if is_data_type b t.name then Some (target.Simple t.name)
    else option_or (option_map target.Object (object_named b ext t)) (open_object t.name)

-- what the type leads to, in an item of that extension; an attribute that no dictionary has leads nowhere
abbrev pub target_of : Looks → List ℕ → Spoken → Option Target
target_of b ext s =
    if is_there (b.dict s.attr.name)
    then option_and_then (target_named b ext) (type_of (dict_said (b.dict s.attr.name)) s) else None

-- ---- the attribute

-- from what the layers and the dictionary say, with the computed enumeration where there is one
abbrev pub attr_from : Spoken → DictSaid → Target → Option (List ℕ) → Option (List EnumMember) → Attr
attr_from s d target profile computed = record {
  name = s.attr.name;
  caption = option_or s.attr.caption d.caption;
  description = option_or s.attr.description d.description;
  target = target;
  is_array = unwrap_or (option_or s.attr.is_array d.is_array) false;
  requirement = unwrap_or s.attr.requirement Optional;
  profile = profile;
  group = s.attr.group;
  sibling = option_or s.attr.sibling d.sibling;
  members = unwrap_or computed (members_of d s);
}

abbrev pub attr_of : Looks → List ℕ → Option (List EnumMember) → Spoken → Attr
attr_of b ext computed s =
    attr_from s (dict_said (b.dict s.attr.name)) (unwrap_or (target_of b ext s) target.Anything) (profile_of b s)
    computed
