-- The compiled item.
use Rattle.std.specs.Prelude.{ℕ, Bool, true, false, List, [], ◌∷◌, ◌++◌, map, reverse, codes, decimal, Option, Some}
use Rattle.std.specs.Prelude.{None, unwrap_or, is_none, nat_eq, if◌then◌else◌}
use Rattle.std.specs.Option.{option_map, option_map_or, option_and_then}
use Rattle.std.specs.List.{filter_map, starts_with}
use Rattle.std.specs.Str.{bytes_eq}
use Rattle.std.specs.Str.Parse.{digits_value}
use Rattle.ocsf_tree.specs.declared.key.Side.{Side}
use Rattle.ocsf_tree.specs.declared.key.Side.TheVariants.{Class, Object}
use Rattle.ocsf_tree.specs.declared.key.Key.{Key}
use Rattle.ocsf_tree.specs.declared.attribute.EnumMember.{EnumMember}
use Rattle.ocsf_lists.specs.ByName.{at_name}
use Rattle.ocsf_lists.specs.FirstOfEach.{first_of_each}
use Rattle.ocsf_schema.specs.declared.records.Item.{Item}
use Rattle.ocsf_bundle.specs.Looks.{Looks, CategoryOf, BuiltIn, Listed}
use Rattle.ocsf_bundle.specs.declared.cells.Cell.{Cell}
use Rattle.ocsf_bundle.specs.declared.cells.Cell.TheVariants as cell
use Rattle.ocsf_lists.specs.Given.{last_given}
use Rattle.ocsf_merge.specs.declared.spoken.Spoken.{Spoken}
use Rattle.ocsf_merge.specs.Layers.{Layer}
use Rattle.ocsf_merge.specs.Table.{table_of}
use Rattle.ocsf_kind.specs.Numbers.{category_uid, class_uid, type_uid}
use Rattle.ocsf_rules.specs.declared.category.Category.{Category}
use Rattle.ocsf_rules.specs.declared.category.Written.{Written}
use Rattle.ocsf_rules.specs.declared.numbered.Numbered.{Numbered}
use Rattle.ocsf_rules.specs.Names.{first_of, ext_of, found, category_cells}
use Rattle.ocsf_rules.specs.Chain.{Speaker, speakers, speakers_of, layers, own_file, parent}
use Rattle.ocsf_rules.specs.Attribute.{attr_of, dict_said, members_of}

-- ---- fields of the files

abbrev pub is_class_side : Side → Bool
is_class_side Class = true
is_class_side Object = false

abbrev pub is_class : Key → Bool
is_class k = is_class_side k.side

-- among the item's own file and its patches
abbrev pub caption : Looks → Key → Option (List ℕ)
caption b k = last_given (λ s. s.file.caption) (speakers_of b k)

abbrev pub description : Looks → Key → Option (List ℕ)
description b k = last_given (λ s. s.file.description) (speakers_of b k)

-- the last list given along the chain
abbrev pub at_least_one : Looks → Key → List (List ℕ)
at_least_one b k = unwrap_or (last_given (λ s. s.file.at_least_one) (speakers b k)) []

abbrev pub just_one : Looks → Key → List (List ℕ)
just_one b k = unwrap_or (last_given (λ s. s.file.just_one) (speakers b k)) []

-- the number of a class, as its own file gives it
abbrev pub uid : Looks → Key → Option ℕ
uid b k = if is_class k then option_and_then (λ file. file.uid) (own_file b k) else None

abbrev pub starts_low : List ℕ → Bool
starts_low name = starts_with nat_eq name (codes "_")

-- a class without a number, and an object whose name starts with `_`
abbrev pub is_hidden : Looks → Key → Bool
is_hidden b k =
    if is_class k then is_none (uid b k)
    else option_map_or starts_low (option_and_then (λ file. file.name) (own_file b k)) false

-- ---- the category

-- a category as a file writes it
abbrev pub written_in : Speaker → Option Written
written_in s = option_map (λ name. record { name = name; ext = s.ext }) s.file.category

-- the last one given along the chain of a class
abbrev pub written_category : Looks → Key → Option Written
written_category b k = if is_class k then last_given written_in (speakers b k) else None

-- the built-in category, or one that is listed
abbrev pub category_of : List ℕ → CategoryOf → Category
category_of key BuiltIn = record { key = key; ext_uid = 0; uid = 0; caption = Some (codes "Uncategorized") }
category_of key (Listed ext entry) = record { key = key; ext_uid = ext; uid = entry.uid; caption = entry.caption }

abbrev pub category_at : Looks → Cell → Option Category
category_at b (cell.Category c) = option_map (category_of c) (first_of (b.categories c))
category_at b _ = None

abbrev pub category_named : Looks → Written → Option Category
category_named b w = option_and_then (category_at b) (found b (category_cells w.ext w.name))

abbrev pub category : Looks → Key → Option Category
category b k = option_and_then (category_named b) (written_category b k)

-- ---- numbers

abbrev pub category_number : Category → ℕ
category_number c = category_uid c.ext_uid c.uid

-- the uid of the item's extension, 0 for core
abbrev pub ext_uid : Looks → List ℕ → ℕ
ext_uid b [] = 0
ext_uid b (c ∷ ext) = option_map_or (λ file. file.uid) (first_of (b.exts (c ∷ ext))) 0

abbrev pub class_number : Looks → Key → Option ℕ
class_number b k =
    option_and_then (λ u. option_map (λ c. class_uid (ext_uid b (ext_of k.name)) c.uid u) (category b k)) (uid b k)

-- ---- computed enumerations

abbrev pub bare_member : List ℕ → List ℕ → EnumMember
bare_member key caption = record { key = key; caption = caption; description = None }

-- the caption, or the key where there is none
abbrev pub caption_or_key : Looks → Key → List ℕ
caption_or_key b k = unwrap_or (caption b k) k.name

-- what the layers say of an attribute that is present
abbrev pub row_of : Looks → Key → List ℕ → Option Spoken
row_of b k name = at_name (λ s. s.attr.name) name (table_of (layers b k))

abbrev pub enumeration : Looks → Spoken → List EnumMember
enumeration b s = members_of (dict_said (b.dict s.attr.name)) s

-- the enumeration of `activity_id`
abbrev pub activities : Looks → Key → List EnumMember
activities b k = option_map_or (enumeration b) (row_of b k (codes "activity_id")) []

abbrev pub class_members : ℕ → List ℕ → List EnumMember
class_members number caption = bare_member (decimal number) caption ∷ []

abbrev pub category_members : Category → List EnumMember
category_members c = bare_member (decimal (category_number c)) (unwrap_or c.caption c.key) ∷ []

-- for an activity the number of the class and the activity, with both captions
abbrev pub type_member : ℕ → List ℕ → EnumMember → EnumMember
type_member number caption activity =
    bare_member (decimal (type_uid number (digits_value 10 activity.key))) (caption ++ codes ": " ++ activity.caption)

abbrev pub type_members : ℕ → List ℕ → List EnumMember → List EnumMember
type_members number caption activities = first_of_each (λ m. m.key) (map (type_member number caption) activities)

-- what the enumerations are computed from, in a class that isn't hidden and has a category
abbrev pub numbered : Looks → Key → Option Numbered
numbered b k =
    option_and_then (λ number.
    option_map (λ c. record {
      number = number;
      caption = caption_or_key b k;
      category = c;
      activities = activities b
          k;
    }) (category b k)) (class_number b k)

-- three attributes have a computed enumeration, in place of any given
abbrev pub computed_members : Numbered → List ℕ → Option (List EnumMember)
computed_members n name =
    if bytes_eq name (codes "class_uid") then Some (class_members n.number n.caption)
    else (if bytes_eq name (codes "category_uid") then Some (category_members n.category)
    else (if bytes_eq name (codes "type_uid") then Some (type_members n.number n.caption n.activities) else None))

abbrev pub computed : Option Numbered → List ℕ → Option (List EnumMember)
computed n name = option_and_then (λ m. computed_members m name) n

-- ---- the item

-- the profiles that layers include or list
abbrev pub profile_keys : List Layer → List (List ℕ)
profile_keys ls = filter_map (λ layer. option_map (λ p. p.key) layer.profile) ls

unfoldable pub item : Looks → Key → Item
item b k = record {
  key = k;
  caption = caption b k;
  description = description b k;
  parent = option_map (λ p. p.name) (parent b k);
  hidden = is_hidden b k;
  category = option_map (λ c. c.key) (category b k);
  category_uid = option_map (λ c. category_number c) (category b k);
  class_uid = class_number b k;
  profiles = first_of_each (λ p. p) (profile_keys (layers b k));
  at_least_one = at_least_one b k;
  just_one = just_one b k;
  attrs = map (λ s. attr_of b (ext_of k.name) (computed (numbered b k) s.attr.name) s) (table_of (layers b k));
}
