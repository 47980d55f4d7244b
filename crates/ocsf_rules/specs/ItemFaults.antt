-- What is wrong with an item, and the least of it.
use Rattle.std.specs.Prelude.{ℕ, ◌==◌, ◌&&◌, not, nat_lt, Bool, false, List, [], ◌∷◌, ◌++◌, flat_map, length, codes}
use Rattle.std.specs.Prelude.{Option, unwrap_or, is_some, is_none, if◌then◌else◌}
use Rattle.std.specs.Option.{option_map_or, option_or}
use Rattle.std.specs.List.{list_any, take_while}
use Rattle.std.specs.Str.{bytes_eq}
use Rattle.std.specs.Char.{is_ascii_digit}
use Rattle.std.specs.Ordering.{is_lt}
use Rattle.ocsf_tree.specs.declared.key.Key.{Key}
use Rattle.ocsf_tree.specs.declared.fault.Fault.{Fault}
use Rattle.ocsf_tree.specs.declared.fault.Code.TheVariants as code
use Rattle.ocsf_tree.specs.declared.attribute.EnumMember.{EnumMember}
use Rattle.ocsf_lists.specs.ByName.{text_cmp, at_name}
use Rattle.ocsf_schema.specs.declared.records.Target.{Target}
use Rattle.ocsf_tree.specs.Key.{key_text, same_side}
pub use Rattle.ocsf_tree.specs.Fault.{fault}
use Rattle.ocsf_tree.specs.LeastFault.{least_fault}
use Rattle.ocsf_raw.specs.declared.attribute.RawAttr.{RawAttr}
use Rattle.ocsf_raw.specs.declared.attribute.Mark.{Mark}
use Rattle.ocsf_raw.specs.declared.attribute.Mark.TheVariants.{Named}
use Rattle.ocsf_bundle.specs.Looks.{Looks, is_there}
use Rattle.ocsf_merge.specs.declared.spoken.Spoken.{Spoken}
use Rattle.ocsf_merge.specs.Layers.{Layer}
use Rattle.ocsf_merge.specs.Table.{table_of}
use Rattle.ocsf_rules.specs.declared.said.TypeSaid.{TypeSaid}
use Rattle.ocsf_rules.specs.declared.category.Category.{Category}
use Rattle.ocsf_rules.specs.declared.category.Written.{Written}
use Rattle.ocsf_rules.specs.Names.{ext_of, found, profile_cells, include_cells}
use Rattle.ocsf_rules.specs.Chain.{chain, written_parent, parent, Speaker, speakers, layers, include_layer}
use Rattle.ocsf_rules.specs.Chain.{listed_layer}
use Rattle.ocsf_rules.specs.Attribute.{dict_said, type_of, target_of}
use Rattle.ocsf_rules.specs.Compiled.{uid, written_category, category, at_least_one, just_one, activities}

-- ---- of the chain

abbrev pub same_key : Key → Key → Bool
same_key j k = same_side j.side k.side && bytes_eq j.name k.name

-- the keys of the cycle that a chain runs into: from the first key that comes again, until it does
abbrev pub cycle_in : List Key → List Key
cycle_in [] = []
cycle_in (k ∷ ks) = if list_any (same_key k) ks then k ∷ take_while (λ j. not (same_key k j)) ks else cycle_in ks

abbrev pub lesser_key : Key → Key → Key
lesser_key j k = if is_lt (text_cmp (key_text j) (key_text k)) then j else k

-- the least of these keys as they are printed
abbrev pub least_key : Key → List Key → Key
least_key k [] = k
least_key k (j ∷ js) = least_key (lesser_key j k) js

-- the least key on the cycle, with what it extends
abbrev pub cycle_fault : Looks → List Key → List Fault
cycle_fault b [] = []
cycle_fault b (k ∷ ks) =
    let least = least_key k ks in fault code.ExtendsCycle (key_text least) (unwrap_or (written_parent b least) []) ∷ []

-- the key extends what isn't there
abbrev pub parent_fault : Looks → Key → List Fault
parent_fault b k =
    if is_none (parent b k)
    then option_map_or (λ name. fault code.ParentUnknown (key_text k) name ∷ []) (written_parent b k) [] else []

abbrev pub limit_fault : Key → List Fault
limit_fault k = fault code.ChainLimit (key_text k) (codes "32") ∷ []

-- a chain of 33 keys is too long, or runs into a cycle; the parent of its last key isn't looked at
abbrev pub faults_along : Looks → Key → List Key → List Fault
faults_along b k keys =
    if length keys == 33
    then (if is_there (cycle_in keys) then cycle_fault b (cycle_in keys) else limit_fault k)
    else flat_map (parent_fault b) keys

abbrev pub chain_faults : Looks → Key → List Fault
chain_faults b k = faults_along b k (chain b k)

-- ---- of the layers

abbrev pub unknown_profile : Looks → Key → List ℕ → List ℕ → List Fault
unknown_profile b by ext name =
    if is_none (found b (profile_cells ext name)) then fault code.ProfileUnknown (key_text by) name ∷ [] else []

abbrev pub mark_fault : Looks → Key → List ℕ → Mark → List Fault
mark_fault b by ext (Named name) = unknown_profile b by ext name
mark_fault b by ext _ = []

abbrev pub entry_fault : Looks → Key → List ℕ → RawAttr → List Fault
entry_fault b by ext entry = if entry.removed then [] else mark_fault b by ext entry.mark

-- the profiles that a layer's entries name
abbrev pub layer_faults : Looks → Key → Layer → List Fault
layer_faults b by layer = flat_map (entry_fault b by layer.from) layer.entries

abbrev pub unknown_include : Looks → Key → List ℕ → List ℕ → List Fault
unknown_include b by ext path =
    if is_none (found b (include_cells ext path)) then fault code.IncludeUnknown (key_text by) path ∷ [] else []

abbrev pub include_faults : Looks → Key → List ℕ → List ℕ → List Fault
include_faults b by ext path = unknown_include b by ext path ++ flat_map (layer_faults b by) (include_layer b ext path)

abbrev pub listed_faults : Looks → Key → List ℕ → List ℕ → List Fault
listed_faults b by ext name = unknown_profile b by ext name ++ flat_map (layer_faults b by) (listed_layer b ext name)

abbrev pub speaker_faults : Looks → Speaker → List Fault
speaker_faults b s =
    flat_map (include_faults b s.by s.ext) s.file.includes
    ++ flat_map (listed_faults b s.by s.ext) s.file.profiles
    ++ flat_map (entry_fault b s.by s.ext) s.file.attributes

abbrev pub layers_faults : Looks → Key → List Fault
layers_faults b k = flat_map (speaker_faults b) (speakers b k)

-- ---- of the item

abbrev pub type_text : Option TypeSaid → List ℕ
type_text t = option_map_or (λ t. t.name) t []

-- of an attribute of that name that is in the dictionary or isn't, and whose type leads there
abbrev pub leads_fault : Key → List ℕ → Bool → Option Target → Option TypeSaid → List Fault
leads_fault k name there target t =
    if there
    then (if is_some target then [] else fault code.KindUnknown (key_text k) (name ++ codes " " ++ type_text t) ∷ [])
    else fault code.AttributeUnknown (key_text k) name ∷ []

-- the attribute isn't in the dictionary, or its type leads nowhere
abbrev pub attribute_fault : Looks → Key → Spoken → List Fault
attribute_fault b k s =
    leads_fault k s.attr.name (is_there (b.dict s.attr.name)) (target_of b (ext_of k.name) s)
    (type_of (dict_said (b.dict s.attr.name)) s)

-- of a class with that category, the one that is written, and that number
abbrev pub missing_category : Key → Option Category → Option Written → Option ℕ → List Fault
missing_category k category written uid =
    if is_none category
    then option_map_or (λ w. fault code.CategoryUnknown (key_text k) w.name ∷ []) written
    (if is_some uid then fault code.CategoryUnknown (key_text k) [] ∷ [] else [])
    else []

-- a class's category isn't there, or a class with a number has none
abbrev pub category_fault : Looks → Key → List Fault
category_fault b k = missing_category k (category b k) (written_category b k) (uid b k)

-- a constraint names an attribute that has no row
abbrev pub absent_fault : Key → List Spoken → List ℕ → List Fault
absent_fault k rows name =
    if is_some (at_name (λ s. s.attr.name) name rows) then [] else fault code.ConstraintUnknown (key_text k) name ∷ []

abbrev pub constraint_fault : Looks → Key → List ℕ → List Fault
constraint_fault b k name = absent_fault k (table_of (layers b k)) name

-- a decimal from 0 to 99 without leading zeros
abbrev pub is_small_decimal : List ℕ → Bool
is_small_decimal (d ∷ []) = is_ascii_digit d
is_small_decimal (d ∷ e ∷ []) = is_ascii_digit d && (not (d == 48) && is_ascii_digit e)
is_small_decimal _ = false

abbrev pub activity_fault : Key → EnumMember → List Fault
activity_fault k m = if is_small_decimal m.key then [] else fault code.EnumKey (key_text k) m.key ∷ []

-- in a class that has a number
abbrev pub activities_faults : Key → Option ℕ → List EnumMember → List Fault
activities_faults k uid members = if is_some uid then flat_map (activity_fault k) members else []

abbrev pub activity_faults : Looks → Key → List Fault
activity_faults b k = activities_faults k (uid b k) (activities b k)

abbrev pub size_fault : Key → List Spoken → List Fault
size_fault k rows = if nat_lt 1024 (length rows) then fault code.AttributeLimit (key_text k) (codes "1024") ∷ [] else []

abbrev pub own_faults : Looks → Key → List Fault
own_faults b k =
    activity_faults b k
    ++ category_fault b k
    ++ flat_map (attribute_fault b k) (table_of (layers b k))
    ++ flat_map (constraint_fault b k) (at_least_one b k)
    ++ flat_map (constraint_fault b k) (just_one b k)
    ++ size_fault k (table_of (layers b k))

-- ---- the least

-- of the chain; of the layers only where the chain has none; of the item only where these have none
unfoldable pub item_fault : Looks → Key → Option Fault
item_fault b k =
    option_or (least_fault (chain_faults b k))
    (option_or (least_fault (layers_faults b k)) (least_fault (own_faults b k)))
