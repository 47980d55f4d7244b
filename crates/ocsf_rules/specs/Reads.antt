-- The cells that an item reads.
use Rattle.std.specs.Prelude.{ℕ, List, [], ◌∷◌, ◌++◌, flat_map, if◌then◌else◌}
use Rattle.std.specs.Option.{option_map_or}
use Rattle.ocsf_tree.specs.declared.key.Key.{Key}
use Rattle.ocsf_raw.specs.declared.attribute.RawAttr.{RawAttr}
use Rattle.ocsf_raw.specs.declared.attribute.Mark.{Mark}
use Rattle.ocsf_raw.specs.declared.attribute.Mark.TheVariants.{Named}
use Rattle.ocsf_bundle.specs.Looks.{Looks, is_there}
use Rattle.ocsf_bundle.specs.declared.cells.Cell.{Cell}
use Rattle.ocsf_bundle.specs.declared.cells.Cell.TheVariants as cell
use Rattle.ocsf_bundle.specs.CellOrder.{cell_cmp}
use Rattle.ocsf_merge.specs.declared.spoken.Spoken.{Spoken}
use Rattle.ocsf_merge.specs.Layers.{Layer}
use Rattle.ocsf_merge.specs.Table.{table_of}
use Rattle.ocsf_rules.specs.declared.said.TypeSaid.{TypeSaid}
use Rattle.ocsf_rules.specs.Names.{ext_of, tried, item_cells, profile_cells, category_cells, include_cells}
use Rattle.ocsf_rules.specs.Chain.{chain, written_parent, Speaker, speakers, layers, include_layer, listed_layer}
use Rattle.ocsf_rules.specs.Attribute.{dict_said, type_of, is_base_type, is_data_type, object_cells}
use Rattle.ocsf_rules.specs.Compiled.{written_category}
use Rattle.ocsf_rules.specs.InOrder.{in_order}

-- ---- of the chain

-- the cells tried for the parent
abbrev pub parent_reads : Looks → Key → List Cell
parent_reads b k = option_map_or (λ name. tried b (item_cells k.side (ext_of k.name) name)) (written_parent b k) []

-- of a key on the chain
abbrev pub key_reads : Looks → Key → List Cell
key_reads b k = cell.Item k ∷ cell.Patches k ∷ parent_reads b k

-- the extension of the item
abbrev pub ext_reads : List ℕ → List Cell
ext_reads [] = []
ext_reads (c ∷ ext) = cell.Ext (c ∷ ext) ∷ []

-- ---- of the layers

-- the cells tried for the profile that a mark names
abbrev pub mark_reads : Looks → List ℕ → Mark → List Cell
mark_reads b ext (Named name) = tried b (profile_cells ext name)
mark_reads b ext _ = []

abbrev pub entry_reads : Looks → List ℕ → RawAttr → List Cell
entry_reads b ext entry = if entry.removed then [] else mark_reads b ext entry.mark

-- a profile file stands for its key too
abbrev pub layer_reads : Looks → Layer → List Cell
layer_reads b layer =
    option_map_or (λ p. cell.Profile p.key ∷ []) layer.profile [] ++ flat_map (entry_reads b layer.from) layer.entries

abbrev pub include_reads : Looks → List ℕ → List ℕ → List Cell
include_reads b ext path = tried b (include_cells ext path) ++ flat_map (layer_reads b) (include_layer b ext path)

abbrev pub listed_reads : Looks → List ℕ → List ℕ → List Cell
listed_reads b ext name = tried b (profile_cells ext name) ++ flat_map (layer_reads b) (listed_layer b ext name)

-- of an item file or a patch
abbrev pub speaker_reads : Looks → Speaker → List Cell
speaker_reads b s =
    flat_map (include_reads b s.ext) s.file.includes
    ++ flat_map (listed_reads b s.ext) s.file.profiles
    ++ flat_map (entry_reads b s.ext) s.file.attributes

-- ---- of the attributes

-- whether the type is listed, and where it is no data type the objects tried
abbrev pub type_reads : Looks → List ℕ → TypeSaid → List Cell
type_reads b ext t =
    (if is_base_type t.name then [] else cell.Kind t.name ∷ [])
    ++ (if is_data_type b t.name then [] else tried b (object_cells ext t))

-- the mark is one that an entry names
abbrev pub profile_reads : Looks → Spoken → List Cell
profile_reads b s = if s.mark_is_key then [] else mark_reads b s.mark_from s.attr.mark

-- the dictionary's entries, and where there are some what the type leads to
abbrev pub dict_reads : Looks → List ℕ → Spoken → List Cell
dict_reads b ext s =
    let entries = b.dict s.attr.name in
    cell.Dict s.attr.name ∷ (if is_there entries
    then option_map_or (type_reads b ext) (type_of (dict_said entries) s) [] else [])

-- of an attribute that is present, in an item of that extension
abbrev pub attribute_reads : Looks → List ℕ → Spoken → List Cell
attribute_reads b ext s = dict_reads b ext s ++ profile_reads b s

-- ---- of the item

-- the cells tried for the category
abbrev pub category_reads : Looks → Key → List Cell
category_reads b k = option_map_or (λ w. tried b (category_cells w.ext w.name)) (written_category b k) []

-- in the order in which they are met
unfoldable pub cells_read : Looks → Key → List Cell
cells_read b k =
    ext_reads (ext_of k.name)
    ++ flat_map (key_reads b) (chain b k)
    ++ flat_map (speaker_reads b) (speakers b k)
    ++ category_reads b k
    ++ flat_map (attribute_reads b (ext_of k.name)) (table_of (layers b k))

-- the cells that the item reads, in order, each once
unfoldable pub reads : Looks → Key → List Cell
reads b k = in_order cell_cmp (cells_read b k)
