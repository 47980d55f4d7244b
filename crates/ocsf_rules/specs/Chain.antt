-- The chain of an item, the files that speak along it, and the layers that they give.
use Rattle.std.specs.Prelude.{ℕ, zero, suc, List, [], ◌∷◌, ◌++◌, map, reverse, flat_map, Option, Some, None}
use Rattle.std.specs.Option.{option_map, option_and_then, option_to_list}
use Rattle.ocsf_tree.specs.declared.key.Key.{Key}
use Rattle.ocsf_raw.specs.declared.attribute.RawAttr.{RawAttr}
use Rattle.ocsf_raw.specs.declared.files.ItemFile.{ItemFile}
use Rattle.ocsf_raw.specs.declared.files.ProfileFile.{ProfileFile}
use Rattle.ocsf_bundle.specs.Looks.{Looks, PatchOf, Included, AsProfile, AsInclude}
use Rattle.ocsf_bundle.specs.declared.cells.Cell.{Cell}
use Rattle.ocsf_bundle.specs.declared.cells.Cell.TheVariants as cell
use Rattle.ocsf_merge.specs.Layers.{Layer, Profile}
use Rattle.ocsf_rules.specs.Names.{first_of, ext_of, key_in, item_named, found, profile_cells, include_cells}

-- ---- the chain

-- the item's own file
abbrev pub own_file : Looks → Key → Option ItemFile
own_file b k = first_of (b.items k)

-- the parent as it is written
abbrev pub written_parent : Looks → Key → Option (List ℕ)
written_parent b k = option_and_then (λ file. file.parent) (own_file b k)

abbrev pub parent_named : Looks → Key → List ℕ → Option Key
parent_named b k name = item_named b k.side (ext_of k.name) name

-- the parent's key, where there is such an item
abbrev pub parent : Looks → Key → Option Key
parent b k = option_and_then (parent_named b k) (written_parent b k)

abbrev pub from_there : {X : Type 0} → (Key → List X) → Option Key → List X
from_there go None = []
from_there go (Some k) = go k

-- the key, its parent and so on, at most that many
unfoldable pub keys_up : ℕ → Looks → Key → List Key
keys_up zero b k = []
keys_up (suc n) b k = k ∷ from_there (keys_up n b) (parent b k)

-- a chain may have 32 keys; one more shows that it is longer
abbrev pub chain : Looks → Key → List Key
chain b k = keys_up 33 b k

-- ---- who speaks

-- an item file or a patch: the key on the chain that it speaks for, its extension, and the file
pub record Speaker : Type 0 where
  pub by : Key
  pub ext : List ℕ
  pub file : ItemFile

abbrev pub own_speaker : Key → ItemFile → Speaker
own_speaker k file = record { by = k; ext = ext_of k.name; file = file }

abbrev pub patch_speaker : Key → PatchOf → Speaker
patch_speaker k patch = record { by = k; ext = patch.ext.name; file = patch.file }

-- the item's file, then its patches, also where an extension of a lesser uid than the item's own patches it
abbrev pub speakers_of : Looks → Key → List Speaker
speakers_of b k = map (own_speaker k) (option_to_list (own_file b k)) ++ map (patch_speaker k) (b.patches k)

-- along the chain, the farthest ancestor first
abbrev pub speakers : Looks → Key → List Speaker
speakers b k = flat_map (speakers_of b) (reverse (chain b k))

-- ---- layers

abbrev pub plain_layer : List ℕ → List RawAttr → Layer
plain_layer ext entries = record { from = ext; profile = None; entries = entries }

abbrev pub profile_layer : List ℕ → List ℕ → ProfileFile → Layer
profile_layer ext profile_key file =
    let profile : Profile = record { key = profile_key; file = file } in
    record { from = ext; profile = Some profile; entries = file.attributes }

abbrev pub included_layer : List ℕ → Included → Layer
included_layer ext (AsProfile file) = profile_layer ext (key_in ext file.name) file
included_layer ext (AsInclude entries) = plain_layer ext entries

-- the layer that the cell of an included file or of a profile shows
abbrev pub layer_at : Looks → Cell → Option Layer
layer_at b (cell.Include ext path) = option_map (included_layer ext) (first_of (b.includes ext path))
layer_at b (cell.Profile p) = option_map (profile_layer (ext_of p) p) (first_of (b.profiles p))
layer_at b _ = None

-- the layer of the first of these cells that shows something
abbrev pub layer_found : Looks → List Cell → List Layer
layer_found b cells = option_to_list (option_and_then (layer_at b) (found b cells))

abbrev pub include_layer : Looks → List ℕ → List ℕ → List Layer
include_layer b ext path = layer_found b (include_cells ext path)

abbrev pub listed_layer : Looks → List ℕ → List ℕ → List Layer
listed_layer b ext name = layer_found b (profile_cells ext name)

-- what a file gives: its included files as written, its listed profiles as written, its own entries
abbrev pub layers_of : Looks → Speaker → List Layer
layers_of b s =
    flat_map (include_layer b s.ext) s.file.includes
    ++ flat_map (listed_layer b s.ext) s.file.profiles
    ++ plain_layer s.ext s.file.attributes ∷ []

-- the layers of an item, the farthest ancestor's first
abbrev pub layers : Looks → Key → List Layer
layers b k = flat_map (layers_of b) (speakers b k)
