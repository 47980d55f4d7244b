-- What the cells that an item reads are good for: where two bundles show the same there, they have the same
-- item. The statements of the laws in src/laws.rt, each of all bundles and all keys.
use Rattle.std.specs.Prelude.{◌≡◌, ℕ, false, List, flat_map, Option, None, if◌then◌else◌}
use Rattle.std.specs.List.{AllByRecursion}
use Rattle.ocsf_tree.specs.declared.key.Key.{Key}
use Rattle.ocsf_raw.specs.declared.attribute.RawAttr.{RawAttr}
use Rattle.ocsf_bundle.specs.Looks.{Looks, look}
use Rattle.ocsf_bundle.specs.declared.cells.Cell.{Cell}
use Rattle.ocsf_merge.specs.declared.spoken.Spoken.{Spoken}
use Rattle.ocsf_merge.specs.Layers.{Layer}
use Rattle.ocsf_rules.specs.Chain.{chain, speakers, layers}
use Rattle.ocsf_rules.specs.Attribute.{mark_key, target_of}
use Rattle.ocsf_rules.specs.Compiled.{category, item}
use Rattle.ocsf_rules.specs.ItemFaults.{item_fault}
use Rattle.ocsf_rules.specs.Reads.{key_reads, speaker_reads, attribute_reads, category_reads, reads}

-- the two show the same at each of these cells
abbrev pub AgreeAt : Looks → Looks → List Cell → Type 0
AgreeAt b c cells = AllByRecursion (λ x. look b x ≡ look c x) cells

-- at the cells that are read for the chain
abbrev pub AgreeOnChain : Looks → Looks → Key → Type 0
AgreeOnChain b c k = AgreeAt b c (flat_map (key_reads b) (chain b k))

-- at the cells that are read for the layers
abbrev pub AgreeOnLayers : Looks → Looks → Key → Type 0
AgreeOnLayers b c k = AgreeAt b c (flat_map (speaker_reads b) (speakers b k))

-- the profile that the mark of an entry names
abbrev pub entry_profile : Looks → List ℕ → RawAttr → Option (List ℕ)
entry_profile b ext entry = if entry.removed then None else mark_key b ext false entry.mark

-- the entries of the layer name the same profiles
abbrev pub AreMarksSame : Looks → Looks → Layer → Type 0
AreMarksSame b c layer =
    AllByRecursion (λ entry. entry_profile b layer.from entry ≡ entry_profile c layer.from entry) layer.entries

abbrev pub HaveSameChain : Type 0
HaveSameChain = (b c : Looks) (k : Key) → AgreeOnChain b c k → chain b k ≡ chain c k

abbrev pub HaveSameLayers : Type 0
HaveSameLayers = (b c : Looks) (k : Key) → AgreeOnChain b c k → AgreeOnLayers b c k
    → (layers b k ≡ layers c k) × AllByRecursion (AreMarksSame b c) (layers b k)

-- an attribute of that row, in an item of that extension
abbrev pub HaveSameAttribute : Type 0
HaveSameAttribute = (b c : Looks) (ext : List ℕ) (s : Spoken) → AgreeAt b c (attribute_reads b ext s)
    → (b.dict s.attr.name ≡ c.dict s.attr.name) × (target_of b ext s ≡ target_of c ext s)

abbrev pub HaveSameCategory : Type 0
HaveSameCategory = (b c : Looks) (k : Key) → AgreeOnChain b c k → AgreeAt b c (category_reads b k)
    → category b k ≡ category c k

-- the items, the cells read, and the least fault are those of the one bundle and of the other
abbrev pub HaveSameItem : Type 0
HaveSameItem = (b c : Looks) (k : Key) → AgreeAt b c (reads b k)
    → (item b k ≡ item c k) × (reads b k ≡ reads c k) × (item_fault b k ≡ item_fault c k)
