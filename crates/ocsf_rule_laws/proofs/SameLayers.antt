-- Equal looks at the cells of the chain and of the layers give equal layers and marks.
use Rattle.std.proofs.Common.{◌≡◌, ℕ, List, [], ◌∷◌, ◌++◌, Bool, true, false, None, is_none, if◌then◌else◌, refl, ◌∙◌, ap}
use Rattle.std.specs.Prelude.{flat_map}
use Rattle.std.specs.List.{AllByRecursion}
use Rattle.std.specs.Option.{option_map, option_map_or, option_to_list}
use Rattle.ocsf_tree.specs.declared.key.Key.{Key}
use Rattle.ocsf_tree.specs.declared.fault.Code.TheVariants as code
use Rattle.ocsf_tree.specs.Key.{key_text}
use Rattle.ocsf_raw.specs.declared.attribute.RawAttr.{RawAttr}
use Rattle.ocsf_raw.specs.declared.attribute.Mark.{Mark}
use Rattle.ocsf_raw.specs.declared.attribute.Mark.TheVariants.{Unsaid, Cleared, Named}
use Rattle.ocsf_bundle.specs.Looks.{Looks, look}
use Rattle.ocsf_bundle.specs.declared.cells.Cell.{Cell}
use Rattle.ocsf_bundle.specs.declared.cells.Cell.TheVariants as cell
use Rattle.ocsf_merge.specs.Layers.{Layer}
use Rattle.ocsf_rules.specs.Names.{first_of, ext_of, found, tried, profile_at, profile_cells, include_cells}
use Rattle.ocsf_rules.specs.Chain.{chain, Speaker, speakers, included_layer, profile_layer, plain_layer, layer_at, layer_found, include_layer, listed_layer, layers_of, layers}
use Rattle.ocsf_rules.specs.Attribute.{mark_key}
use Rattle.ocsf_rules.specs.ItemFaults.{fault, mark_fault, entry_fault, layer_faults, unknown_profile, include_faults, listed_faults, speaker_faults, layers_faults}
use Rattle.ocsf_rules.specs.Reads.{key_reads, mark_reads, entry_reads, layer_reads, include_reads, listed_reads, speaker_reads}
use Rattle.ocsf_rule_laws.specs.LookLaws.{AgreeAt, entry_profile, AreMarksSame}
use Rattle.ocsf_rule_laws.proofs.Agreement.{left, right, both, each, weaker, same_flat_map, same_includes, same_profiles, same_found, same_tried, same_from_found}
use Rattle.ocsf_rule_laws.proofs.SameChain.{same_speakers}

all_flat_map : {X Y : Type 0} (P : Y → Type 0) (f : X → List Y) (xs : List X) → AllByRecursion (λ x. AllByRecursion P (f x)) xs → AllByRecursion P (flat_map f xs)
all_flat_map P f [] all = tt
all_flat_map P f (x ∷ xs) all = both P (f x) (flat_map f xs) all.0 (all_flat_map P f xs all.1)

module _ (b c : Looks) where
  -- ---- marks

  pub same_mark_key : (is_key : Bool) (ext : List ℕ) (mark : Mark) → AgreeAt b c (if is_key then [] else mark_reads b ext mark) → mark_key b ext is_key mark ≡ mark_key c ext is_key mark
  same_mark_key is_key ext Unsaid agree = refl
  same_mark_key is_key ext Cleared agree = refl
  same_mark_key true ext (Named p) agree = refl
  same_mark_key false ext (Named p) agree = same_from_found b c profile_at profile_at (λ x e. refl) (profile_cells ext p) agree

  pub same_mark_reads : (ext : List ℕ) (mark : Mark) → AgreeAt b c (mark_reads b ext mark) → mark_reads b ext mark ≡ mark_reads c ext mark
  same_mark_reads ext Unsaid agree = refl
  same_mark_reads ext Cleared agree = refl
  same_mark_reads ext (Named p) agree = same_tried b c (profile_cells ext p) agree

  same_unknown_profile : (by : Key) (ext name : List ℕ) → AgreeAt b c (tried b (profile_cells ext name)) → unknown_profile b by ext name ≡ unknown_profile c by ext name
  same_unknown_profile by ext name agree = ap (λ o. if is_none o then fault code.ProfileUnknown (key_text by) name ∷ [] else []) (same_found b c (profile_cells ext name) agree)

  same_mark_fault : (by : Key) (ext : List ℕ) (mark : Mark) → AgreeAt b c (mark_reads b ext mark) → mark_fault b by ext mark ≡ mark_fault c by ext mark
  same_mark_fault by ext Unsaid agree = refl
  same_mark_fault by ext Cleared agree = refl
  same_mark_fault by ext (Named p) agree = same_unknown_profile by ext p agree

  same_entry_profile : (ext : List ℕ) (entry : RawAttr) → AgreeAt b c (entry_reads b ext entry) → entry_profile b ext entry ≡ entry_profile c ext entry
  same_entry_profile ext entry agree =
      elim entry.removed as (λ r. AgreeAt b c (if r then [] else mark_reads b ext entry.mark) → (if r then None else mark_key b ext false entry.mark) ≡ (if r then None else mark_key c ext false entry.mark)) [
        | true ↦ λ a. refl
        | false ↦ λ a. same_mark_key false ext entry.mark a
      ] agree

  same_entry_reads : (ext : List ℕ) (entry : RawAttr) → AgreeAt b c (entry_reads b ext entry) → entry_reads b ext entry ≡ entry_reads c ext entry
  same_entry_reads ext entry agree =
      elim entry.removed as (λ r. AgreeAt b c (if r then [] else mark_reads b ext entry.mark) → (if r then [] else mark_reads b ext entry.mark) ≡ (if r then [] else mark_reads c ext entry.mark)) [
        | true ↦ λ a. refl
        | false ↦ λ a. same_mark_reads ext entry.mark a
      ] agree

  same_entry_fault : (by : Key) (ext : List ℕ) (entry : RawAttr) → AgreeAt b c (entry_reads b ext entry) → entry_fault b by ext entry ≡ entry_fault c by ext entry
  same_entry_fault by ext entry agree =
      elim entry.removed as (λ r. AgreeAt b c (if r then [] else mark_reads b ext entry.mark) → (if r then [] else mark_fault b by ext entry.mark) ≡ (if r then [] else mark_fault c by ext entry.mark)) [
        | true ↦ λ a. refl
        | false ↦ λ a. same_mark_fault by ext entry.mark a
      ] agree

  -- ---- entries

  module _ (ext : List ℕ) (entries : List RawAttr) (agree : AgreeAt b c (flat_map (entry_reads b ext) entries)) where
    of_each : AllByRecursion (λ entry. AgreeAt b c (entry_reads b ext entry)) entries
    of_each = each (λ x. look b x ≡ look c x) (entry_reads b ext) entries agree

    pub same_entries_profiles : AllByRecursion (λ entry. entry_profile b ext entry ≡ entry_profile c ext entry) entries
    same_entries_profiles = weaker (λ entry. AgreeAt b c (entry_reads b ext entry)) (λ entry. entry_profile b ext entry ≡ entry_profile c ext entry) (same_entry_profile ext) entries of_each

    pub same_entries_reads : flat_map (entry_reads b ext) entries ≡ flat_map (entry_reads c ext) entries
    same_entries_reads = same_flat_map (entry_reads b ext) (entry_reads c ext) entries (weaker (λ entry. AgreeAt b c (entry_reads b ext entry)) (λ entry. entry_reads b ext entry ≡ entry_reads c ext entry) (same_entry_reads ext) entries of_each)

    pub same_entries_faults : (by : Key) → flat_map (entry_fault b by ext) entries ≡ flat_map (entry_fault c by ext) entries
    same_entries_faults by = same_flat_map (entry_fault b by ext) (entry_fault c by ext) entries (weaker (λ entry. AgreeAt b c (entry_reads b ext entry)) (λ entry. entry_fault b by ext entry ≡ entry_fault c by ext entry) (same_entry_fault by ext) entries of_each)

  -- ---- layers

  own_key : Layer → List Cell
  own_key layer = option_map_or (λ p. cell.Profile p.key ∷ []) layer.profile []

  entries_agree : (layer : Layer) → AgreeAt b c (layer_reads b layer) → AgreeAt b c (flat_map (entry_reads b layer.from) layer.entries)
  entries_agree layer agree = right (λ x. look b x ≡ look c x) (option_map_or (λ p. cell.Profile p.key ∷ []) layer.profile []) (flat_map (entry_reads b layer.from) layer.entries) agree

  same_layer_reads : (layer : Layer) → AgreeAt b c (layer_reads b layer) → layer_reads b layer ≡ layer_reads c layer
  same_layer_reads layer agree = ap (λ cells. option_map_or (λ p. cell.Profile p.key ∷ []) layer.profile [] ++ cells) (same_entries_reads layer.from layer.entries (entries_agree layer agree))

  same_layer_faults : (by : Key) (layer : Layer) → AgreeAt b c (layer_reads b layer) → layer_faults b by layer ≡ layer_faults c by layer
  same_layer_faults by layer agree = same_entries_faults layer.from layer.entries (entries_agree layer agree) by

  same_layer_profiles : (layer : Layer) → AgreeAt b c (layer_reads b layer) → AreMarksSame b c layer
  same_layer_profiles layer agree = same_entries_profiles layer.from layer.entries (entries_agree layer agree)

  same_layer_at : (x : Cell) → look b x ≡ look c x → layer_at b x ≡ layer_at c x
  same_layer_at (cell.Include ext path) e = ap (λ files. option_map (included_layer ext) (first_of files)) (same_includes b c ext path e)
  same_layer_at (cell.Profile p) e = ap (λ files. option_map (profile_layer (ext_of p) p) (first_of files)) (same_profiles b c p e)
  same_layer_at x e = refl

  -- ---- an included file or a listed profile, by the cells tried for it

  module _ (cells : List Cell) (agree : AgreeAt b c (tried b cells ++ flat_map (layer_reads b) (layer_found b cells))) where
    at_tried : AgreeAt b c (tried b cells)
    at_tried = left (λ x. look b x ≡ look c x) (tried b cells) (flat_map (layer_reads b) (layer_found b cells)) agree

    of_layers : AllByRecursion (λ layer. AgreeAt b c (layer_reads b layer)) (layer_found b cells)
    of_layers = each (λ x. look b x ≡ look c x) (layer_reads b) (layer_found b cells) (right (λ x. look b x ≡ look c x) (tried b cells) (flat_map (layer_reads b) (layer_found b cells)) agree)

    pub same_layer_found : layer_found b cells ≡ layer_found c cells
    same_layer_found = ap option_to_list (same_from_found b c (layer_at b) (layer_at c) same_layer_at cells at_tried)

    pub same_found_reads : tried b cells ++ flat_map (layer_reads b) (layer_found b cells) ≡ tried c cells ++ flat_map (layer_reads c) (layer_found c cells)
    same_found_reads =
        let layered = same_flat_map (layer_reads b) (layer_reads c) (layer_found b cells) (weaker (λ layer. AgreeAt b c (layer_reads b layer)) (λ layer. layer_reads b layer ≡ layer_reads c layer) same_layer_reads (layer_found b cells) of_layers)
        ∙ ap (flat_map (layer_reads c)) same_layer_found in
        λ i. same_tried b c cells at_tried i ++ layered i

    pub same_found_faults : (by : Key) → flat_map (layer_faults b by) (layer_found b cells) ≡ flat_map (layer_faults c by) (layer_found c cells)
    same_found_faults by =
        same_flat_map (layer_faults b by) (layer_faults c by) (layer_found b cells) (weaker (λ layer. AgreeAt b c (layer_reads b layer)) (λ layer. layer_faults b by layer ≡ layer_faults c by layer) (same_layer_faults by) (layer_found b cells) of_layers)
        ∙ ap (flat_map (layer_faults c by)) same_layer_found

    pub same_found_profiles : AllByRecursion (AreMarksSame b c) (layer_found b cells)
    same_found_profiles = weaker (λ layer. AgreeAt b c (layer_reads b layer)) (AreMarksSame b c) same_layer_profiles (layer_found b cells) of_layers

    pub same_found_cell : found b cells ≡ found c cells
    same_found_cell = same_found b c cells at_tried

  same_include_faults : (by : Key) (ext path : List ℕ) → AgreeAt b c (include_reads b ext path) → include_faults b by ext path ≡ include_faults c by ext path
  same_include_faults by ext path agree =
      λ i. (if is_none (same_found_cell (include_cells ext path) agree i) then fault code.IncludeUnknown (key_text by) path ∷ [] else []) ++ same_found_faults (include_cells ext path) agree by i

  same_listed_faults : (by : Key) (ext name : List ℕ) → AgreeAt b c (listed_reads b ext name) → listed_faults b by ext name ≡ listed_faults c by ext name
  same_listed_faults by ext name agree =
      λ i. (if is_none (same_found_cell (profile_cells ext name) agree i) then fault code.ProfileUnknown (key_text by) name ∷ [] else []) ++ same_found_faults (profile_cells ext name) agree by i

  -- ---- a file

  module _ (s : Speaker) (agree : AgreeAt b c (speaker_reads b s)) where
    front : AgreeAt b c (flat_map (include_reads b s.ext) s.file.includes ++ flat_map (listed_reads b s.ext) s.file.profiles)
    front = left (λ x. look b x ≡ look c x) (flat_map (include_reads b s.ext) s.file.includes ++ flat_map (listed_reads b s.ext) s.file.profiles) (flat_map (entry_reads b s.ext) s.file.attributes) agree

    at_includes : AllByRecursion (λ path. AgreeAt b c (include_reads b s.ext path)) s.file.includes
    at_includes = each (λ x. look b x ≡ look c x) (include_reads b s.ext) s.file.includes (left (λ x. look b x ≡ look c x) (flat_map (include_reads b s.ext) s.file.includes) (flat_map (listed_reads b s.ext) s.file.profiles) front)

    at_listed : AllByRecursion (λ name. AgreeAt b c (listed_reads b s.ext name)) s.file.profiles
    at_listed = each (λ x. look b x ≡ look c x) (listed_reads b s.ext) s.file.profiles (right (λ x. look b x ≡ look c x) (flat_map (include_reads b s.ext) s.file.includes) (flat_map (listed_reads b s.ext) s.file.profiles) front)

    at_own : AgreeAt b c (flat_map (entry_reads b s.ext) s.file.attributes)
    at_own = right (λ x. look b x ≡ look c x) (flat_map (include_reads b s.ext) s.file.includes ++ flat_map (listed_reads b s.ext) s.file.profiles) (flat_map (entry_reads b s.ext) s.file.attributes) agree

    pub same_layers_of : layers_of b s ≡ layers_of c s
    same_layers_of =
        let one = same_flat_map (include_layer b s.ext) (include_layer c s.ext) s.file.includes (weaker (λ path. AgreeAt b c (include_reads b s.ext path)) (λ path. include_layer b s.ext path ≡ include_layer c s.ext path) (λ path a. same_layer_found (include_cells s.ext path) a) s.file.includes at_includes) in
        let two = same_flat_map (listed_layer b s.ext) (listed_layer c s.ext) s.file.profiles (weaker (λ name. AgreeAt b c (listed_reads b s.ext name)) (λ name. listed_layer b s.ext name ≡ listed_layer c s.ext name) (λ name a. same_layer_found (profile_cells s.ext name) a) s.file.profiles at_listed) in
        λ i. one i ++ two i ++ plain_layer s.ext s.file.attributes ∷ []

    pub same_speaker_reads : speaker_reads b s ≡ speaker_reads c s
    same_speaker_reads =
        let one = same_flat_map (include_reads b s.ext) (include_reads c s.ext) s.file.includes (weaker (λ path. AgreeAt b c (include_reads b s.ext path)) (λ path. include_reads b s.ext path ≡ include_reads c s.ext path) (λ path a. same_found_reads (include_cells s.ext path) a) s.file.includes at_includes) in
        let two = same_flat_map (listed_reads b s.ext) (listed_reads c s.ext) s.file.profiles (weaker (λ name. AgreeAt b c (listed_reads b s.ext name)) (λ name. listed_reads b s.ext name ≡ listed_reads c s.ext name) (λ name a. same_found_reads (profile_cells s.ext name) a) s.file.profiles at_listed) in
        λ i. one i ++ two i ++ same_entries_reads s.ext s.file.attributes at_own i

    pub same_speaker_faults : speaker_faults b s ≡ speaker_faults c s
    same_speaker_faults =
        let one = same_flat_map (include_faults b s.by s.ext) (include_faults c s.by s.ext) s.file.includes (weaker (λ path. AgreeAt b c (include_reads b s.ext path)) (λ path. include_faults b s.by s.ext path ≡ include_faults c s.by s.ext path) (same_include_faults s.by s.ext) s.file.includes at_includes) in
        let two = same_flat_map (listed_faults b s.by s.ext) (listed_faults c s.by s.ext) s.file.profiles (weaker (λ name. AgreeAt b c (listed_reads b s.ext name)) (λ name. listed_faults b s.by s.ext name ≡ listed_faults c s.by s.ext name) (same_listed_faults s.by s.ext) s.file.profiles at_listed) in
        λ i. one i ++ two i ++ same_entries_faults s.ext s.file.attributes at_own s.by i

    pub same_marks_of : AllByRecursion (AreMarksSame b c) (layers_of b s)
    same_marks_of =
        let one = all_flat_map (AreMarksSame b c) (include_layer b s.ext) s.file.includes (weaker (λ path. AgreeAt b c (include_reads b s.ext path)) (λ path. AllByRecursion (AreMarksSame b c) (include_layer b s.ext path)) (λ path a. same_found_profiles (include_cells s.ext path) a) s.file.includes at_includes) in
        let two = all_flat_map (AreMarksSame b c) (listed_layer b s.ext) s.file.profiles (weaker (λ name. AgreeAt b c (listed_reads b s.ext name)) (λ name. AllByRecursion (AreMarksSame b c) (listed_layer b s.ext name)) (λ name a. same_found_profiles (profile_cells s.ext name) a) s.file.profiles at_listed) in
        both (AreMarksSame b c) (flat_map (include_layer b s.ext) s.file.includes ++ flat_map (listed_layer b s.ext) s.file.profiles) (plain_layer s.ext s.file.attributes ∷ [])
        (both (AreMarksSame b c) (flat_map (include_layer b s.ext) s.file.includes) (flat_map (listed_layer b s.ext) s.file.profiles) one two) (same_entries_profiles s.ext s.file.attributes at_own, tt)

  -- ---- along the chain

  module _ (k : Key) (keys : AgreeAt b c (flat_map (key_reads b) (chain b k))) (agree : AgreeAt b c (flat_map (speaker_reads b) (speakers b k))) where
    pub heard : (P : Speaker → Type 0) → ((s : Speaker) → AgreeAt b c (speaker_reads b s) → P s) → AllByRecursion P (speakers b k)
    heard P fact = weaker (λ s. AgreeAt b c (speaker_reads b s)) P fact (speakers b k) (each (λ x. look b x ≡ look c x) (speaker_reads b) (speakers b k) agree)

    pub same_layers : layers b k ≡ layers c k
    same_layers = same_flat_map (layers_of b) (layers_of c) (speakers b k) (heard (λ s. layers_of b s ≡ layers_of c s) same_layers_of) ∙ ap (flat_map (layers_of c)) (same_speakers b c k keys)

    pub same_layers_reads : flat_map (speaker_reads b) (speakers b k) ≡ flat_map (speaker_reads c) (speakers c k)
    same_layers_reads = same_flat_map (speaker_reads b) (speaker_reads c) (speakers b k) (heard (λ s. speaker_reads b s ≡ speaker_reads c s) same_speaker_reads) ∙ ap (flat_map (speaker_reads c)) (same_speakers b c k keys)

    pub same_layers_faults : layers_faults b k ≡ layers_faults c k
    same_layers_faults = same_flat_map (speaker_faults b) (speaker_faults c) (speakers b k) (heard (λ s. speaker_faults b s ≡ speaker_faults c s) same_speaker_faults) ∙ ap (flat_map (speaker_faults c)) (same_speakers b c k keys)

    pub same_marks : AllByRecursion (AreMarksSame b c) (layers b k)
    same_marks = all_flat_map (AreMarksSame b c) (layers_of b) (speakers b k) (heard (λ s. AllByRecursion (AreMarksSame b c) (layers_of b s)) same_marks_of)
