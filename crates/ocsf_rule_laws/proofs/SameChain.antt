-- Equal looks at the cells of the chain give equal chains, and the same files that speak along it.
use Rattle.std.proofs.Common.{◌≡◌, ℕ, zero, suc, List, [], ◌∷◌, ◌++◌, map, Some, None, refl, ◌∙◌, ap, reverse}
use Rattle.std.specs.Prelude.{flat_map}
use Rattle.std.specs.List.{AllByRecursion}
use Rattle.std.specs.Option.{option_map_or, option_and_then, option_to_list}
use Rattle.ocsf_tree.specs.declared.key.Key.{Key}
use Rattle.ocsf_bundle.specs.Looks.{Looks, look}
use Rattle.ocsf_bundle.specs.declared.cells.Cell.{Cell}
use Rattle.ocsf_bundle.specs.declared.cells.Cell.TheVariants as cell
use Rattle.ocsf_rules.specs.Names.{first_of, ext_of, item_cells, item_at, tried}
use Rattle.ocsf_rules.specs.Chain.{own_file, written_parent, parent_named, parent, from_there, keys_up, chain, speakers_of, speakers, own_speaker, patch_speaker}
use Rattle.ocsf_rules.specs.Reads.{key_reads, parent_reads}
use Rattle.ocsf_rule_laws.proofs.Agreement.{left, right, each, weaker, all_reverse, same_flat_map, same_items, same_patches, same_from_found, same_tried}
use Rattle.ocsf_rule_laws.specs.LookLaws.{AgreeAt}

module _ (b c : Looks) where
  Same : Cell → Type 0
  Same x = look b x ≡ look c x

  module _ (k : Key) (agree : AgreeAt b c (key_reads b k)) where
    pub same_own_file : own_file b k ≡ own_file c k
    same_own_file = ap first_of (same_items b c k agree.0)

    pub same_written_parent : written_parent b k ≡ written_parent c k
    same_written_parent = ap (option_and_then (λ file. file.parent)) same_own_file

    at_parent : AgreeAt b c (parent_reads b k)
    at_parent = agree.1.1

    named : (name : List ℕ) → AgreeAt b c (tried b (item_cells k.side (ext_of k.name) name)) → parent_named b k name ≡ parent_named c k name
    named name a = same_from_found b c item_at item_at (λ x e. refl) (item_cells k.side (ext_of k.name) name) a

    pub same_parent : parent b k ≡ parent c k
    same_parent =
        elim (written_parent b k) as (λ o. AgreeAt b c (option_map_or (λ name. tried b (item_cells k.side (ext_of k.name) name)) o []) → option_and_then (parent_named b k) o ≡ option_and_then (parent_named c k) o) [
          | None ↦ λ a. refl
          | Some name ↦ λ a. named name a
        ] at_parent
        ∙ ap (option_and_then (parent_named c k)) same_written_parent

    tried_for : Looks → List ℕ → List Cell
    tried_for d name = tried d (item_cells k.side (ext_of k.name) name)

    pub same_parent_reads : parent_reads b k ≡ parent_reads c k
    unfolding tried_for
    same_parent_reads =
        elim (written_parent b k) as (λ o. AgreeAt b c (option_map_or (tried_for b) o []) → option_map_or (tried_for b) o [] ≡ option_map_or (tried_for c) o []) [
          | None ↦ λ a. refl
          | Some name ↦ λ a. same_tried b c (item_cells k.side (ext_of k.name) name) a
        ] at_parent
        ∙ ap (λ o. option_map_or (tried_for c) o []) same_written_parent

    pub same_key_reads : key_reads b k ≡ key_reads c k
    same_key_reads = ap (λ cells. cell.Item k ∷ cell.Patches k ∷ cells) same_parent_reads

    pub same_speakers_of : speakers_of b k ≡ speakers_of c k
    same_speakers_of = λ i. map (own_speaker k) (option_to_list (same_own_file i)) ++ map (patch_speaker k) (same_patches b c k agree.1.0 i)

  pub same_keys_up : (n : ℕ) (k : Key) → AgreeAt b c (flat_map (key_reads b) (keys_up n b k)) → keys_up n b k ≡ keys_up n c k
  unfolding keys_up
  same_keys_up zero k agree = refl
  same_keys_up (suc n) k agree =
      let here = left (λ x. look b x ≡ look c x) (key_reads b k) (flat_map (key_reads b) (from_there (keys_up n b) (parent b k))) agree in
      let up = right (λ x. look b x ≡ look c x) (key_reads b k) (flat_map (key_reads b) (from_there (keys_up n b) (parent b k))) agree in
      ap (λ ks. k ∷ ks)
      (elim (parent b k) as (λ o. AgreeAt b c (flat_map (key_reads b) (from_there (keys_up n b) o)) → from_there (keys_up n b) o ≡ from_there (keys_up n c) o) [
        | None ↦ λ a. refl
        | Some p ↦ λ a. same_keys_up n p a
      ] up
      ∙ ap (from_there (keys_up n c)) (same_parent k here))

  module _ (k : Key) (agree : AgreeAt b c (flat_map (key_reads b) (chain b k))) where
    pub same_chain : chain b k ≡ chain c k
    same_chain = same_keys_up 33 k agree

    -- a fact of each key on the chain
    pub along : (P : Key → Type 0) → ((j : Key) → AgreeAt b c (key_reads b j) → P j) → AllByRecursion P (chain b k)
    along P fact = weaker (λ j. AgreeAt b c (key_reads b j)) P fact (chain b k) (each (λ x. look b x ≡ look c x) (key_reads b) (chain b k) agree)

    pub same_speakers : speakers b k ≡ speakers c k
    same_speakers =
        same_flat_map (speakers_of b) (speakers_of c) (reverse (chain b k)) (all_reverse (λ j. speakers_of b j ≡ speakers_of c j) (chain b k) (along (λ j. speakers_of b j ≡ speakers_of c j) same_speakers_of))
        ∙ ap (λ keys. flat_map (speakers_of c) (reverse keys)) same_chain

    pub same_chain_reads : flat_map (key_reads b) (chain b k) ≡ flat_map (key_reads c) (chain c k)
    same_chain_reads = same_flat_map (key_reads b) (key_reads c) (chain b k) (along (λ j. key_reads b j ≡ key_reads c j) same_key_reads) ∙ ap (flat_map (key_reads c)) same_chain
