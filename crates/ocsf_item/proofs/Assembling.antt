-- An item from its parts is the compiled item.
use Rattle.std.proofs.Common.{◌≡◌, ℕ, List, ◌∷◌, ◌++◌, map, Option, Some, None, refl, ◌∙◌, ap}
use Rattle.std.specs.Prelude.{slice_get, flat_map}
use Rattle.std.specs.Option.{option_map}
use Rattle.ocsf_tree.specs.declared.key.Key.{Key}
use Rattle.ocsf_lists.specs.FirstOfEach.{first_of_each}
use Rattle.ocsf_schema.specs.declared.records.Attr.{Attr}
use Rattle.ocsf_merge.specs.Table.{table_of}
use Rattle.ocsf_bundle.specs.Looks.{Looks}
use Rattle.ocsf_bundle.specs.CellOrder.{cell_cmp}
use Rattle.ocsf_bundle.specs.declared.cells.Cell.{Cell}
use Rattle.ocsf_bundle.specs.contracts.cells.CellOrd.TheImpl.{ghosts}
use Rattle.ocsf_bundle.proofs.CellOrders.{derived_order}
use Rattle.ocsf_rules.specs.declared.category.Category.{Category}
use Rattle.ocsf_item.specs.declared.own.Own.{Own}
use Rattle.ocsf_rules.specs.Names.{ext_of}
use Rattle.ocsf_rules.specs.Chain.{keys_up, from_there, chain, parent, speakers, layers}
use Rattle.ocsf_rules.specs.Attribute.{attr_of}
use Rattle.ocsf_rules.specs.Compiled.{caption, description, is_hidden, category, category_number, class_number, profile_keys, at_least_one, just_one, numbered, computed, item}
use Rattle.ocsf_item.specs.Assembled.{item_from}
use Rattle.ocsf_rules.specs.InOrder.{in_order}
use Rattle.ocsf_rules.specs.Reads.{ext_reads, key_reads, speaker_reads, category_reads, attribute_reads, cells_read, reads}

-- the second key of a chain is the parent
pub second_key : (b : Looks) (k : Key) → slice_get (chain b k) 1 ≡ parent b k
unfolding keys_up
second_key b k = elim (parent b k) as (λ o. slice_get (k ∷ from_there (keys_up 32 b) o) 1 ≡ o) [ None ↦ refl | Some p ↦ refl ]

module _ (b : Looks) (k : Key) (up : Option (List ℕ)) (own : Own) (cat : Option Category) (number : Option ℕ) (profiles some one : List (List ℕ)) (attrs : List Attr) where
  pub item_is : up ≡ option_map (λ (p : Key). p.name) (parent b k) → own.caption ≡ caption b k → own.description ≡ description b k → own.hidden ≡ is_hidden b k → cat ≡ category b k → number ≡ class_number b k
      → profiles ≡ profile_keys (layers b k) → some ≡ at_least_one b k → one ≡ just_one b k
      → attrs ≡ map (λ s. attr_of b (ext_of k.name) (computed (numbered b k) s.attr.name) s) (table_of (layers b k))
      → item_from k up own cat number profiles some one attrs ≡ item b k
  unfolding item
  item_is u c d h g n p s o a = λ i. record {
    key = k;
    caption = c i;
    description = d i;
    parent = u i;
    hidden = h i;
    category = option_map (λ c. c.key) (g i);
    category_uid = option_map category_number (g i);
    class_uid = n i;
    profiles = first_of_each (λ p. p) (p i);
    at_least_one = s i;
    just_one = o i;
    attrs = a i;
  }

-- all cells read, put in order
pub reads_are : (b : Looks) (k : Key) (climbed heard all made : List Cell) → climbed ≡ ext_reads (ext_of k.name) ++ flat_map (key_reads b) (chain b k) → heard ≡ climbed ++ flat_map (speaker_reads b) (speakers b k)
    → all ≡ heard ++ category_reads b k ++ flat_map (attribute_reads b (ext_of k.name)) (table_of (layers b k)) → made ≡ in_order (ghosts).cmp all → made ≡ reads b k
unfolding reads cells_read
reads_are b k climbed heard all made c h a m =
    m ∙ (λ i. in_order (λ x y. derived_order x y i) (a i))
    ∙ ap (λ cells. in_order cell_cmp (cells ++ category_reads b k ++ flat_map (attribute_reads b (ext_of k.name)) (table_of (layers b k)))) (h ∙ ap (λ cells. cells ++ flat_map (speaker_reads b) (speakers b k)) c)
