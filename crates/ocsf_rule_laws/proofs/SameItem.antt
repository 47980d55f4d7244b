-- Equal looks at the cells that an item reads give equal items, equal cells and the same least fault.
use Rattle.std.proofs.Common.{◌≡◌, ℕ, List, [], ◌∷◌, ◌++◌, map, ◌==◌, true, false, cond, not, Some, None, unwrap_or, is_some, is_none, if◌then◌else◌, refl, ◌∙◌, ap, subst, length}
use Rattle.std.specs.Prelude.{flat_map, codes}
use Rattle.std.specs.List.{AllByRecursion, list_any, take_while, prefix_len}
use Rattle.std.specs.Option.{option_map, option_map_or, option_and_then, option_or}
use Rattle.std.specs.Ordering.{is_eq, is_lt}
use Rattle.ocsf_tree.specs.declared.key.Key.{Key}
use Rattle.ocsf_tree.specs.declared.fault.Fault.{Fault}
use Rattle.ocsf_tree.specs.declared.fault.Code.TheVariants as code
use Rattle.ocsf_lists.specs.ByName.{at_name, text_cmp}
use Rattle.ocsf_tree.specs.Key.{key_text}
use Rattle.ocsf_tree.specs.LeastFault.{least_fault}
use Rattle.ocsf_lists.specs.FirstOfEach.{first_of_each}
use Rattle.ocsf_bundle.specs.Looks.{Looks, look, is_there}
use Rattle.ocsf_bundle.specs.declared.cells.Cell.{Cell}
use Rattle.ocsf_bundle.specs.declared.cells.Cell.TheVariants as cell
use Rattle.ocsf_bundle.specs.CellOrder.{cell_cmp}
use Rattle.ocsf_kind.specs.Numbers.{class_uid}
use Rattle.ocsf_merge.specs.declared.spoken.Spoken.{Spoken}
use Rattle.ocsf_merge.specs.Table.{table_of}
use Rattle.ocsf_rules.specs.declared.category.Written.{Written}
use Rattle.ocsf_rules.specs.Names.{first_of, ext_of, tried, category_cells}
use Rattle.ocsf_rules.specs.Chain.{own_file, written_parent, parent, keys_up, chain, speakers_of, speakers, layers}
use Rattle.ocsf_rules.specs.Attribute.{attr_of}
use Rattle.ocsf_rules.specs.Compiled.{is_class, uid, is_hidden, starts_low, caption, description, at_least_one, just_one, written_in, written_category, category_of, category_at, category_named, category, category_number, ext_uid, class_number, row_of, enumeration, activities, numbered, computed, profile_keys, item}
use Rattle.ocsf_rules.specs.ItemFaults.{fault, same_key, cycle_in, lesser_key, least_key, cycle_fault, parent_fault, limit_fault, faults_along, chain_faults, attribute_fault, category_fault, constraint_fault, activity_fault, size_fault, own_faults, item_fault}
use Rattle.ocsf_lists.specs.Given.{last_given}
use Rattle.ocsf_rules.specs.InOrder.{in_order}
use Rattle.ocsf_rules.specs.Reads.{ext_reads, key_reads, speaker_reads, attribute_reads, category_reads, cells_read, reads}
use Rattle.ocsf_rule_laws.proofs.Agreement.{left, right, each, weaker, all_take, same_flat_map, same_map, same_categories, same_exts, same_from_found, same_tried}
use Rattle.ocsf_rule_laws.proofs.SameChain.{same_own_file, same_written_parent, same_parent, same_speakers_of, along, same_chain, same_chain_reads, same_speakers}
use Rattle.ocsf_rule_laws.proofs.SameLayers.{same_layers, same_layers_reads, same_layers_faults}
use Rattle.ocsf_rule_laws.proofs.SameAttributes.{same_dict_entries, same_target, same_attribute_reads, same_attr, same_enumeration, same_attribute_fault}
use Rattle.ocsf_rule_laws.proofs.CellsInOrder.{all_in_order, same_cell}
use Rattle.ocsf_rule_laws.specs.LookLaws.{AgreeAt}

-- what holds of each item of a list holds of what is found in it
all_at_name : {X : Type 0} (P : X → Type 0) (name : X → List ℕ) (q : List ℕ) (xs : List X) → AllByRecursion P xs → (x : X) → at_name name q xs ≡ Some x → P x
all_at_name P name q [] all x e = cc
all_at_name P name q (y ∷ ys) all x e =
    elim (is_eq (text_cmp q (name y))) as (λ t. cond t (Some y) (at_name name q ys) ≡ Some x → P x) [
      | true ↦ λ f. subst P (ap (λ o. unwrap_or o y) f) all.0
      | false ↦ λ f. all_at_name P name q ys all.1 x f
    ] e

all_cycle : (P : Key → Type 0) (keys : List Key) → AllByRecursion P keys → AllByRecursion P (cycle_in keys)
all_cycle P [] all = tt
all_cycle P (k ∷ ks) all =
    elim (list_any (same_key k) ks) as (λ t. AllByRecursion P (if t then k ∷ take_while (λ j. not (same_key k j)) ks else cycle_in ks)) [
      | true ↦ (all.0, all_take P (prefix_len (λ j. not (same_key k j)) ks) ks all.1)
      | false ↦ all_cycle P ks all.1
    ]

at_least : (P : Key → Type 0) (k : Key) (ks : List Key) → P k → AllByRecursion P ks → P (least_key k ks)
at_least P k [] here all = here
at_least P k (j ∷ js) here all =
    at_least P (lesser_key j k) js (elim (is_lt (text_cmp (key_text j) (key_text k))) as (λ t. P (if t then j else k)) [ true ↦ all.0 | false ↦ here ]) all.1

module _ (b c : Looks) where
  -- ---- of the chain

  same_parents : (k : Key) → Type 0
  same_parents k = (written_parent b k ≡ written_parent c k) × (parent b k ≡ parent c k)

  same_parent_fault : (k : Key) → (written_parent b k ≡ written_parent c k) × (parent b k ≡ parent c k) → parent_fault b k ≡ parent_fault c k
  same_parent_fault k same = λ i. if is_none (same.1 i) then option_map_or (λ name. fault code.ParentUnknown (key_text k) name ∷ []) (same.0 i) [] else []

  same_cycle_fault : (keys : List Key) → AllByRecursion (λ k. written_parent b k ≡ written_parent c k) keys → cycle_fault b keys ≡ cycle_fault c keys
  same_cycle_fault [] all = refl
  same_cycle_fault (k ∷ ks) all =
      ap (λ o. fault code.ExtendsCycle (key_text (least_key k ks)) (unwrap_or o []) ∷ []) (at_least (λ j. written_parent b j ≡ written_parent c j) k ks all.0 all.1)

  same_faults_along : (k : Key) (keys : List Key) → AllByRecursion (λ j. (written_parent b j ≡ written_parent c j) × (parent b j ≡ parent c j)) keys → faults_along b k keys ≡ faults_along c k keys
  same_faults_along k keys all =
      let written = weaker (λ j. (written_parent b j ≡ written_parent c j) × (parent b j ≡ parent c j)) (λ j. written_parent b j ≡ written_parent c j) (λ j same. same.0) keys all in
      let cycle = same_cycle_fault (cycle_in keys) (all_cycle (λ j. written_parent b j ≡ written_parent c j) keys written) in
      let unknown = same_flat_map (parent_fault b) (parent_fault c) keys (weaker (λ j. (written_parent b j ≡ written_parent c j) × (parent b j ≡ parent c j)) (λ j. parent_fault b j ≡ parent_fault c j) same_parent_fault keys all) in
      λ i. if length keys == 33 then (if is_there (cycle_in keys) then cycle i else limit_fault k) else unknown i

  module _ (k : Key) (keys : AgreeAt b c (flat_map (key_reads b) (chain b k))) where
    pub same_chain_faults : chain_faults b k ≡ chain_faults c k
    same_chain_faults =
        same_faults_along k (chain b k) (along b c k keys (λ j. (written_parent b j ≡ written_parent c j) × (parent b j ≡ parent c j)) (λ j a. (same_written_parent b c j a, same_parent b c j a)))
        ∙ ap (faults_along c k) (same_chain b c k keys)

    -- the chain begins with the item itself
    here : AgreeAt b c (key_reads b k)
    unfolding keys_up
    here = (along b c k keys (λ j. AgreeAt b c (key_reads b j)) (λ j a. a)).0

    own : own_file b k ≡ own_file c k
    own = same_own_file b c k here

    own_speakers : speakers_of b k ≡ speakers_of c k
    own_speakers = same_speakers_of b c k here

    all_speakers : speakers b k ≡ speakers c k
    all_speakers = same_speakers b c k keys

    same_caption : caption b k ≡ caption c k
    same_caption = ap (last_given (λ s. s.file.caption)) own_speakers

    same_description : description b k ≡ description c k
    same_description = ap (last_given (λ s. s.file.description)) own_speakers

    same_at_least_one : at_least_one b k ≡ at_least_one c k
    same_at_least_one = ap (λ ss. unwrap_or (last_given (λ s. s.file.at_least_one) ss) []) all_speakers

    same_just_one : just_one b k ≡ just_one c k
    same_just_one = ap (λ ss. unwrap_or (last_given (λ s. s.file.just_one) ss) []) all_speakers

    same_uid : uid b k ≡ uid c k
    same_uid = ap (λ o. if is_class k then option_and_then (λ file. file.uid) o else None) own

    same_hidden : is_hidden b k ≡ is_hidden c k
    same_hidden = λ i. if is_class k then is_none (same_uid i) else option_map_or starts_low (option_and_then (λ file. file.name) (own i)) false

    same_written_category : written_category b k ≡ written_category c k
    same_written_category = ap (λ ss. if is_class k then last_given written_in ss else None) all_speakers

    -- ---- the category

    same_category_at : (x : Cell) → look b x ≡ look c x → category_at b x ≡ category_at c x
    same_category_at (cell.Category key) e = ap (λ cs. option_map (category_of key) (first_of cs)) (same_categories b c key e)
    same_category_at x e = refl

    tried_for : Looks → Written → List Cell
    tried_for d w = tried d (category_cells w.ext w.name)

    module _ (agree : AgreeAt b c (category_reads b k)) where
      pub same_category : category b k ≡ category c k
      same_category =
          elim (written_category b k) as (λ o. AgreeAt b c (option_map_or (λ w. tried b (category_cells w.ext w.name)) o []) → option_and_then (category_named b) o ≡ option_and_then (category_named c) o) [
            | None ↦ λ a. refl
            | Some w ↦ λ a. same_from_found b c (category_at b) (category_at c) same_category_at (category_cells w.ext w.name) a
          ] agree
          ∙ ap (option_and_then (category_named c)) same_written_category

      same_category_reads : category_reads b k ≡ category_reads c k
      unfolding tried_for
      same_category_reads =
          elim (written_category b k) as (λ o. AgreeAt b c (option_map_or (tried_for b) o []) → option_map_or (tried_for b) o [] ≡ option_map_or (tried_for c) o []) [
            | None ↦ λ a. refl
            | Some w ↦ λ a. same_tried b c (category_cells w.ext w.name) a
          ] agree
          ∙ ap (λ o. option_map_or (tried_for c) o []) same_written_category

      same_category_fault : category_fault b k ≡ category_fault c k
      same_category_fault =
          λ i. if is_none (same_category i)
          then option_map_or (λ w. fault code.CategoryUnknown (key_text k) w.name ∷ []) (same_written_category i)
          (if is_some (same_uid i) then fault code.CategoryUnknown (key_text k) [] ∷ [] else [])
          else []

  same_ext_uid : (ext : List ℕ) → AgreeAt b c (ext_reads ext) → ext_uid b ext ≡ ext_uid c ext
  same_ext_uid [] agree = refl
  same_ext_uid (x ∷ ext) agree = ap (λ files. option_map_or (λ file. file.uid) (first_of files) 0) (same_exts b c (x ∷ ext) agree.0)

  -- ---- the whole

  module _ (k : Key)
      (at_ext : AgreeAt b c (ext_reads (ext_of k.name)))
      (keys : AgreeAt b c (flat_map (key_reads b) (chain b k)))
      (heard : AgreeAt b c (flat_map (speaker_reads b) (speakers b k)))
      (joined : AgreeAt b c (flat_map (attribute_reads b (ext_of k.name)) (table_of (layers b k))))
      (categorized : AgreeAt b c (category_reads b k)) where
    all_layers : layers b k ≡ layers c k
    all_layers = same_layers b c k keys heard

    rows : table_of (layers b k) ≡ table_of (layers c k)
    rows = ap (λ ls. table_of ls) all_layers

    at_rows : (P : Spoken → Type 0) → ((s : Spoken) → AgreeAt b c (attribute_reads b (ext_of k.name) s) → P s) → AllByRecursion P (table_of (layers b k))
    at_rows P fact = weaker (λ s. AgreeAt b c (attribute_reads b (ext_of k.name) s)) P fact (table_of (layers b k)) (each (λ x. look b x ≡ look c x) (attribute_reads b (ext_of k.name)) (table_of (layers b k)) joined)

    the_category : category b k ≡ category c k
    the_category = same_category k keys categorized

    same_class_number : class_number b k ≡ class_number c k
    same_class_number = λ i. option_and_then (λ u. option_map (λ d. class_uid (same_ext_uid (ext_of k.name) at_ext i) d.uid u) (the_category i)) (same_uid k keys i)

    same_row_of : (name : List ℕ) → row_of b k name ≡ row_of c k name
    same_row_of name = ap (at_name (λ s. s.attr.name) name) rows

    same_activities : activities b k ≡ activities c k
    same_activities =
        elim (row_of b k (codes "activity_id")) as (λ o. row_of b k (codes "activity_id") ≡ o → option_map_or (enumeration b) o [] ≡ option_map_or (enumeration c) o []) [
          | None ↦ λ e. refl
          | Some s ↦ λ e. all_at_name (λ s. enumeration b s ≡ enumeration c s) (λ s. s.attr.name) (codes "activity_id") (table_of (layers b k)) (at_rows (λ s. enumeration b s ≡ enumeration c s) (same_enumeration b c (ext_of k.name))) s e
        ] refl
        ∙ ap (λ o. option_map_or (enumeration c) o []) (same_row_of (codes "activity_id"))

    same_numbered : numbered b k ≡ numbered c k
    same_numbered =
        λ i. option_and_then (λ number. option_map (λ d. record { number = number; caption = unwrap_or (same_caption k keys i) k.name; category = d; activities = same_activities i }) (the_category i)) (same_class_number i)

    pub same_item : item b k ≡ item c k
    unfolding item
    same_item =
        let attrs = same_map (λ s. attr_of b (ext_of k.name) (computed (numbered b k) s.attr.name) s) (λ s. attr_of c (ext_of k.name) (computed (numbered c k) s.attr.name) s) (table_of (layers b k))
        (at_rows (λ s. attr_of b (ext_of k.name) (computed (numbered b k) s.attr.name) s ≡ attr_of c (ext_of k.name) (computed (numbered c k) s.attr.name) s)
        (λ s a. same_attr b c (ext_of k.name) s a (computed (numbered b k) s.attr.name) (computed (numbered c k) s.attr.name) (ap (λ n. computed n s.attr.name) same_numbered)))
        ∙ ap (map (λ s. attr_of c (ext_of k.name) (computed (numbered c k) s.attr.name) s)) rows in
        λ i. record {
          key = k;
          caption = same_caption k keys i;
          description = same_description k keys i;
          parent = option_map (λ p. p.name) (same_parent b c k (here k keys) i);
          hidden = same_hidden k keys i;
          category = option_map (λ d. d.key) (the_category i);
          category_uid = option_map (λ d. category_number d) (the_category i);
          class_uid = same_class_number i;
          profiles = first_of_each (λ p. p) (profile_keys (all_layers i));
          at_least_one = same_at_least_one k keys i;
          just_one = same_just_one k keys i;
          attrs = attrs i;
        }

    pub same_cells : cells_read b k ≡ cells_read c k
    unfolding cells_read
    same_cells =
        let attributes = same_flat_map (attribute_reads b (ext_of k.name)) (attribute_reads c (ext_of k.name)) (table_of (layers b k)) (at_rows (λ s. attribute_reads b (ext_of k.name) s ≡ attribute_reads c (ext_of k.name) s) (same_attribute_reads b c (ext_of k.name)))
        ∙ ap (flat_map (attribute_reads c (ext_of k.name))) rows in
        λ i. ext_reads (ext_of k.name) ++ same_chain_reads b c k keys i ++ same_layers_reads b c k keys heard i ++ same_category_reads k keys categorized i ++ attributes i

    constrained : List (List ℕ) → List Fault
    constrained names = flat_map (constraint_fault b k) names

    same_constraint : (name : List ℕ) → constraint_fault b k name ≡ constraint_fault c k name
    same_constraint name = ap (λ o. if is_some o then [] else fault code.ConstraintUnknown (key_text k) name ∷ []) (same_row_of name)

    same_constraints : (names : List (List ℕ)) → flat_map (constraint_fault b k) names ≡ flat_map (constraint_fault c k) names
    same_constraints [] = refl
    same_constraints (name ∷ names) = λ i. same_constraint name i ++ same_constraints names i

    same_own_faults : own_faults b k ≡ own_faults c k
    same_own_faults =
        let attributes = same_flat_map (attribute_fault b k) (attribute_fault c k) (table_of (layers b k))
        (at_rows (λ s. attribute_fault b k s ≡ attribute_fault c k s) (λ s a. same_attribute_fault b c k (ext_of k.name) s (same_dict_entries b c (ext_of k.name) s a) (same_target b c (ext_of k.name) s a)))
        ∙ ap (flat_map (attribute_fault c k)) rows in
        λ i. (if is_some (same_uid k keys i) then flat_map (activity_fault k) (same_activities i) else [])
        ++ same_category_fault k keys categorized i
        ++ attributes i
        ++ (same_constraints (at_least_one b k) ∙ ap (flat_map (constraint_fault c k)) (same_at_least_one k keys)) i
        ++ (same_constraints (just_one b k) ∙ ap (flat_map (constraint_fault c k)) (same_just_one k keys)) i
        ++ size_fault k (rows i)

    pub same_item_fault : item_fault b k ≡ item_fault c k
    unfolding item_fault
    same_item_fault = λ i. option_or (least_fault (same_chain_faults k keys i)) (option_or (least_fault (same_layers_faults b c k keys heard i)) (least_fault (same_own_faults i)))

  module _ (k : Key) (agree : AgreeAt b c (cells_read b k)) where
    Same : Cell → Type 0
    Same x = look b x ≡ look c x

    pub whole : (item b k ≡ item c k) × (reads b k ≡ reads c k) × (item_fault b k ≡ item_fault c k)
    unfolding cells_read reads
    whole =
        let e = ext_reads (ext_of k.name) in
        let ks = flat_map (key_reads b) (chain b k) in
        let ss = flat_map (speaker_reads b) (speakers b k) in
        let as' = flat_map (attribute_reads b (ext_of k.name)) (table_of (layers b k)) in
        let cs = category_reads b k in
        let four = left (λ x. look b x ≡ look c x) (e ++ ks ++ ss ++ cs) as' agree in
        let three = left (λ x. look b x ≡ look c x) (e ++ ks ++ ss) cs four in
        let two = left (λ x. look b x ≡ look c x) (e ++ ks) ss three in
        let at_ext = left (λ x. look b x ≡ look c x) e ks two in
        let keys = right (λ x. look b x ≡ look c x) e ks two in
        let heard = right (λ x. look b x ≡ look c x) (e ++ ks) ss three in
        let categorized = right (λ x. look b x ≡ look c x) (e ++ ks ++ ss) cs four in
        let joined = right (λ x. look b x ≡ look c x) (e ++ ks ++ ss ++ cs) as' agree in
        (same_item k at_ext keys heard joined categorized, ap (in_order cell_cmp) (same_cells k at_ext keys heard joined categorized), same_item_fault k at_ext keys heard joined categorized)

  pub from_reads : (k : Key) → AgreeAt b c (reads b k) → (item b k ≡ item c k) × (reads b k ≡ reads c k) × (item_fault b k ≡ item_fault c k)
  unfolding reads
  from_reads k agree = whole k (all_in_order cell_cmp same_cell (λ x. look b x ≡ look c x) (cells_read b k) agree)
