-- The least fault of several items, by groups and by items.
use Rattle.std.proofs.Common.{◌≡◌, ℕ, List, [], ◌∷◌, ◌++◌, Bool, true, false, if◌then◌else◌, Option, Some, None, refl, sym, ◌∙◌, ap}
use Rattle.std.specs.Prelude.{nat_le, nat_lt, ◌==◌, flat_map, filter_map, length, is_some, is_none, codes}
use Rattle.std.specs.Option.{IfSome, option_or, option_map_or}
use Rattle.std.specs.List.{list_all}
use Rattle.std.proofs.lemmas.Bool.{leb-true, ltb-true}
use Rattle.std.proofs.lemmas.List.Folds.{list_all-append}
use Rattle.std.proofs.lemmas.List.Sums.{AllPass-from_list_all}
use Rattle.ocsf_tree.specs.declared.fault.Fault.{Fault}
use Rattle.ocsf_tree.specs.declared.fault.Code.{Code}
use Rattle.ocsf_tree.specs.declared.fault.Code.TheVariants as code
use Rattle.ocsf_tree.specs.declared.key.Key.{Key}
use Rattle.ocsf_tree.specs.declared.attribute.EnumMember.{EnumMember}
use Rattle.ocsf_tree.specs.Key.{key_text}
use Rattle.ocsf_raw.specs.declared.attribute.RawAttr.{RawAttr}
use Rattle.ocsf_raw.specs.declared.attribute.Mark.{Mark}
use Rattle.ocsf_raw.specs.declared.attribute.Mark.TheVariants.{Unsaid, Cleared, Named}
use Rattle.ocsf_bundle.specs.Looks.{Looks, is_there}
use Rattle.ocsf_merge.specs.declared.spoken.Spoken.{Spoken}
use Rattle.ocsf_merge.specs.Layers.{Layer}
use Rattle.ocsf_merge.specs.Table.{table_of}
use Rattle.ocsf_rules.specs.Names.{ext_of, found, profile_cells, include_cells}
use Rattle.ocsf_rules.specs.Chain.{chain, written_parent, parent, Speaker, speakers, layers, include_layer, listed_layer}
use Rattle.ocsf_rules.specs.Attribute.{dict_said, type_of, target_of}
use Rattle.ocsf_rules.specs.declared.category.Written.{Written}
use Rattle.ocsf_rules.specs.Compiled.{uid, written_category, category, at_least_one, just_one, row_of, activities}
use Rattle.ocsf_rules.specs.ItemFaults.{fault, cycle_in, cycle_fault, parent_fault, limit_fault, chain_faults, unknown_profile, mark_fault, entry_fault, layer_faults, unknown_include, include_faults, listed_faults, speaker_faults, layers_faults, type_text, attribute_fault, category_fault, constraint_fault, is_small_decimal, activity_fault, activity_faults, size_fault, own_faults, item_fault}
use Rattle.ocsf_rules.specs.SchemaFaults.{schema_faults}
use Rattle.ocsf_rule_laws.specs.VerdictLaws.{LeastIsOfItems}
use Rattle.ocsf_lists.specs.Least.{lesser}
use Rattle.ocsf_tree.specs.LeastFault.{rank, comes_before, least_fault}
use Rattle.ocsf_lists.proofs.Leasts as least
use Rattle.ocsf_lists.proofs.Leasts.{least-append, least-cons, lesser-groups}
use Rattle.ocsf_tree.proofs.LeastFaults.{faults_rank, parted_by}

abbrev join : Option Fault → Option Fault → Option Fault
join = lesser comes_before

-- ---- ranks

abbrev IsUpTo : ℕ → Fault → Bool
IsUpTo n f = nat_le (rank f.code) n

abbrev IsPast : ℕ → Fault → Bool
IsPast n f = nat_lt n (rank f.code)

abbrev Holds : (Fault → Bool) → Option Fault → Type 0
Holds p o = IfSome o (λ f. p f ≡ true)

apart : (n : ℕ) (f g : Fault) → IsUpTo n f ≡ true → IsPast n g ≡ true → comes_before f g ≡ true
apart n f g low high = parted_by n f g (leb-true (rank f.code) n low) (ltb-true n (rank g.code) high)

-- of faults of two groups the first group's least, item by item or all at once
two_groups : (n : ℕ) (a b c d : Option Fault) → Holds (IsUpTo n) a → Holds (IsPast n) b → Holds (IsUpTo n) c → Holds (IsPast n) d
    → join (option_or a b) (option_or c d) ≡ option_or (join a c) (join b d)
two_groups n a b c d w x y z =
    lesser-groups faults_rank (λ f. IsUpTo n f ≡ true) (λ g. IsPast n g ≡ true) (apart n) a b c d w x y z

or_none : (a : Option Fault) → option_or a None ≡ a
or_none None = refl
or_none (Some f) = refl

or_three : (a b c d : Option Fault) → option_or a (option_or b (option_or c d)) ≡ option_or (option_or a (option_or b c)) d
or_three None None c d = refl
or_three None (Some g) c d = refl
or_three (Some f) b c d = refl

of_least : (p : Fault → Bool) (fs : List Fault) → list_all p fs ≡ true → Holds p (least_fault fs)
of_least p fs y = least.of_least faults_rank (λ f. p f ≡ true) fs (AllPass-from_list_all p fs y)

of_or : (p : Fault → Bool) (a b : Option Fault) → Holds p a → Holds p b → Holds p (option_or a b)
of_or p None b x y = y
of_or p (Some f) b x y = x

-- ---- what holds of the faults of parts holds of all

module _ (p : Fault → Bool) where
  abbrev Passes : List Fault → Type 0
  Passes fs = list_all p fs ≡ true

  all_of : (fs gs : List Fault) → Passes fs → Passes gs → Passes (fs ++ gs)
  all_of fs gs x y = rw (list_all-append p fs gs, x, y) refl

  all_over : {X : Type 0} (of : X → List Fault) → ((x : X) → Passes (of x)) → (xs : List X) → Passes (flat_map of xs)
  all_over of each [] = refl
  all_over of each (x ∷ xs) = all_of (of x) (flat_map of xs) (each x) (all_over of each xs)

  if_both : (c : Bool) (fs gs : List Fault) → Passes fs → Passes gs → Passes (if c then fs else gs)
  if_both true fs gs x y = x
  if_both false fs gs x y = y

  if_one : (c : Bool) (f : Fault) → p f ≡ true → Passes (if c then f ∷ [] else [])
  if_one true f x = rw x refl
  if_one false f x = refl

  if_none : (c : Bool) (f : Fault) → p f ≡ true → Passes (if c then [] else f ∷ [])
  if_none true f x = refl
  if_none false f x = rw x refl

  if_some : {X : Type 0} (of : X → List Fault) → ((x : X) → Passes (of x)) → (o : Option X) → (fs : List Fault) → Passes fs → Passes (option_map_or of o fs)
  if_some of each None fs y = y
  if_some of each (Some x) fs y = each x

-- ---- items

module _ (chains layers owns : Key → List Fault)
    (low : (k : Key) → list_all (IsUpTo 32) (chains k) ≡ true)
    (after_chains : (k : Key) → list_all (IsPast 32) (layers k) ≡ true) (middle : (k : Key) → list_all (IsUpTo 41) (layers k) ≡ true)
    (past_chains : (k : Key) → list_all (IsPast 32) (owns k) ≡ true) (high : (k : Key) → list_all (IsPast 41) (owns k) ≡ true) where
  abbrev of_item : Key → Option Fault
  of_item k = option_or (least_fault (chains k)) (option_or (least_fault (layers k)) (least_fault (owns k)))

  abbrev of_groups : List Key → Option Fault
  of_groups ks = option_or (least_fault (flat_map chains ks)) (option_or (least_fault (flat_map layers ks)) (least_fault (flat_map owns ks)))

  first_with : (k : Key) (ks : List Key) → of_groups (k ∷ ks) ≡ join (of_item k) (of_groups ks)
  first_with k ks =
      let c = least_fault (chains k) in let cs = least_fault (flat_map chains ks) in
      let l = least_fault (layers k) in let ls = least_fault (flat_map layers ks) in
      let o = least_fault (owns k) in let os = least_fault (flat_map owns ks) in
      let c_low : Holds (IsUpTo 32) c = of_least (IsUpTo 32) (chains k) (low k) in
      let cs_low : Holds (IsUpTo 32) cs = of_least (IsUpTo 32) (flat_map chains ks) (all_over (IsUpTo 32) chains low ks) in
      let l_past : Holds (IsPast 32) l = of_least (IsPast 32) (layers k) (after_chains k) in
      let ls_past : Holds (IsPast 32) ls = of_least (IsPast 32) (flat_map layers ks) (all_over (IsPast 32) layers after_chains ks) in
      let o_past : Holds (IsPast 32) o = of_least (IsPast 32) (owns k) (past_chains k) in
      let os_past : Holds (IsPast 32) os = of_least (IsPast 32) (flat_map owns ks) (all_over (IsPast 32) owns past_chains ks) in
      let l_low : Holds (IsUpTo 41) l = of_least (IsUpTo 41) (layers k) (middle k) in
      let ls_low : Holds (IsUpTo 41) ls = of_least (IsUpTo 41) (flat_map layers ks) (all_over (IsUpTo 41) layers middle ks) in
      let o_high : Holds (IsPast 41) o = of_least (IsPast 41) (owns k) (high k) in
      let os_high : Holds (IsPast 41) os = of_least (IsPast 41) (flat_map owns ks) (all_over (IsPast 41) owns high ks) in
      let parts : of_groups (k ∷ ks) ≡ option_or (join c cs) (option_or (join l ls) (join o os)) =
      rw (least-append faults_rank (chains k) (flat_map chains ks), least-append faults_rank (layers k) (flat_map layers ks), least-append faults_rank (owns k) (flat_map owns ks)) refl in
      parts
      ∙ ap (option_or (join c cs)) (sym (two_groups 41 l o ls os l_low o_high ls_low os_high))
      ∙ sym (two_groups 32 c (option_or l o) cs (option_or ls os) c_low (of_or (IsPast 32) l o l_past o_past) cs_low (of_or (IsPast 32) ls os ls_past os_past))

  by_items : (ks : List Key) → of_groups ks ≡ least_fault (filter_map of_item ks)
  by_items [] = refl
  by_items (k ∷ ks) = first_with k ks ∙ ap (join (of_item k)) (by_items ks) ∙ sym (least-cons faults_rank (of_item k) (filter_map of_item ks))

-- ---- the ranks of an item's faults

module _ (b : Looks) where
  of_parent : (k : Key) → list_all (IsUpTo 32) (parent_fault b k) ≡ true
  of_parent k = elim (is_none (parent b k)) as (λ (c : Bool). list_all (IsUpTo 32) (if c then option_map_or (λ name. fault code.ParentUnknown (key_text k) name ∷ []) (written_parent b k) [] else []) ≡ true) [
    | true ↦ if_some (IsUpTo 32) (λ (name : List ℕ). fault code.ParentUnknown (key_text k) name ∷ []) (λ name. refl) (written_parent b k) [] refl
    | false ↦ refl
  ]

  of_cycle : (keys : List Key) → list_all (IsUpTo 32) (cycle_fault b keys) ≡ true
  of_cycle [] = refl
  of_cycle (k ∷ ks) = refl

  of_chain : (k : Key) → list_all (IsUpTo 32) (chain_faults b k) ≡ true
  of_chain k =
      let keys = chain b k in
      if_both (IsUpTo 32) (length keys == 33) (if is_there (cycle_in keys) then cycle_fault b (cycle_in keys) else limit_fault k) (flat_map (parent_fault b) keys)
      (if_both (IsUpTo 32) (is_there (cycle_in keys)) (cycle_fault b (cycle_in keys)) (limit_fault k) (of_cycle (cycle_in keys)) refl)
      (all_over (IsUpTo 32) (parent_fault b) of_parent keys)

  -- the faults of layers have two codes, and so they pass each test that these pass
  module _ (t : Code → Bool) (include : t code.IncludeUnknown ≡ true) (profile : t code.ProfileUnknown ≡ true) where
    abbrev p : Fault → Bool
    p f = t f.code

    of_profile : (by : Key) (ext name : List ℕ) → list_all p (unknown_profile b by ext name) ≡ true
    of_profile by ext name = if_one p (is_none (found b (profile_cells ext name))) (fault code.ProfileUnknown (key_text by) name) profile

    of_mark : (by : Key) (ext : List ℕ) (mark : Mark) → list_all p (mark_fault b by ext mark) ≡ true
    of_mark by ext Unsaid = refl
    of_mark by ext Cleared = refl
    of_mark by ext (Named name) = of_profile by ext name

    of_entry : (by : Key) (ext : List ℕ) (entry : RawAttr) → list_all p (entry_fault b by ext entry) ≡ true
    of_entry by ext entry = if_both p entry.removed [] (mark_fault b by ext entry.mark) refl (of_mark by ext entry.mark)

    of_layer : (by : Key) (layer : Layer) → list_all p (layer_faults b by layer) ≡ true
    of_layer by layer = all_over p (entry_fault b by layer.from) (of_entry by layer.from) layer.entries

    of_include : (by : Key) (ext path : List ℕ) → list_all p (include_faults b by ext path) ≡ true
    of_include by ext path = all_of p (unknown_include b by ext path) (flat_map (layer_faults b by) (include_layer b ext path))
        (if_one p (is_none (found b (include_cells ext path))) (fault code.IncludeUnknown (key_text by) path) include)
        (all_over p (layer_faults b by) (of_layer by) (include_layer b ext path))

    of_listed : (by : Key) (ext name : List ℕ) → list_all p (listed_faults b by ext name) ≡ true
    of_listed by ext name = all_of p (unknown_profile b by ext name) (flat_map (layer_faults b by) (listed_layer b ext name))
        (of_profile by ext name) (all_over p (layer_faults b by) (of_layer by) (listed_layer b ext name))

    of_speaker : (s : Speaker) → list_all p (speaker_faults b s) ≡ true
    of_speaker s =
        let includes = flat_map (include_faults b s.by s.ext) s.file.includes in
        let listed = flat_map (listed_faults b s.by s.ext) s.file.profiles in
        let entries = flat_map (entry_fault b s.by s.ext) s.file.attributes in
        all_of p (includes ++ listed) entries
        (all_of p includes listed (all_over p (include_faults b s.by s.ext) (of_include s.by s.ext) s.file.includes) (all_over p (listed_faults b s.by s.ext) (of_listed s.by s.ext) s.file.profiles))
        (all_over p (entry_fault b s.by s.ext) (of_entry s.by s.ext) s.file.attributes)

    of_layers : (k : Key) → list_all p (layers_faults b k) ≡ true
    of_layers k = all_over p (speaker_faults b) of_speaker (speakers b k)

  -- and those of an item itself have six
  module _ (t : Code → Bool)
      (attribute : t code.AttributeUnknown ≡ true) (kind : t code.KindUnknown ≡ true) (in_category : t code.CategoryUnknown ≡ true)
      (constraint : t code.ConstraintUnknown ≡ true) (enum_key : t code.EnumKey ≡ true) (limit : t code.AttributeLimit ≡ true) where
    abbrev r : Fault → Bool
    r f = t f.code

    of_attribute : (k : Key) (s : Spoken) → list_all r (attribute_fault b k s) ≡ true
    of_attribute k s =
        let name = s.attr.name in
        let unknown = fault code.KindUnknown (key_text k) (name ++ codes " " ++ type_text (type_of (dict_said (b.dict name)) s)) in
        let missing = fault code.AttributeUnknown (key_text k) name in
        if_both r (is_there (b.dict name)) (if is_some (target_of b (ext_of k.name) s) then [] else unknown ∷ []) (missing ∷ [])
        (if_none r (is_some (target_of b (ext_of k.name) s)) unknown kind)
        (if_one r true missing attribute)

    of_category : (k : Key) → list_all r (category_fault b k) ≡ true
    of_category k =
        let none = if is_some (uid b k) then fault code.CategoryUnknown (key_text k) [] ∷ [] else [] in
        let named = λ (w : Written). fault code.CategoryUnknown (key_text k) w.name ∷ [] in
        if_both r (is_none (category b k)) (option_map_or named (written_category b k) none) []
        (if_some r named (λ w. if_one r true (fault code.CategoryUnknown (key_text k) w.name) in_category) (written_category b k) none
        (if_one r (is_some (uid b k)) (fault code.CategoryUnknown (key_text k) []) in_category))
        refl

    of_constraint : (k : Key) (name : List ℕ) → list_all r (constraint_fault b k name) ≡ true
    of_constraint k name = if_none r (is_some (row_of b k name)) (fault code.ConstraintUnknown (key_text k) name) constraint

    of_activity : (k : Key) (m : EnumMember) → list_all r (activity_fault k m) ≡ true
    of_activity k m = if_none r (is_small_decimal m.key) (fault code.EnumKey (key_text k) m.key) enum_key

    of_activities : (k : Key) → list_all r (activity_faults b k) ≡ true
    of_activities k = if_both r (is_some (uid b k)) (flat_map (activity_fault k) (activities b k)) [] (all_over r (activity_fault k) (of_activity k) (activities b k)) refl

    of_size : (k : Key) (rows : List Spoken) → list_all r (size_fault k rows) ≡ true
    of_size k rows = if_one r (nat_lt 1024 (length rows)) (fault code.AttributeLimit (key_text k) (codes "1024")) limit

    of_own : (k : Key) → list_all r (own_faults b k) ≡ true
    of_own k =
        let rows = table_of (layers b k) in
        let attributes = flat_map (attribute_fault b k) rows in
        let more = flat_map (constraint_fault b k) (at_least_one b k) in
        let one = flat_map (constraint_fault b k) (just_one b k) in
        let activity = activity_faults b k in
        all_of r (activity ++ category_fault b k ++ attributes ++ more ++ one) (size_fault k rows)
        (all_of r (activity ++ category_fault b k ++ attributes ++ more) one
        (all_of r (activity ++ category_fault b k ++ attributes) more
        (all_of r (activity ++ category_fault b k) attributes
        (all_of r activity (category_fault b k) (of_activities k) (of_category k))
        (all_over r (attribute_fault b k) (of_attribute k) rows))
        (all_over r (constraint_fault b k) (of_constraint k) (at_least_one b k)))
        (all_over r (constraint_fault b k) (of_constraint k) (just_one b k)))
        (of_size k rows)

-- ---- the law

abbrev up_to : ℕ → Code → Bool
up_to n c = nat_le (rank c) n

abbrev past : ℕ → Code → Bool
past n c = nat_lt n (rank c)

pub least_is_of_items : LeastIsOfItems
unfolding item_fault
least_is_of_items b l =
    let items = by_items (chain_faults b) (layers_faults b) (own_faults b) (of_chain b)
    (of_layers b (past 32) refl refl) (of_layers b (up_to 41) refl refl)
    (of_own b (past 32) refl refl refl refl refl refl) (of_own b (past 41) refl refl refl refl refl refl) l.items in
    let schema = least_fault (schema_faults b l) in
    let chains = least_fault (flat_map (chain_faults b) l.items) in
    let layers = least_fault (flat_map (layers_faults b) l.items) in
    let owns = least_fault (flat_map (own_faults b) l.items) in
    ap (λ o. option_or chains (option_or layers (option_or owns o))) (or_none schema)
    ∙ or_three chains layers owns schema
    ∙ ap (λ o. option_or o schema) items
