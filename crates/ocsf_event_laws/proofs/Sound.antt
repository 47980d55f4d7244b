-- What the compilation of a bundle without a fault has, by questions to the files.
use Rattle.std.proofs.Common.{◌≡◌, ℕ, List, [], ◌∷◌, ◌++◌, map, Bool, true, false, cond, ◌&&◌, Option, Some, None}
use Rattle.std.proofs.Common.{Result}
use Rattle.std.proofs.Common.{Ok, Err, unwrap_or, is_some, true≢false, if◌then◌else◌, refl, sym, ◌∙◌, ap, subst}
use Rattle.std.specs.Prelude.{All, Contains, flat_map, filter_map}
use Rattle.std.specs.Option.{option_map, option_or}
use Rattle.std.specs.List.{cons_option}
use Rattle.std.specs.Result.{result_ok}
use Rattle.std.specs.Ordering.{is_eq, is_lt}
use Rattle.std.specs.declared.cmp.Ordering.{Ordering}
use Rattle.std.specs.declared.cmp.Ordering.TheVariants.{Less, Equal, Greater}
use Rattle.std.specs.FinMap.Entries.{below_all}
use Rattle.std.proofs.lemmas.Option.{none-some, same_Some}
use Rattle.std.proofs.lemmas.List.Elements.{All-contains}
use Rattle.ocsf_lists.specs.ByName.{text_cmp, named, at_name, is_by_name, IsByName}
use Rattle.ocsf_lists.proofs.NameLists.{same_text}
use Rattle.ocsf_tree.specs.Key.{key_text}
use Rattle.ocsf_tree.specs.LeastFault.{least_fault, IsLeastOf}
use Rattle.ocsf_tree.specs.declared.fault.Fault.{Fault}
use Rattle.ocsf_tree.specs.declared.key.Key.{Key}
use Rattle.ocsf_tree.specs.declared.key.Side.TheVariants.{Object}
use Rattle.ocsf_tree.proofs.LeastFaults.{least_is_least}
use Rattle.ocsf_raw.specs.declared.dictionary.TypeEntry.{TypeEntry}
use Rattle.ocsf_schema.specs.declared.parts.SchemaParts.{SchemaParts}
use Rattle.ocsf_schema.specs.declared.records.Attr.{Attr}
use Rattle.ocsf_schema.specs.declared.records.Base.{Base}
use Rattle.ocsf_schema.specs.declared.records.Item.{Item}
use Rattle.ocsf_schema.specs.declared.records.Kind.{Kind}
use Rattle.ocsf_schema.specs.declared.records.Limit.{Limit}
use Rattle.ocsf_schema.specs.declared.records.Target.{Target}
use Rattle.ocsf_schema.specs.declared.records.Target.TheVariants as target
use Rattle.ocsf_merge.specs.Table.{table_of}
use Rattle.ocsf_merge.specs.declared.spoken.Spoken.{Spoken}
use Rattle.ocsf_merge.proofs.TablesByName.{IsByName-table_of}
use Rattle.ocsf_kind.specs.declared.kinds.KindError.{KindError}
use Rattle.ocsf_kind.specs.declared.kinds.KindError.TheVariants as error
use Rattle.ocsf_kind.specs.Kinds.{listed, kind_at, kind_of}
use Rattle.ocsf_bundle.specs.Active.{active_files}
use Rattle.ocsf_bundle.specs.BundleFaults.{own_fault}
use Rattle.ocsf_bundle.specs.Listing.{listing}
use Rattle.ocsf_bundle.specs.Looks.{Looks, is_there}
use Rattle.ocsf_bundle.specs.Stored.{Stored}
use Rattle.ocsf_bundle.proofs.KeysInOrder.{keys_of_items}
use Rattle.ocsf_rules.specs.Names.{ext_of, key}
use Rattle.ocsf_rules.specs.Chain.{layers}
use Rattle.ocsf_rules.specs.Attribute.{attr_of, dict_said, type_of, target_of}
use Rattle.ocsf_rules.specs.declared.said.TypeSaid.{TypeSaid}
use Rattle.ocsf_rules.specs.Compiled.{row_of, numbered, computed, at_least_one, just_one, item}
use Rattle.ocsf_rules.specs.Compilation.{compilation}
use Rattle.ocsf_rules.specs.ItemFaults.{chain_faults, layers_faults, leads_fault, attribute_fault, constraint_fault}
use Rattle.ocsf_rules.specs.ItemFaults.{category_fault, activity_faults, size_fault, own_faults}
use Rattle.ocsf_rules.specs.PrintedSchema.{schema_parts}
use Rattle.ocsf_rules.specs.SchemaFaults.{schema_faults}
use Rattle.ocsf_rules.specs.Verdict.{types_of, bundle_fault, IsFaultless}
use Rattle.ocsf_rule_laws.specs.ClosedLaws.{IsThere}
use Rattle.ocsf_rule_laws.proofs.Closed.{leads_into_schema}
use Rattle.ocsf_rule_laws.proofs.Faultless.{each_gives_nil}
use Rattle.ocsf_rule_laws.proofs.TypesAgree.{at_mapped}
use Rattle.ocsf_event_rules.specs.EventClass.{item_named, kind_named, attribute_named}
use Rattle.ocsf_event_laws.specs.FilesAllow.{looks_of}
use Rattle.ocsf_event_laws.proofs.Found.{found_there, there_found, mapped_there}

-- ---- options and lists

or_first : {X : Type 0} (a b : Option X) → option_or a b ≡ None → a ≡ None
or_first None b e = refl
or_first (Some x) b e = cc

or_second : {X : Type 0} (a b : Option X) → option_or a b ≡ None → b ≡ None
or_second None b e = e
or_second (Some x) b e = cc

cons_is_not_nil : {X : Type 0} (x : X) (xs : List X) → x ∷ xs ≡ [] → ⊥
cons_is_not_nil x xs e = cc

nil_first : {X : Type 0} (xs ys : List X) → xs ++ ys ≡ [] → xs ≡ []
nil_first [] ys e = refl
nil_first (x ∷ xs) ys e = absurd (cons_is_not_nil x (xs ++ ys) e)

nil_second : {X : Type 0} (xs ys : List X) → xs ++ ys ≡ [] → ys ≡ []
nil_second [] ys e = e
nil_second (x ∷ xs) ys e = absurd (cons_is_not_nil x (xs ++ ys) e)

no_fault : (faults : List Fault) → least_fault faults ≡ None → faults ≡ []
no_fault faults e = subst (IsLeastOf faults) e (least_is_least faults)

pub known : {X : Type 0} (o : Option X) (d : X) → is_some o ≡ true → o ≡ Some (unwrap_or o d)
known None d e = absurd (true≢false (sym e))
known (Some x) d e = refl

pub mapped_some : {X Y : Type 0} (f : X → Y) (o : Option X) (y : Y) → option_map f o ≡ Some y
    → (x : X) × (o ≡ Some x) × (f x ≡ y)
mapped_some f None y e = absurd (none-some y e)
mapped_some f (Some x) y e = (x, refl, same_Some (f x) y e)

pub mapped_none : {X Y : Type 0} (f : X → Y) (o : Option X) → option_map f o ≡ None → o ≡ None
mapped_none f None e = refl
mapped_none f (Some x) e = absurd (none-some (f x) (sym e))

if_there : {X : Type 0} (there : Bool) (x : X) → (if there then Some x else None) ≡ Some x → there ≡ true
if_there true x e = refl
if_there false x e = absurd (none-some x e)

-- ---- a list made item by item is by name where what it is made of is

module _ {X Y : Type 0} (f : X → Y) (name : Y → List ℕ) where
  same_below : (q : List ℕ) (xs : List X)
      → below_all text_cmp q (named name (map f xs)) ≡ below_all text_cmp q (named (λ x. name (f x)) xs)
  same_below q [] = refl
  same_below q (x ∷ xs) = ap (λ t. is_lt (text_cmp q (name (f x))) && t) (same_below q xs)

  same_order : (xs : List X) → is_by_name name (map f xs) ≡ is_by_name (λ x. name (f x)) xs
  same_order [] = refl
  same_order (x ∷ xs) = λ i. same_below (name (f x)) xs i && same_order xs i

-- ---- kinds

name_or_empty : Result Kind KindError → List ℕ
name_or_empty (Ok kind) = kind.name
name_or_empty (Err e) = []

same_name : (types : List TypeEntry) (name last : List ℕ) (limits : List Limit) (base : Option Base) (kind : Kind)
    → kind_at types name last limits base ≡ Ok kind → kind.name ≡ name
unfolding name_or_empty
same_name types name last limits (Some base) kind e = sym (ap name_or_empty e)
same_name types name last limits None kind e = by_test (is_some (listed types last)) e
  where
    by_test : (c : Bool) → (if c then Err error.Cycle else Err (error.Unknown last)) ≡ Ok kind → kind.name ≡ name
    by_test true e = cc
    by_test false e = cc

module _ (types : List TypeEntry) where
  abbrev kinds_in : List (List ℕ) → List Kind
  kinds_in names = filter_map (λ n. result_ok (kind_of types n)) names

  -- what is found among the kinds is what the type of that name leads to
  kind_found : (name : List ℕ) (names : List (List ℕ)) (kind : Kind)
      → at_name (λ k. k.name) name (kinds_in names) ≡ Some kind → kind_of types name ≡ Ok kind
  kind_found name [] kind e = absurd (none-some kind e)
  kind_found name (n ∷ names) kind e = by_kind (kind_of types n) refl (λ f. kind_found name names kind f) e
    where
      by_order : (own : Kind) → kind_of types n ≡ Ok own → (r : Ordering) → text_cmp name own.name ≡ r
          → (at_name (λ k. k.name) name (kinds_in names) ≡ Some kind → kind_of types name ≡ Ok kind)
          → cond (is_eq r) (Some own) (at_name (λ k. k.name) name (kinds_in names)) ≡ Some kind
          → kind_of types name ≡ Ok kind
      by_order own leads Less is more e = more e
      by_order own leads Greater is more e = more e
      by_order own leads Equal is more e =
          ap (kind_of types) (same_text name own.name is ∙ same_name types n _ _ _ own leads)
          ∙ leads
          ∙ ap Ok (same_Some own kind e)

      by_kind : (r : Result Kind KindError) → kind_of types n ≡ r
          → (at_name (λ k. k.name) name (kinds_in names) ≡ Some kind → kind_of types name ≡ Ok kind)
          → at_name (λ k. k.name) name (cons_option (result_ok r) (kinds_in names)) ≡ Some kind
          → kind_of types name ≡ Ok kind
      by_kind (Err f) leads more e = more e
      by_kind (Ok own) leads more e = by_order own leads (text_cmp name own.name) refl more e

same_ok : (k j : Kind) → ◌≡◌ {A = Result Kind KindError} (Ok k) (Ok j) → k ≡ j
same_ok k j e = cc

-- ---- a bundle without a fault

module _ (bundle : Stored) (sound : IsFaultless bundle) where
  abbrev b : Looks
  b = looks_of bundle

  abbrev keys : List Key
  keys = (listing bundle).items

  abbrev schema : SchemaParts
  schema = compilation bundle

  abbrev pub IsActive : Key → Type 0
  IsActive k = Contains keys k

  -- ---- items

  present : (k : Key) → at_name key_text (key_text k) keys ≡ (if is_there (b.items k) then Some k else None)
  present k = (keys_of_items (active_files bundle.files bundle.enabled)).present k

  pub active_there : (k : Key) → IsActive k → is_there (b.items k) ≡ true
  active_there k active =
      if_there (is_there (b.items k)) k
      (sym (present k)
      ∙ there_found key_text keys k (keys_of_items (active_files bundle.files bundle.enabled)).ordered active)

  pub there_active : (k : Key) → is_there (b.items k) ≡ true → IsActive k
  there_active k there =
      found_there key_text (key_text k) keys k (present k ∙ ap (λ c. if c then Some k else None) there)

  pub in_pieces : (k : Key) → IsActive k → Contains schema.pieces (item b k)
  unfolding compilation schema_parts
  in_pieces k active = mapped_there (item b) keys k active

  abbrev object : List ℕ → Key
  object name = key Object name

  pub object_is : (name : List ℕ) (found : Item) → item_named schema name ≡ Some found
      → IsActive (object name) × (item b (object name) ≡ found)
  unfolding compilation schema_parts item
  object_is name found e =
      let at : option_map (item b) (at_name key_text (key_text (object name)) keys) ≡ Some found =
      sym (at_mapped (item b) (λ (i : Item). key_text i.key) (key_text (object name)) keys) ∙ e in
      by_there (is_there (b.items (object name))) refl
      (sym (ap (option_map (item b)) (present (object name))) ∙ at)
    where
      by_there : (there : Bool) → is_there (b.items (object name)) ≡ there
          → option_map (item b) (if there then Some (object name) else None) ≡ Some found
          → IsActive (object name) × (item b (object name) ≡ found)
      by_there true is e = (there_active (object name) is, same_Some (item b (object name)) found e)
      by_there false is e = absurd (none-some found e)

  -- ---- attributes

  abbrev pub attr_at : Key → Spoken → Attr
  attr_at k said = attr_of b (ext_of k.name) (computed (numbered b k) said.attr.name) said

  pub attributes : (k : Key) (name : List ℕ)
      → attribute_named (item b k) name ≡ option_map (attr_at k) (row_of b k name)
  unfolding item
  attributes k name = at_mapped (attr_at k) (λ (a : Attr). a.name) name (table_of (layers b k))

  pub attributes_by_name : (k : Key) → IsByName (λ (a : Attr). a.name) (item b k).attrs
  unfolding item
  attributes_by_name k =
      same_order (attr_at k) (λ (a : Attr). a.name) (table_of (layers b k)) ∙ IsByName-table_of (layers b k)

  -- ---- targets

  no_own_faults : All (λ k. own_faults b k ≡ []) keys
  unfolding bundle_fault
  no_own_faults =
      let chains = least_fault (flat_map (chain_faults b) keys) in
      let layered = least_fault (flat_map (layers_faults b) keys) in
      let owns = least_fault (flat_map (own_faults b) keys) in
      let rest = option_or (least_fault (schema_faults b (listing bundle))) None in
      let groups =
      or_second (own_fault bundle.files bundle.enabled) (option_or chains (option_or layered (option_or owns rest)))
      sound in
      let behind = or_second chains (option_or layered (option_or owns rest)) groups in
      each_gives_nil (own_faults b) keys
      (no_fault (flat_map (own_faults b) keys) (or_first owns rest (or_second layered (option_or owns rest) behind)))

  rows_lead : (k : Key) → IsActive k → All (λ said. attribute_fault b k said ≡ []) (table_of (layers b k))
  rows_lead k active =
      let rows = table_of (layers b k) in
      let led = activity_faults b k ++ category_fault b k in
      let of_rows = flat_map (attribute_fault b k) rows in
      let least = flat_map (constraint_fault b k) (at_least_one b k) in
      let just = flat_map (constraint_fault b k) (just_one b k) in
      each_gives_nil (attribute_fault b k) rows
      (nil_second led of_rows
      (nil_first (led ++ of_rows) least
      (nil_first (led ++ of_rows ++ least) just
      (nil_first (led ++ of_rows ++ least ++ just) (size_fault k rows)
      (All-contains (λ j. own_faults b j ≡ []) keys k no_own_faults active)))))

  leads : (k : Key) (name : List ℕ) (there : Bool) (t : Option Target) (said : Option TypeSaid)
      → leads_fault k name there t said ≡ [] → is_some t ≡ true
  leads k name true (Some t) said e = refl
  leads k name true None said e = absurd (cons_is_not_nil _ [] e)
  leads k name false t said e = absurd (cons_is_not_nil _ [] e)

  pub target_known : (k : Key) → IsActive k → (name : List ℕ) (said : Spoken) → row_of b k name ≡ Some said
      → target_of b (ext_of k.name) said ≡ Some (attr_at k said).target
  target_known k active name said e =
      known (target_of b (ext_of k.name) said) target.Anything
      (leads k said.attr.name (is_there (b.dict said.attr.name)) (target_of b (ext_of k.name) said)
      (type_of (dict_said (b.dict said.attr.name)) said)
      (All-contains (λ s. attribute_fault b k s ≡ []) (table_of (layers b k)) said (rows_lead k active)
      (found_there (λ (s : Spoken). s.attr.name) name (table_of (layers b k)) said e)))

  pub leads_in : (k : Key) → IsActive k → (name : List ℕ) (attr : Attr)
      → attribute_named (item b k) name ≡ Some attr → IsThere schema attr.target
  leads_in k active name attr e =
      All-contains (λ (a : Attr). IsThere schema a.target) (item b k).attrs attr
      (All-contains (λ (i : Item). All (λ (a : Attr). IsThere schema a.target) i.attrs) schema.pieces (item b k)
      (leads_into_schema bundle sound) (in_pieces k active))
      (found_there (λ (a : Attr). a.name) name (item b k).attrs attr e)

  pub object_there : (name : List ℕ) → IsThere schema (target.Object name)
      → IsActive (object name) × (item_named schema name ≡ Some (item b (object name)))
  object_there name there = by_item (item_named schema name) refl there
    where
      by_item : (o : Option Item) → item_named schema name ≡ o → is_some o ≡ true
          → IsActive (object name) × (item_named schema name ≡ Some (item b (object name)))
      by_item None e some = absurd (true≢false (sym some))
      by_item (Some found) e some = let is = object_is name found e in (is.0, e ∙ ap Some (sym is.1))

  -- ---- kinds

  pub kind_leads : (name : List ℕ) (kind : Kind) → kind_named schema name ≡ Some kind
      → kind_of (types_of bundle) name ≡ Ok kind
  unfolding compilation schema_parts
  kind_leads name kind e = kind_found (types_of bundle) name _ kind e

  pub kind_there : (name : List ℕ) (kind : Kind) → IsThere schema (target.Simple name)
      → kind_of (types_of bundle) name ≡ Ok kind → kind_named schema name ≡ Some kind
  kind_there name kind there leads = by_kind (kind_named schema name) refl there
    where
      by_kind : (o : Option Kind) → kind_named schema name ≡ o → is_some o ≡ true → kind_named schema name ≡ Some kind
      by_kind None e some = absurd (true≢false (sym some))
      by_kind (Some other) e some = e ∙ ap Some (same_ok other kind (sym (kind_leads name other e) ∙ leads))
