-- A compilation is closed: every type that an item names has its kind, and every object its item.
use Rattle.std.proofs.Common.{◌≡◌, ℕ, List, [], ◌∷◌, ◌++◌, map, Bool, true, false, cond, ◌||◌, not, if◌then◌else◌}
use Rattle.std.proofs.Common.{is_some, Option, Some, None, Result, Ok, Err, unwrap_or, refl, sym, ap, ◌∙◌, subst}
use Rattle.std.specs.Prelude.{◌≢◌, All, codes, filter_map, find}
use Rattle.std.specs.Option.{option_map, option_and_then, option_or}
use Rattle.std.specs.List.{cons_option}
use Rattle.std.specs.Result.{result_ok}
use Rattle.std.specs.Str.{bytes_eq}
use Rattle.std.specs.declared.cmp.Ordering.{Ordering}
use Rattle.std.specs.declared.cmp.Ordering.TheVariants.{Less, Equal, Greater}
use Rattle.std.specs.FinMap.Entries.{by_order}
use Rattle.std.proofs.lemmas.Bool.{false≢true}
use Rattle.std.proofs.lemmas.List.Elements.{All-nil, All-cons, All-head, All-tail, All-append, All-map, All-weaker}
use Rattle.ocsf_lists.specs.ByName.{text_cmp, at_name, put_by_name}
use Rattle.ocsf_lists.specs.FirstOfEach.{first_of_each}
use Rattle.ocsf_tree.specs.Key.{key_text}
use Rattle.ocsf_tree.specs.declared.key.Key.{Key}
use Rattle.ocsf_tree.specs.declared.key.Side.TheVariants.{Object}
use Rattle.ocsf_lists.proofs.FirstOfEach.{at_name-append, at_name-first_of_each}
use Rattle.ocsf_raw.specs.declared.dictionary.TypeEntry.{TypeEntry}
use Rattle.ocsf_schema.specs.Bases.{base_of}
use Rattle.ocsf_schema.specs.declared.parts.SchemaParts.{SchemaParts}
use Rattle.ocsf_schema.specs.declared.records.Attr.{Attr}
use Rattle.ocsf_schema.specs.declared.records.Base.{Base}
use Rattle.ocsf_schema.specs.declared.records.Item.{Item}
use Rattle.ocsf_schema.specs.declared.records.Kind.{Kind}
use Rattle.ocsf_schema.specs.declared.records.Limit.{Limit}
use Rattle.ocsf_schema.specs.declared.records.Target.TheVariants as target
use Rattle.ocsf_merge.specs.Table.{table_of}
use Rattle.ocsf_merge.specs.declared.spoken.Spoken.{Spoken}
use Rattle.ocsf_kind.specs.declared.kinds.KindError.{KindError}
use Rattle.ocsf_kind.specs.declared.kinds.KindError.TheVariants as error
use Rattle.ocsf_kind.specs.Kinds.{listed, way, limits_of, kind_at, kind_along, kind_of}
use Rattle.ocsf_kind.proofs.Ways.{way-end}
use Rattle.ocsf_bundle.specs.Active.{active_files}
use Rattle.ocsf_bundle.specs.BundleFaults.{type_fault, listed_types}
use Rattle.ocsf_bundle.specs.Listing.{listing}
use Rattle.ocsf_bundle.specs.Looks.{Looks, is_there}
use Rattle.ocsf_bundle.specs.Shown.{There}
use Rattle.ocsf_bundle.specs.Stored.{Stored}
use Rattle.ocsf_bundle.proofs.Grouped.{same_bytes}
use Rattle.ocsf_bundle.proofs.KeysInOrder.{keys_of_items}
use Rattle.ocsf_rules.specs.Names.{ext_of, key, exists_cell, is_shown, found, item_at as key_found}
use Rattle.ocsf_rules.specs.Chain.{layers}
use Rattle.ocsf_rules.specs.declared.said.TypeSaid.{TypeSaid}
use Rattle.ocsf_rules.specs.Attribute.{dict_said, type_of, is_base_type, is_data_type, is_open_object}
use Rattle.ocsf_rules.specs.Attribute.{object_candidates, object_named, open_object, target_named, target_of}
use Rattle.ocsf_rules.specs.Compiled.{item}
use Rattle.ocsf_rules.specs.Compilation.{compilation}
use Rattle.ocsf_rules.specs.MergedDictionary.{base_types, data_types}
use Rattle.ocsf_rules.specs.PrintedSchema.{schema_parts}
use Rattle.ocsf_rules.specs.Verdict.{types_of, IsFaultless}
use Rattle.ocsf_rule_laws.specs.ClosedLaws.{refused_kind, HasEveryKind, IsThere, LeadsIntoSchema}
use Rattle.ocsf_rule_laws.proofs.Faultless.{no_type_faults}
use Rattle.ocsf_rule_laws.proofs.TypesAgree.{looks_in, among, at_mapped, some_mapped, among_some, listed_is_there}
use Rattle.ocsf_rule_laws.proofs.TypesAgree.{types_agree}

-- ---- lists

pub all_of : {X : Type 0} (P : X → Type 0) → ((x : X) → P x) → (xs : List X) → All P xs
all_of P each [] = All-nil P
all_of P each (x ∷ xs) = All-cons P x xs (each x) (all_of P each xs)

module _ {X : Type 0} (P : X → Type 0) (name : X → List ℕ) where
  All-put_by_name : (x : X) (xs : List X) → P x → All P xs → All P (put_by_name name x xs)
  All-put_by_name x [] h all = All-cons P x [] h all
  All-put_by_name x (y ∷ ys) h all =
      elim (text_cmp (name x) (name y)) as (λ (r : Ordering).
      All P (by_order r (x ∷ y ∷ ys) (x ∷ ys) (y ∷ put_by_name name x ys))) [
        | Less ↦ All-cons P x (y ∷ ys) h all
        | Equal ↦ All-cons P x ys h (All-tail P y ys all)
        | Greater ↦
            All-cons P y (put_by_name name x ys) (All-head P y ys all) (All-put_by_name x ys h (All-tail P y ys all))
      ]

  All-first_of_each : (xs : List X) → All P xs → All P (first_of_each name xs)
  All-first_of_each [] all = all
  All-first_of_each (x ∷ xs) all =
      All-put_by_name x (first_of_each name xs) (All-head P x xs all) (All-first_of_each xs (All-tail P x xs all))

-- ---- kinds

record HasKind (types : List TypeEntry) (name : List ℕ) : Type 0 where
  kind : Kind
  leads : kind_of types name ≡ Ok kind
  named : kind.name ≡ name

name_or_empty : Result Kind KindError → List ℕ
name_or_empty (Ok kind) = kind.name
name_or_empty (Err e) = []

same_name : (types : List TypeEntry) (name last : List ℕ) (limits : List Limit) (base : Option Base) (kind : Kind)
    → kind_at types name last limits base ≡ Ok kind → kind.name ≡ name
unfolding name_or_empty
same_name types name last limits (Some base) kind e = sym (ap name_or_empty e)
same_name types name last limits None kind e =
    elim (is_some (listed types last)) as (λ (c : Bool). (if c then Err error.Cycle else Err (error.Unknown last))
    ≡ Ok kind → kind.name ≡ name) [
      | true ↦ λ h. cc
      | false ↦ λ h. cc
    ] e

not_refused : (types : List TypeEntry) (name : List ℕ) (r : Result Kind KindError) → kind_of types name ≡ r
    → refused_kind name r ≡ None → r ≢ Err error.Memory → HasKind types name
not_refused types name (Ok kind) e none never = record {
  kind = kind;
  leads = e;
  named = same_name types name _ _ _ kind e;
}
not_refused types name (Err (error.Unknown other)) e none never = cc
not_refused types name (Err error.Cycle) e none never = cc
not_refused types name (Err error.Memory) e none never = absurd (never refl)

base_leads : (types : List TypeEntry) (name : List ℕ) (base : Base) → base_of name ≡ Some base → HasKind types name
base_leads types name base e =
    let ends : way 32 types name ≡ name ∷ [] =
    way-end 32 types name (ap (λ (o : Option Base). is_some o || not (is_some (listed types name))) e) in
    record {
      kind = record { name = name; base = base; limits = limits_of types (name ∷ []) };
      leads = ap (kind_along types name) ends ∙ ap (kind_at types name name (limits_of types (name ∷ []))) e;
      named = refl;
    }

bases_lead : (types : List TypeEntry) → All (HasKind types) base_types
bases_lead types =
    let P = HasKind types in
    let json =
    All-cons P (codes "json_t") (codes "long_t" ∷ codes "string_t" ∷ []) (base_leads types (codes "json_t") _ refl)
    (All-cons P (codes "long_t") (codes "string_t" ∷ []) (base_leads types (codes "long_t") _ refl)
    (All-cons P (codes "string_t") [] (base_leads types (codes "string_t") _ refl) (All-nil P))) in
    All-cons P (codes "boolean_t")
    (codes "float_t" ∷ codes "integer_t" ∷ codes "json_t" ∷ codes "long_t" ∷ codes "string_t" ∷ [])
    (base_leads types (codes "boolean_t") _ refl)
    (All-cons P (codes "float_t") (codes "integer_t" ∷ codes "json_t" ∷ codes "long_t" ∷ codes "string_t" ∷ [])
    (base_leads types (codes "float_t") _ refl)
    (All-cons P (codes "integer_t") (codes "json_t" ∷ codes "long_t" ∷ codes "string_t" ∷ [])
    (base_leads types (codes "integer_t") _ refl) json))

kept_names : (types : List TypeEntry) (names : List (List ℕ)) → All (HasKind types) names
    → map (λ (k : Kind). k.name) (filter_map (λ name. result_ok (kind_of types name)) names) ≡ names
kept_names types [] all = refl
kept_names types (n ∷ names) all =
    let here = All-head (HasKind types) n names all in
    let rest = filter_map (λ name. result_ok (kind_of types name)) names in
    ap (λ r. map (λ (k : Kind). k.name) (cons_option (result_ok r) rest)) here.leads
    ∙ ap (λ m. m ∷ map (λ (k : Kind). k.name) rest) here.named
    ∙ ap (λ ms. n ∷ ms) (kept_names types names (All-tail (HasKind types) n names all))

types_lead : (bundle : Stored) → IsFaultless bundle
    → All (HasKind (types_of bundle)) (listed_types (active_files bundle.files bundle.enabled))
types_lead bundle sound =
    let types = types_of bundle in
    All-weaker (λ name. type_fault (looks_in bundle).kinds name ≡ None) (HasKind types)
    (λ name none. let agree = types_agree bundle name in
    not_refused types name (kind_of types name) refl (sym agree.0 ∙ none) agree.1)
    (listed_types (active_files bundle.files bundle.enabled)) (no_type_faults bundle sound)

every_leads : (bundle : Stored) → IsFaultless bundle → All (HasKind (types_of bundle)) (data_types (listing bundle))
every_leads bundle sound =
    let P = HasKind (types_of bundle) in
    let types = (listing bundle).types in
    All-first_of_each P (λ n. n) (base_types ++ types)
    (All-append P base_types types (bases_lead (types_of bundle))
    (All-first_of_each P (λ n. n) (listed_types (active_files bundle.files bundle.enabled)) (types_lead bundle sound)))

pub has_every_kind : HasEveryKind
unfolding compilation schema_parts
has_every_kind bundle sound = kept_names (types_of bundle) (data_types (listing bundle)) (every_leads bundle sound)

-- ---- data types

base_named : (t x : List ℕ) → is_some (among x base_types) ≡ true → bytes_eq t x ≡ true
    → is_some (among t base_types) ≡ true
base_named t x there e = subst (λ n. is_some (among n base_types) ≡ true) (sym (same_bytes t x e)) there

base_among : (t : List ℕ) → is_base_type t ≡ true → is_some (among t base_types) ≡ true
base_among t =
    base_step t (codes "boolean_t") _ _ refl
    (base_step t (codes "string_t") _ _ refl
    (base_step t (codes "integer_t") _ _ refl
    (base_step t (codes "long_t") _ _ refl
    (base_step t (codes "float_t") _ _ refl
    (base_step t (codes "json_t") _ None refl (λ h. absurd (false≢true h)))))))
  where
    base_step : (t x : List ℕ) (base : Base) (rest : Option Base) → is_some (among x base_types) ≡ true
        → (is_some rest ≡ true → is_some (among t base_types) ≡ true)
        → is_some (if bytes_eq t x then Some base else rest) ≡ true → is_some (among t base_types) ≡ true
    base_step t x base rest there next =
        elim (bytes_eq t x) as (λ (b : Bool). bytes_eq t x ≡ b → is_some (if b then Some base else rest) ≡ true
        → is_some (among t base_types) ≡ true) [
          | true ↦ λ e h. base_named t x there e
          | false ↦ λ e h. next h
        ] refl

either_there : (a b : Option (List ℕ)) (c d : Bool) → (c ≡ true → is_some a ≡ true) → is_some b ≡ d → (c || d) ≡ true
    → is_some (option_or a b) ≡ true
either_there (Some x) b c d f g h = refl
either_there None b true d f g h = absurd (false≢true (f refl))
either_there None b false d f g h = g ∙ h

data_type_among : (bundle : Stored) (t : List ℕ) → is_data_type (looks_in bundle) t ≡ true
    → is_some (among t (data_types (listing bundle))) ≡ true
data_type_among bundle t e =
    let types = (listing bundle).types in
    ap is_some (at_name-first_of_each (λ n. n) t (base_types ++ types) ∙ at_name-append (λ n. n) t base_types types)
    ∙ either_there (among t base_types) (among t types) (is_base_type t) (is_there ((looks_in bundle).kinds t))
    (base_among t) (listed_is_there bundle t) e

kind_there : (bundle : Stored) → IsFaultless bundle → (t : List ℕ) → is_data_type (looks_in bundle) t ≡ true
    → IsThere (compilation bundle) (target.Simple t)
kind_there bundle sound t e =
    sym (among_some (λ (k : Kind). k.name) t (compilation bundle).kinds)
    ∙ ap (λ names. is_some (among t names)) (has_every_kind bundle sound)
    ∙ data_type_among bundle t e

-- ---- objects

abbrev shown_object : Looks → List ℕ → Bool
shown_object b name = is_shown b (exists_cell Object name)

object_found : (b : Looks) (names : List (List ℕ))
    → option_map (λ (k : Key). k.name) (option_and_then key_found (found b (map (exists_cell Object) names)))
    ≡ find (shown_object b) names
object_found b [] = refl
object_found b (n ∷ names) =
    elim (shown_object b n) as (λ (c : Bool).
    option_map (λ (k : Key). k.name)
    (option_and_then key_found (cond c (Some (exists_cell Object n)) (found b (map (exists_cell Object) names))))
    ≡ cond c (Some n) (find (shown_object b) names)) [
      | true ↦ refl
      | false ↦ object_found b names
    ]

find_passes : {X : Type 0} (p : X → Bool) (xs : List X) (x : X) → find p xs ≡ Some x → p x ≡ true
find_passes p [] x e = cc
find_passes p (y ∷ ys) x e =
    elim (p y) as (λ (b : Bool). p y ≡ b → cond b (Some y) (find p ys) ≡ Some x → p x ≡ true) [
      | true ↦ λ passes same. ap p (sym (ap (λ o. unwrap_or o y) same)) ∙ passes
      | false ↦ λ fails same. find_passes p ys x same
    ] refl e

is_shown_there : {X : Type 0} (xs : List X) → is_there (if is_there xs then There ∷ [] else []) ≡ is_there xs
is_shown_there [] = refl
is_shown_there (x ∷ xs) = refl

some_if : {X : Type 0} (b : Bool) (x : X) → is_some (if b then Some x else None) ≡ b
some_if true x = refl
some_if false x = refl

object_there : (bundle : Stored) (n : List ℕ) → shown_object (looks_in bundle) n ≡ true
    → IsThere (compilation bundle) (target.Object n)
unfolding compilation schema_parts item
object_there bundle n e =
    let b = looks_in bundle in
    let keys = (listing bundle).items in
    let k = key Object n in
    ap is_some (at_mapped (item b) (λ (i : Item). key_text i.key) (key_text k) keys)
    ∙ some_mapped (item b) (at_name key_text (key_text k) keys)
    ∙ ap is_some ((keys_of_items (active_files bundle.files bundle.enabled)).present k)
    ∙ some_if (is_there (b.items k)) k
    ∙ sym (is_shown_there (b.items k))
    ∙ e

-- ---- targets

module _ (bundle : Stored) (sound : IsFaultless bundle) where
  abbrev b : Looks
  b = looks_in bundle

  abbrev schema : SchemaParts
  schema = compilation bundle

  open_there : (t : List ℕ) → IsThere schema (unwrap_or (open_object t) target.Anything)
  open_there t =
      elim (is_open_object t) as
      (λ (c : Bool). IsThere schema (unwrap_or (if c then Some target.Anything else None) target.Anything))
      [ true ↦ tt | false ↦ tt ]

  object_or_open : (o : Option (List ℕ)) (t : List ℕ) → ((n : List ℕ) → o ≡ Some n → IsThere schema (target.Object n))
      → IsThere schema (unwrap_or (option_or (option_map target.Object o) (open_object t)) target.Anything)
  object_or_open None t there = open_there t
  object_or_open (Some n) t there = there n refl

  target_there : (ext : List ℕ) (t : TypeSaid) → IsThere schema (unwrap_or (target_named b ext t) target.Anything)
  target_there ext t =
      elim (is_data_type b t.name) as (λ (c : Bool). is_data_type b t.name ≡ c
      → IsThere schema (unwrap_or
      (if c then Some (target.Simple t.name)
      else option_or (option_map target.Object (object_named b ext t)) (open_object t.name)) target.Anything)) [
        | true ↦ λ e. kind_there bundle sound t.name e
        | false ↦ λ e. object_or_open (object_named b ext t) t.name
            (λ n same. object_there bundle n
            (find_passes (shown_object b) (object_candidates ext t) n
            (sym (object_found b (object_candidates ext t)) ∙ same)))
      ] refl

  said_there : (ext : List ℕ) (o : Option TypeSaid)
      → IsThere schema (unwrap_or (option_and_then (target_named b ext) o) target.Anything)
  said_there ext None = tt
  said_there ext (Some t) = target_there ext t

  row_there : (ext : List ℕ) (s : Spoken) → IsThere schema (unwrap_or (target_of b ext s) target.Anything)
  row_there ext s =
      let said = type_of (dict_said (b.dict s.attr.name)) s in
      elim (is_there (b.dict s.attr.name)) as (λ (c : Bool).
      IsThere schema (unwrap_or (if c then option_and_then (target_named b ext) said else None) target.Anything)) [
        | true ↦ said_there ext said
        | false ↦ tt
      ]

  item_there : (k : Key) → All (λ (attr : Attr). IsThere schema attr.target) (item b k).attrs
  unfolding item
  item_there k =
      All-map (λ (attr : Attr). IsThere schema attr.target) _ (table_of (layers b k))
      (all_of (λ s. IsThere schema (unwrap_or (target_of b (ext_of k.name) s) target.Anything))
      (row_there (ext_of k.name)) (table_of (layers b k)))

pub leads_into_schema : LeadsIntoSchema
unfolding compilation schema_parts
leads_into_schema bundle sound =
    let P : Item → Type 0 = λ i. All (λ attr. IsThere (compilation bundle) attr.target) i.attrs in
    All-map P (item (looks_in bundle)) (listing bundle).items
    (all_of (λ k. P (item (looks_in bundle) k)) (item_there bundle sound) (listing bundle).items)
