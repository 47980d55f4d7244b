-- The layers of the dictionaries, taken one after another.
use Rattle.std.proofs.Common.{◌≡◌, ℕ, zero, suc, ◌+◌, List, [], ◌∷◌, ◌++◌, take, map, reverse, Option, Some, None, refl, sym, ap, ◌∙◌, arith}
use Rattle.std.specs.Prelude.{flat_map, slice_get}
use Rattle.std.specs.Option.{IfSome, option_or, option_map, option_and_then}
use Rattle.std.proofs.lemmas.List.{reverse-append, take_all}
use Rattle.ocsf_tree.specs.declared.attribute.EnumMember.{EnumMember}
use Rattle.ocsf_tree.specs.Valid.{IsValidList}
use Rattle.ocsf_lists.specs.ByName.{put_by_name}
use Rattle.ocsf_lists.specs.FirstOfEach.{first_of_each}
use Rattle.ocsf_lists.proofs.FirstOfEach.{IsByName-first_of_each, first_of_each-by_name}
use Rattle.ocsf_lists.specs.Given.{first_given}
use Rattle.ocsf_lists.proofs.Givens.{last_given-push}
use Rattle.ocsf_raw.specs.declared.dictionary.DictEntry.{DictEntry}
use Rattle.ocsf_raw.specs.declared.dictionary.TypeEntry.{TypeEntry}
use Rattle.ocsf_raw.specs.Ordered.{IsByKey, IsSpanValid, IsTypeValid}
use Rattle.ocsf_bundle.specs.Shown.{Shown, Kind}
use Rattle.ocsf_bundle.specs.Looks.{DictOf, show_entry}
use Rattle.ocsf_rules.specs.Attribute.{type_said_in, dict_said}
use Rattle.ocsf_rules.specs.MergedDictionary.{entry_said, merged_layers}
use Rattle.ocsf_compiler.specs.Layers.{as_entry, as_type, entry_over, type_over}

module _ {X Y : Type 0} (show : X → Shown) (back : Shown → Option Y) (value : X → Y) (is : (x : X) → back (show x) ≡ Some (value x)) where
  -- where nothing is shown at a position, it is past the end
  taken_all : (xs : List X) (k : ℕ) → option_and_then back (slice_get (map show xs) k) ≡ None → take k xs ≡ xs
  taken_all [] k e = take_all k [] (omega arith)
  taken_all (x ∷ xs) zero e = let f = is x in cc
  taken_all (x ∷ xs) (suc k) e = ap (λ l. x ∷ l) (taken_all xs k e)

  record Taken (xs : List X) (k : ℕ) (y : Y) : Type 0 where
    pub item : X
    pub more : take (k + 1) xs ≡ take k xs ++ item ∷ []
    pub said : value item ≡ y

  some_same : (x : X) (y : Y) → back (show x) ≡ Some y → value x ≡ y
  some_same x y e = let f = is x in cc

  taken_more : (xs : List X) (k : ℕ) (y : Y) → option_and_then back (slice_get (map show xs) k) ≡ Some y → Taken xs k y
  taken_more [] k y e = cc
  taken_more (x ∷ xs) zero y e = record { item = x; more = refl; said = some_same x y e }
  taken_more (x ∷ xs) (suc k) y e =
      let rest = taken_more xs k y e in
      let one : suc k + 1 ≡ suc (k + 1) = omega arith in
      record { item = rest.item; more = ap (λ n. take n (x ∷ xs)) one ∙ ap (λ l. x ∷ l) rest.more; said = rest.said }

-- ---- attributes

-- what the dictionaries say of an attribute, the last layer first
abbrev said_by : List ℕ → List DictOf → DictEntry
said_by name ds = record {
  name = name;
  caption = first_given (λ d. d.entry.caption) ds;
  description = first_given (λ d. d.entry.description) ds;
  type_name = option_map (λ t. t.name) (first_given (λ d. type_said_in d.ext d.entry.type_name) ds);
  is_array = first_given (λ d. d.entry.is_array) ds;
  members = first_of_each (λ m. m.key) (flat_map (λ d. d.entry.members) ds);
  sibling = first_given (λ d. d.entry.sibling) ds;
}

-- the type that these layers give, the first of them first
abbrev type_names : List DictOf → Option (List ℕ)
type_names ds = option_map (λ t. t.name) (first_given (λ d. type_said_in d.ext d.entry.type_name) ds)

type_over_old : (from : List ℕ) (t : Option (List ℕ)) (ds : List DictOf)
    → option_map (λ s. s.name) (option_or (type_said_in from t) (first_given (λ d. type_said_in d.ext d.entry.type_name) ds)) ≡ option_or t (type_names ds)
type_over_old from None ds = refl
type_over_old from (Some name) ds = refl

members_over_old : (new old : List EnumMember) → first_of_each (λ m. m.key) (new ++ old) ≡ first_of_each (λ m. m.key) (new ++ first_of_each (λ m. m.key) old)
members_over_old [] old = sym (first_of_each-by_name (λ m. m.key) (first_of_each (λ m. m.key) old) (IsByName-first_of_each (λ m. m.key) old))
members_over_old (m ∷ new) old = ap (put_by_name (λ m. m.key) m) (members_over_old new old)

said_more : (name : List ℕ) (d : DictOf) (ds : List DictOf) → said_by name (d ∷ ds) ≡ entry_over d.entry (said_by name ds)
said_more name d ds =
    let after = said_by name (d ∷ ds) in
    let type_name = type_over_old d.ext d.entry.type_name ds in
    let members = members_over_old d.entry.members (flat_map (λ (x : DictOf). x.entry.members) ds) in
    λ i. record {
      name = name;
      caption = after.caption;
      description = after.description;
      type_name = type_name i;
      is_array = after.is_array;
      members = members i;
      sibling = after.sibling;
    }

-- a layer more is over those before it
pub entry-more : (name : List ℕ) (ds : List DictOf) (k : ℕ) (entry : DictEntry) → option_and_then as_entry (slice_get (map show_entry ds) k) ≡ Some entry
    → entry_said name (dict_said (take (k + 1) ds)) ≡ entry_over entry (entry_said name (dict_said (take k ds)))
entry-more name ds k entry e =
    let t = taken_more show_entry as_entry (λ d. d.entry) (λ d. refl) ds k entry e in
    ap (λ l. entry_said name (dict_said l)) t.more
    ∙ ap (said_by name) (reverse-append (take k ds) (t.item ∷ []))
    ∙ said_more name t.item (reverse (take k ds))
    ∙ ap (λ x. entry_over x (said_by name (reverse (take k ds)))) t.said

pub entries_taken : (ds : List DictOf) (k : ℕ) → option_and_then as_entry (slice_get (map show_entry ds) k) ≡ None → take k ds ≡ ds
entries_taken ds k e = taken_all show_entry as_entry (λ d. d.entry) (λ d. refl) ds k e

pub said_by_key : (name : List ℕ) (ds : List DictOf) → IsByKey (entry_said name (dict_said ds)).members
said_by_key name ds = IsByName-first_of_each (λ m. m.key) (dict_said ds).members

-- ---- types

layers_more : (name : List ℕ) (layers : List TypeEntry) (layer : TypeEntry) → merged_layers name (layers ++ layer ∷ []) ≡ type_over layer (merged_layers name layers)
layers_more name layers layer =
    let caption = last_given-push (λ (t : TypeEntry). t.caption) layers layer in
    let description = last_given-push (λ (t : TypeEntry). t.description) layers layer in
    let parent = last_given-push (λ (t : TypeEntry). t.parent) layers layer in
    let pattern = last_given-push (λ (t : TypeEntry). t.pattern) layers layer in
    let range = last_given-push (λ (t : TypeEntry). t.range) layers layer in
    let max_len = last_given-push (λ (t : TypeEntry). t.max_len) layers layer in
    let values = last_given-push (λ (t : TypeEntry). t.values) layers layer in
    λ i. record {
      name = name;
      caption = caption i;
      description = description i;
      parent = parent i;
      pattern = pattern i;
      range = range i;
      max_len = max_len i;
      values = values i;
    }

-- a layer more is over those before it
pub type-more : (name : List ℕ) (layers : List TypeEntry) (k : ℕ) (entry : TypeEntry) → option_and_then as_type (slice_get (map Kind layers) k) ≡ Some entry
    → merged_layers name (take (k + 1) layers) ≡ type_over entry (merged_layers name (take k layers))
type-more name layers k entry e =
    let t = taken_more Kind as_type (λ l. l) (λ l. refl) layers k entry e in
    ap (merged_layers name) t.more
    ∙ layers_more name (take k layers) t.item
    ∙ ap (λ x. type_over x (merged_layers name (take k layers))) t.said

pub types_taken : (layers : List TypeEntry) (k : ℕ) → option_and_then as_type (slice_get (map Kind layers) k) ≡ None → take k layers ≡ layers
types_taken layers k e = taken_all Kind as_type (λ l. l) (λ l. refl) layers k e

or_holds : {Y : Type 0} (P : Y → Type 0) (a b : Option Y) → IfSome a P → IfSome b P → IfSome (option_or a b) P
or_holds P None b ha hb = hb
or_holds P (Some y) b ha hb = ha

-- a type over another allows what is valid where both do
pub over_valid : (layer old : TypeEntry) → IsTypeValid layer → IsTypeValid old → IsTypeValid (type_over layer old)
over_valid layer old new before = (or_holds IsSpanValid layer.range old.range new.0 before.0, or_holds IsValidList layer.values old.values new.1 before.1)
