-- What constraints ask, by the attributes of a compiled item and by the files.
use Rattle.std.proofs.Common.{◌≡◌, ℕ, List, [], ◌∷◌, Bool, true, false, ◌&&◌, Option, Some, None, true≢false}
use Rattle.std.proofs.Common.{refl, sym, ◌∙◌, ap, subst}
use Rattle.std.specs.Prelude.{AllPairs, Contains, is_some, filter}
use Rattle.std.specs.Option.{option_map, option_map_or}
use Rattle.std.proofs.lemmas.Bool.{and_from, and_parts}
use Rattle.ocsf_lists.specs.Among.{is_among}
use Rattle.ocsf_lists.proofs.FirstOfEach.{name-at_name}
use Rattle.ocsf_tree.specs.declared.key.Key.{Key}
use Rattle.ocsf_tree.specs.declared.tree.Member.{Member}
use Rattle.ocsf_schema.specs.declared.records.Attr.{Attr}
use Rattle.ocsf_merge.specs.declared.spoken.Spoken.{Spoken}
use Rattle.ocsf_bundle.specs.Stored.{Stored}
use Rattle.ocsf_bundle.specs.Looks.{Looks}
use Rattle.ocsf_rules.specs.Compiled.{row_of, item}
use Rattle.ocsf_rules.specs.Verdict.{IsFaultless}
use Rattle.ocsf_event_rules.specs.Profiles.{is_in_force}
use Rattle.ocsf_event_rules.specs.EventClass.{value_of, attribute_named}
use Rattle.ocsf_event_rules.specs.Conditions.{is_present, listed_in_force, HasOneOrMore, HasJustOne}
use Rattle.ocsf_event_rules.proofs.Listed.{contains_none, here}
use Rattle.ocsf_event_laws.specs.FilesAllow.{looks_of, is_asked}
use Rattle.ocsf_event_laws.specs.FilesAllow as files
use Rattle.ocsf_event_laws.proofs.Found.{found_there, there_found, kept_back, kept_there, one_kept, kept_some}
use Rattle.ocsf_event_laws.proofs.Found.{just_kept}
use Rattle.ocsf_event_laws.proofs.Found.{kept_one, apart_by_name}
use Rattle.ocsf_event_laws.proofs.Sound.{attr_at, attributes, attributes_by_name, mapped_some}
use Rattle.std.specs.declared.cmp.Ordering.TheVariants.{Less}
use Rattle.std.proofs.lemmas.List.Kept.{AllPairs-filter}
use Rattle.ocsf_lists.specs.ByName.{text_cmp}

-- ---- of some attributes

abbrev name_of : Attr → List ℕ
name_of attr = attr.name

abbrev IsApart : List Attr → Type 0
IsApart attrs = AllPairs (λ y z. text_cmp (name_of y) (name_of z) ≡ Less) attrs

module _ (members : List Member) where
  more_back : (attrs : List Attr) (a : Attr) → Contains attrs a → HasOneOrMore members attrs
      → (one : Attr) × Contains attrs one × (is_present members one ≡ true)
  more_back [] a c more = absurd (contains_none a c)
  more_back (x ∷ xs) a c more = one_kept (is_present members) (x ∷ xs) more

  more_there : (attrs : List Attr)
      → ((a : Attr) → Contains attrs a → (one : Attr) × Contains attrs one × (is_present members one ≡ true))
      → HasOneOrMore members attrs
  more_there [] each = tt
  more_there (x ∷ xs) each =
      let one = each x (here x xs) in kept_some (is_present members) (x ∷ xs) one.0 one.1 one.2

  abbrev IsOnly : List Attr → Attr → Type 0
  IsOnly attrs one =
      (other : Attr) → Contains attrs other → is_present members other ≡ true → other.name ≡ one.name

  just_back : (attrs : List Attr) (a : Attr) → Contains attrs a → HasJustOne members attrs
      → (one : Attr) × Contains attrs one × (is_present members one ≡ true) × IsOnly attrs one
  just_back [] a c just = absurd (contains_none a c)
  just_back (x ∷ xs) a c just =
      let one = just_kept (is_present members) (x ∷ xs) just in (
        one.0,
        one.1,
        one.2,
        λ other d is. ap name_of (sym (one.3 other d is)),
      )

  just_there : (item_attrs : List Attr) (p : Attr → Bool) → IsApart item_attrs → (attrs : List Attr)
      → filter p item_attrs ≡ attrs
      → ((a : Attr) → Contains attrs a
      → (one : Attr) × Contains attrs one × (is_present members one ≡ true) × IsOnly attrs one)
      → HasJustOne members attrs
  just_there item_attrs p apart [] is each = tt
  just_there item_attrs p apart (x ∷ xs) is each =
      let one = each x (here x xs) in
      kept_one (is_present members) name_of (x ∷ xs) one.0
      (subst IsApart is (AllPairs-filter (λ y z. text_cmp (name_of y) (name_of z) ≡ Less) p item_attrs apart)) one.1
      one.2 one.3

-- ---- of an item, by names

module _ (bundle : Stored) (sound : IsFaultless bundle) (profiles : List (List ℕ)) (k : Key) (names : List (List ℕ))
    (members : List Member) where
  abbrev b : Looks
  b = looks_of bundle

  abbrev attrs : List Attr
  attrs = (item b k).attrs

  abbrev asked : List ℕ → Bool
  asked name = is_asked b profiles k names name

  abbrev listed : List Attr
  listed = listed_in_force profiles (item b k) names

  abbrev counts : Attr → Bool
  counts attr = is_among attr.name names && is_in_force profiles attr

  abbrev IsListedAs : List ℕ → Attr → Type 0
  IsListedAs name attr = Contains listed attr × (attr.name ≡ name)

  said_in_force : (row : Option Spoken) → option_map_or (files.is_in_force b profiles) row false ≡ true
      → (said : Spoken) × (row ≡ Some said) × (files.is_in_force b profiles said ≡ true)
  said_in_force None e = absurd (true≢false (sym e))
  said_in_force (Some said) e = (said, refl, e)

  asked_there : (name : List ℕ) → asked name ≡ true → (attr : Attr) × IsListedAs name attr
  asked_there name e =
      let parts = and_parts (is_among name names) _ e in
      let said = said_in_force (row_of b k name) parts.1 in
      let attr = attr_at bundle sound k said.0 in
      let found : attribute_named (item b k) name ≡ Some attr =
      attributes bundle sound k name ∙ ap (option_map (attr_at bundle sound k)) said.1 in
      let same : attr.name ≡ name = name-at_name name_of name attrs attr found in (
        attr,
        (
          kept_there counts attrs attr (found_there name_of name attrs attr found)
              (and_from (is_among attr.name names) (is_in_force profiles attr)
              (subst (λ n. is_among n names ≡ true) (sym same) parts.0) said.2),
          same,
        ),
      )

  asked_back : (attr : Attr) → Contains listed attr → asked attr.name ≡ true
  asked_back attr c =
      let kept = kept_back counts attrs attr c in
      let parts = and_parts (is_among attr.name names) (is_in_force profiles attr) kept.1 in
      let said =
      mapped_some (attr_at bundle sound k) (row_of b k attr.name) attr
      (sym (attributes bundle sound k attr.name)
      ∙ there_found name_of attrs attr (attributes_by_name bundle sound k) kept.0) in
      and_from (is_among attr.name names) _ parts.0
      (ap (λ o. option_map_or (files.is_in_force b profiles) o false) said.1
      ∙ ap (is_in_force profiles) said.2
      ∙ parts.1)

  abbrev is_given : List ℕ → Bool
  is_given name = is_some (value_of name members)

  pub more_to : HasOneOrMore members listed → files.HasOneOrMore asked members
  more_to more = λ name e.
      let attr = asked_there name e in let at = attr.1 in
      let one = more_back members listed attr.0 at.0 more in
      (one.0.name, asked_back one.0 one.1, one.2)

  pub more_from : files.HasOneOrMore asked members → HasOneOrMore members listed
  more_from more =
      more_there members listed (λ attr c.
      let name = more attr.name (asked_back attr c) in
      let one = asked_there name.0 name.1 in let at = one.1 in
      (one.0, at.0, subst (λ n. is_given n ≡ true) (sym at.1) name.2))

  pub just_to : HasJustOne members listed → files.HasJustOne asked members
  just_to just = λ name e.
      let attr = asked_there name e in let at = attr.1 in
      let one = just_back members listed attr.0 at.0 just in (
        one.0.name,
        asked_back one.0 one.1,
        one.2,
        λ other is given.
            let o = asked_there other is in let place = o.1 in
            sym place.1
            ∙ one.3 o.0 place.0 (subst (λ n. is_given n ≡ true) (sym place.1) given),
      )

  pub just_from : files.HasJustOne asked members → HasJustOne members listed
  just_from just =
      just_there members attrs counts (apart_by_name name_of attrs (attributes_by_name bundle sound k)) listed refl
      (λ attr c.
      let name = just attr.name (asked_back attr c) in
      let one = asked_there name.0 name.1 in let at = one.1 in (
        one.0,
        at.0,
        subst (λ n. is_given n ≡ true) (sym at.1) name.2,
        λ other d is. name.3 other.name (asked_back other d) is ∙ sym at.1,
      ))
