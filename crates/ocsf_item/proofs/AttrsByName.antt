-- The attributes of an item stand by name, and their members by key.
use Rattle.std.proofs.Common.{◌≡◌, ℕ, zero, suc, List, [], ◌∷◌, ◌++◌, map, ◌&&◌, true, false, Option, Some, None, unwrap_or, if◌then◌else◌, refl, sym, ◌∙◌, ap, subst, arith}
use Rattle.std.specs.Prelude.{All, codes}
use Rattle.std.specs.Ordering.{is_lt}
use Rattle.std.specs.Str.{bytes_eq}
use Rattle.std.specs.FinMap.Entries.{below_all}
use Rattle.ocsf_tree.specs.declared.key.Key.{Key}
use Rattle.ocsf_tree.specs.declared.attribute.EnumMember.{EnumMember}
use Rattle.ocsf_lists.specs.ByName.{text_cmp, named, is_by_name, IsByName}
use Rattle.ocsf_lists.proofs.FirstOfEach.{IsByName-first_of_each}
use Rattle.ocsf_schema.specs.declared.records.Attr.{Attr}
use Rattle.ocsf_merge.specs.declared.spoken.Spoken.{Spoken}
use Rattle.ocsf_merge.specs.Table.{table_of}
use Rattle.ocsf_merge.proofs.TablesByName.{IsByName-table_of}
use Rattle.ocsf_bundle.specs.Looks.{Looks}
use Rattle.ocsf_rules.specs.declared.numbered.Numbered.{Numbered}
use Rattle.ocsf_rules.specs.Names.{ext_of}
use Rattle.ocsf_rules.specs.Chain.{layers}
use Rattle.ocsf_rules.specs.Attribute.{attr_of, members_of, dict_said}
use Rattle.ocsf_rules.specs.Compiled.{class_members, category_members, type_member, type_members, computed_members, computed, numbered, item}

abbrev AreByKey : List EnumMember → Type 0
AreByKey members = IsByName (λ m. m.key) members

computed_by_key : (n : Numbered) (name : List ℕ) (other : List EnumMember) → AreByKey other → AreByKey (unwrap_or (computed_members n name) other)
computed_by_key n name other by =
    elim (bytes_eq name (codes "class_uid")) as (λ t. AreByKey (unwrap_or (if t then Some (class_members n.number n.caption)
    else (if bytes_eq name (codes "category_uid") then Some (category_members n.category)
    else (if bytes_eq name (codes "type_uid") then Some (type_members n.number n.caption n.activities) else None))) other)) [
      | true ↦ refl
      | false ↦ elim (bytes_eq name (codes "category_uid")) as (λ t. AreByKey (unwrap_or (if t then Some (category_members n.category)
          else (if bytes_eq name (codes "type_uid") then Some (type_members n.number n.caption n.activities) else None)) other)) [
            | true ↦ refl
            | false ↦ elim (bytes_eq name (codes "type_uid")) as (λ t. AreByKey (unwrap_or (if t then Some (type_members n.number n.caption n.activities) else None) other)) [
              | true ↦ IsByName-first_of_each (λ m. m.key) (map (type_member n.number n.caption) n.activities)
              | false ↦ by
            ]
          ]
    ]

maybe_by_key : (n : Option Numbered) (name : List ℕ) (other : List EnumMember) → AreByKey other → AreByKey (unwrap_or (computed n name) other)
maybe_by_key None name other by = by
maybe_by_key (Some n) name other by = computed_by_key n name other by

module _ (b : Looks) (ext : List ℕ) (n : Option Numbered) where
  joined : Spoken → Attr
  joined s = attr_of b ext (computed n s.attr.name) s

  members_by_key : (s : Spoken) → AreByKey ((attr_of b ext (computed n s.attr.name) s).members)
  members_by_key s = maybe_by_key n s.attr.name (members_of (dict_said (b.dict s.attr.name)) s) (IsByName-first_of_each (λ m. m.key) (s.attr.members ++ (dict_said (b.dict s.attr.name)).members))

  pub all_by_key : (rows : List Spoken) → All (λ attr. AreByKey attr.members) (map (λ s. attr_of b ext (computed n s.attr.name) s) rows)
  all_by_key [] k d l = absurd (omega arith)
  all_by_key (s ∷ rows) zero d l = members_by_key s
  all_by_key (s ∷ rows) (suc k) d l = all_by_key rows k d (omega arith)

  same_below : (q : List ℕ) (rows : List Spoken) → below_all text_cmp q (named (λ (attr : Attr). attr.name) (map (λ s. attr_of b ext (computed n s.attr.name) s) rows)) ≡ below_all text_cmp q (named (λ s. s.attr.name) rows)
  same_below q [] = refl
  same_below q (s ∷ rows) = ap (λ t. is_lt (text_cmp q s.attr.name) && t) (same_below q rows)

  same_order : (rows : List Spoken) → is_by_name (λ (attr : Attr). attr.name) (map (λ s. attr_of b ext (computed n s.attr.name) s) rows) ≡ is_by_name (λ s. s.attr.name) rows
  same_order [] = refl
  same_order (s ∷ rows) = λ i. same_below s.attr.name rows i && same_order rows i

pub attrs_by_name : (b : Looks) (k : Key) (attrs : List Attr) → attrs ≡ (item b k).attrs → IsByName (λ (attr : Attr). attr.name) attrs
unfolding item
attrs_by_name b k attrs e = subst (λ (as' : List Attr). IsByName (λ (attr : Attr). attr.name) as') (sym e) (same_order b (ext_of k.name) (numbered b k) (table_of (layers b k)) ∙ IsByName-table_of (layers b k))

pub members_by_keys : (b : Looks) (k : Key) (attrs : List Attr) → attrs ≡ (item b k).attrs → All (λ attr. IsByName (λ m. m.key) attr.members) attrs
unfolding item
members_by_keys b k attrs e = subst (λ (as' : List Attr). All (λ attr. IsByName (λ m. m.key) attr.members) as') (sym e) (all_by_key b (ext_of k.name) (numbered b k) (table_of (layers b k)))
