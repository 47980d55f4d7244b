-- The numbers and the computed enumerations of a class.
use Rattle.std.proofs.Common.{◌≡◌, ℕ, List, [], ◌∷◌, ◌++◌, ◌&&◌, true, false, Option, Some, None, if◌then◌else◌, refl, sym, ◌∙◌, ap}
use Rattle.std.specs.Prelude.{flat_map}
use Rattle.std.specs.Option.{option_map, option_and_then}
use Rattle.ocsf_tree.specs.declared.key.Key.{Key}
use Rattle.ocsf_tree.specs.declared.attribute.EnumMember.{EnumMember}
use Rattle.ocsf_tree.specs.declared.fault.Code.TheVariants as code
use Rattle.ocsf_tree.specs.Key.{key_text}
use Rattle.ocsf_kind.specs.Numbers.{class_uid}
use Rattle.ocsf_bundle.specs.Looks.{Looks}
use Rattle.ocsf_rules.specs.declared.category.Category.{Category}
use Rattle.ocsf_rules.specs.declared.numbered.Numbered.{Numbered}
use Rattle.ocsf_rules.specs.Names.{ext_of}
use Rattle.ocsf_rules.specs.Compiled.{uid, category, ext_uid, class_number, caption_or_key, activities, numbered}
use Rattle.ocsf_rules.specs.ItemFaults.{fault, is_small_decimal, activity_fault, activity_faults, activities_faults}
use Rattle.ocsf_walk.specs.Ranges.{are_small}
use Rattle.ocsf_walk.specs.Digits.{numbered_by}

pub number_is : (b : Looks) (k : Key) (ext : ℕ) (made : Option Category) (u : Option ℕ) → ext ≡ ext_uid b (ext_of k.name) → made ≡ category b k → u ≡ uid b k
    → option_and_then (λ u. option_map (λ (c : Category). class_uid ext c.uid u) made) u ≡ class_number b k
number_is b k ext made u e c n = λ i. option_and_then (λ u. option_map (λ (c : Category). class_uid (e i) c.uid u) (c i)) (n i)

-- where no activity is wrong, each is a number
small_activities : (k : Key) (ms : List EnumMember) → flat_map (activity_fault k) ms ≡ [] → are_small ms ≡ true
small_activities k [] e = refl
small_activities k (m ∷ ms) e =
    elim (is_small_decimal m.key) as (λ t. (if t then [] else fault code.EnumKey (key_text k) m.key ∷ []) ++ flat_map (activity_fault k) ms ≡ [] → (t && are_small ms) ≡ true) [
      | true ↦ λ f. small_activities k ms f
      | false ↦ λ f. cc
    ] e

module _ (b : Looks) (k : Key) (made : Option Numbered) (number : Option ℕ) (text : List ℕ) (cat : Option Category) (members : List EnumMember)
    (n : number ≡ class_number b k) (t : text ≡ caption_or_key b k) (c : cat ≡ category b k) (m : members ≡ activities b k) where
  same_numbered : numbered_by number text cat members ≡ numbered b k
  same_numbered = λ i. numbered_by (n i) (t i) (c i) (m i)

  pub numbered_is : (are_small members ≡ true → made ≡ numbered_by number text cat members) → (number ≡ None → made ≡ None) → activity_faults b k ≡ [] → made ≡ numbered b k
  numbered_is small none faultless =
      elim (uid b k) as (λ o. uid b k ≡ o → activities_faults k o (activities b k) ≡ [] → made ≡ numbered b k) [
        | None ↦ λ e f.
            let no_number : class_number b k ≡ None = ap (λ o. option_and_then (λ u. option_map (λ (d : Category). class_uid (ext_uid b (ext_of k.name)) d.uid u) (category b k)) o) e in
            none (n ∙ no_number) ∙ sym (ap (λ o. numbered_by o (caption_or_key b k) (category b k) (activities b k)) no_number)
        | Some u ↦ λ e f. small (ap (λ ms. are_small ms) m ∙ small_activities k (activities b k) f) ∙ same_numbered
      ] refl faultless
