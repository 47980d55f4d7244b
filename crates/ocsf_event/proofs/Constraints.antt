-- The constraints of an object.
use Rattle.std.proofs.Common.{◌≡◌, ℕ, length, List, [], ◌∷◌, ◌++◌, true, true≢false, ◌⊎◌, inl, inr, refl, sym, ◌∙◌, ap, subst, arith}
use Rattle.std.specs.Prelude.{filter, ◌&&◌, ◌==◌}
use Rattle.std.specs.List.{join_with_byte}
use Rattle.std.proofs.lemmas.List.{append_assoc}
use Rattle.std.proofs.lemmas.Bool.{eqb-true, eq-eqb}
use Rattle.ocsf_tree.specs.declared.tree.Member.{Member}
use Rattle.ocsf_schema.specs.declared.records.Attr.{Attr}
use Rattle.ocsf_schema.specs.declared.records.Item.{Item}
use Rattle.ocsf_lists.specs.Among.{is_among}
use Rattle.ocsf_event_rules.specs.Profiles.{is_in_force}
use Rattle.ocsf_event_rules.specs.Conditions.{listed_in_force, count_present, HasOneOrMore, HasJustOne}
use Rattle.ocsf_tree.specs.declared.place.Step.{Step}
use Rattle.ocsf_event.specs.declared.violation.Wrong.{Wrong}
use Rattle.ocsf_event.specs.declared.violation.Wrong.TheVariants as code
use Rattle.ocsf_event.specs.declared.violation.Violation.{Violation}
use Rattle.ocsf_event_rules.specs.Judged.{ItemObject}
use Rattle.ocsf_event_rules.specs.Violations.{comma}
use Rattle.ocsf_event.specs.ByCode.{IsWrongObject}
use Rattle.ocsf_event.specs.Gains.{Gains}
use Rattle.ocsf_event.specs.Walk.{IsThis, IsWrongWhole, IsTooFew, IsNotOne}
use Rattle.ocsf_event.proofs.Gains.{gains_alike}

module _ (profiles : List (List ℕ)) (object : ItemObject) (place : List Step) where
  abbrev Two : Violation → Type 0
  Two v = IsTooFew profiles object place v ⊎ IsNotOne profiles object place v

  to_two : (v : Violation) (c : Wrong) → v.code ≡ c → v.place.steps ≡ place → IsWrongObject profiles object c v.detail → Two v
  to_two v code.AtLeastOne is at w = inl (at, is, w)
  to_two v code.JustOne is at w = inr (at, is, w)
  to_two v c is at w = absurd w

  of_two : (v : Violation) → Two v → IsWrongWhole profiles object place v
  of_two v (inl w) = (w.0, subst (λ c. IsWrongObject profiles object c v.detail) (sym w.1) w.2)
  of_two v (inr w) = (w.0, subst (λ c. IsWrongObject profiles object c v.detail) (sym w.1) w.2)

  pub gains_whole : (old new : List Violation) → Gains Two old new → Gains (IsWrongWhole profiles object place) old new
  gains_whole old new g = gains_alike Two (IsWrongWhole profiles object place) old new of_two (λ v w. to_two v v.code refl w.0 w.1) g

  pub gains_too_few : (old new : List Violation) → (HasOneOrMore object.members (listed_in_force profiles object.item object.item.at_least_one) → ⊥)
      → Gains (IsThis place code.AtLeastOne (join_with_byte comma object.item.at_least_one)) old new → Gains (IsTooFew profiles object place) old new
  gains_too_few old new few g = gains_alike (IsThis place code.AtLeastOne (join_with_byte comma object.item.at_least_one)) (IsTooFew profiles object place) old new
      (λ v this. (this.where_it_is, this.what_it_is, (few, this.told_as)))
      (λ v w. record { where_it_is = w.0; what_it_is = w.1; told_as = w.2.1 }) g

  pub gains_not_one : (old new : List Violation) → (HasJustOne object.members (listed_in_force profiles object.item object.item.just_one) → ⊥)
      → Gains (IsThis place code.JustOne (join_with_byte comma object.item.just_one)) old new → Gains (IsNotOne profiles object place) old new
  gains_not_one old new many g = gains_alike (IsThis place code.JustOne (join_with_byte comma object.item.just_one)) (IsNotOne profiles object place) old new
      (λ v this. (this.where_it_is, this.what_it_is, (many, this.told_as)))
      (λ v w. record { where_it_is = w.0; what_it_is = w.1; told_as = w.2.1 }) g

pub too_few : (members : List Member) (listed : List Attr) → (length listed ≡ 0 → ⊥) → count_present members listed ≡ 0 → HasOneOrMore members listed → ⊥
too_few members [] some none has = some refl
too_few members (a ∷ rest) some none has = true≢false (sym (eq-eqb (count_present members (a ∷ rest)) 0 none) ∙ has)

pub not_one : (members : List Member) (listed : List Attr) → (length listed ≡ 0 → ⊥) → (count_present members listed ≡ 1 → ⊥) → HasJustOne members listed → ⊥
not_one members [] some many has = some refl
not_one members (a ∷ rest) some many has = many (eqb-true (count_present members (a ∷ rest)) 1 has)

pub join_more : (c : ℕ) (x : List ℕ) (xs : List (List ℕ)) (y : List ℕ) → join_with_byte c (x ∷ (xs ++ y ∷ [])) ≡ join_with_byte c (x ∷ xs) ++ c ∷ y
join_more c x [] y = refl
join_more c x (z ∷ zs) y = ap (λ (l : List ℕ). x ++ c ∷ l) (join_more c z zs y) ∙ sym (append_assoc x (c ∷ join_with_byte c (z ∷ zs)) (c ∷ y))

-- of no names none is listed
none_listed : (profiles : List (List ℕ)) (attrs : List Attr) → filter (λ (a : Attr). is_among a.name [] && is_in_force profiles a) attrs ≡ []
none_listed profiles [] = refl
none_listed profiles (a ∷ attrs) = none_listed profiles attrs

pub none_named : (profiles : List (List ℕ)) (item : Item) (names : List (List ℕ)) → (length names == 0) ≡ true → 0 ≡ length (listed_in_force profiles item names)
none_named profiles item [] e = sym (ap length (none_listed profiles item.attrs))
none_named profiles item (n ∷ ns) e = let none = eqb-true (length (n ∷ ns)) 0 e in absurd (omega (arith, none))
