-- What is wrong with a value of a kind, from its base, its limits and its enumeration.
use Rattle.std.proofs.Common.{◌≡◌, ◌≢◌, true≢false, ℕ, List, [], ◌∷◌, Bool, true, false, Option, Some, None, ◌⊎◌, inl, inr, refl, sym, ◌∙◌, ap, subst}
use Rattle.std.specs.Prelude.{IsSomeAnd, IfSome, Contains}
use Rattle.std.proofs.lemmas.Option.{same_Some, slice_get_within, slice_get-get_or, get_or_from_slice_get}
use Rattle.ocsf_tree.specs.declared.tree.Tree.{Tree}
use Rattle.ocsf_tree.specs.declared.place.Step.{Step}
use Rattle.ocsf_schema.specs.declared.records.Attr.{Attr}
use Rattle.ocsf_schema.specs.declared.records.Kind.{Kind}
use Rattle.ocsf_schema.specs.declared.records.Limit.{Limit}
use Rattle.ocsf_schema.specs.declared.records.Target.TheVariants as target
use Rattle.ocsf_schema.specs.declared.parts.SchemaParts.{SchemaParts}
use Rattle.ocsf_event.specs.declared.violation.Wrong.{Wrong}
use Rattle.ocsf_event.specs.declared.violation.Wrong.TheVariants as code
use Rattle.ocsf_event.specs.declared.violation.Violation.{Violation}
use Rattle.ocsf_event_rules.specs.EventClass.{kind_named}
use Rattle.ocsf_event_rules.specs.Conditions.{IsOfBase, IsOfEnumeration, enum_key, is_key}
use Rattle.ocsf_tree.specs.declared.attribute.EnumMember.{EnumMember}
use Rattle.ocsf_event_rules.specs.Judged.{of_element}
use Rattle.ocsf_event_rules.specs.Violations.{IsWrongSingle}
use Rattle.ocsf_event.specs.ByCode.{IsLimitBroken, BreaksLimit, IsWrongValue}
use Rattle.ocsf_event.specs.Gains.{Gains}
use Rattle.ocsf_event.specs.Walk.{IsThis, IsWrongHere, IsBroken, InLimit, IsStrange, IsNoKeyHere, InKind}
use Rattle.ocsf_event.specs.declared.notes.Notes.{Notes}
use Rattle.ocsf_event.specs.Noted.{Noted}
use Rattle.ocsf_event.proofs.Gains.{gains_nothing, gains_alike}
use Rattle.ocsf_event.proofs.Noted.{noted_as, noted_both}

-- ---- a part of a limit

module _ (limit : Limit) (value : Tree) (place : List Step) (old new : List Violation) (c : Wrong) where
  pub gains_met : ((d : List ℕ) → IsLimitBroken limit value c d → ⊥) → Gains (IsBroken c limit value place) old old
  gains_met met = gains_nothing (IsBroken c limit value place) old (λ v w. met v.detail w.2)

  pub gains_broken : (detail : List ℕ) → ((d : List ℕ) → IsLimitBroken limit value c d → d ≡ detail) → IsLimitBroken limit value c detail
      → Gains (IsThis place c detail) old new → Gains (IsBroken c limit value place) old new
  gains_broken detail one broken g = gains_alike (IsThis place c detail) (IsBroken c limit value place) old new
      (λ v this. (this.where_it_is, this.what_it_is, subst (IsLimitBroken limit value c) (sym this.told_as) broken))
      (λ v w. record { where_it_is = w.0; what_it_is = w.1; told_as = one v.detail w.2 }) g

-- ---- a limit is its five parts

module _ (limit : Limit) (value : Tree) where
  abbrev Part : Wrong → List Step → Violation → Type 0
  Part c place v = IsBroken c limit value place v

  abbrev Two : List Step → Violation → Type 0
  Two place v = Part code.NotAnInstant place v ⊎ Part code.NotAValue place v

  abbrev Three : List Step → Violation → Type 0
  Three place v = Part code.Pattern place v ⊎ Two place v

  abbrev Four : List Step → Violation → Type 0
  Four place v = Part code.OutOfRange place v ⊎ Three place v

  abbrev Five : List Step → Violation → Type 0
  Five place v = Part code.TooLong place v ⊎ Four place v

  in_five : (place : List Step) (v : Violation) (c : Wrong) → v.code ≡ c → v.place.steps ≡ place → IsLimitBroken limit value c v.detail → Five place v
  in_five place v code.TooLong is at w = inl (at, is, w)
  in_five place v code.OutOfRange is at w = inr (inl (at, is, w))
  in_five place v code.Pattern is at w = inr (inr (inl (at, is, w)))
  in_five place v code.NotAnInstant is at w = inr (inr (inr (inl (at, is, w))))
  in_five place v code.NotAValue is at w = inr (inr (inr (inr (at, is, w))))
  in_five place v c is at w = absurd w

  of_part : (place : List Step) (v : Violation) (c : Wrong) → Part c place v → InLimit limit value place v
  of_part place v c w = (w.0, subst (λ k. IsLimitBroken limit value k v.detail) (sym w.1) w.2)

  of_five : (place : List Step) (v : Violation) → Five place v → InLimit limit value place v
  of_five place v (inl w) = of_part place v code.TooLong w
  of_five place v (inr (inl w)) = of_part place v code.OutOfRange w
  of_five place v (inr (inr (inl w))) = of_part place v code.Pattern w
  of_five place v (inr (inr (inr (inl w)))) = of_part place v code.NotAnInstant w
  of_five place v (inr (inr (inr (inr w)))) = of_part place v code.NotAValue w

  pub noted_limit : (a b c d e f : Notes) → Noted (Part code.TooLong) a b → Noted (Part code.OutOfRange) b c → Noted (Part code.Pattern) c d
      → Noted (Part code.NotAnInstant) d e → Noted (Part code.NotAValue) e f → Noted (InLimit limit value) a f
  noted_limit a b c d e f g h i j k = noted_as Five (InLimit limit value) a f of_five (λ place v w. in_five place v v.code refl w.0 w.1)
      (noted_both (Part code.TooLong) Four a b f g
      (noted_both (Part code.OutOfRange) Three b c f h
      (noted_both (Part code.Pattern) Two c d f i
      (noted_both (Part code.NotAnInstant) (Part code.NotAValue) d e f j k))))

-- ---- a value of a kind

module _ (schema : SchemaParts) (attr : Attr) (name : List ℕ) (value : Tree) (place : List Step) (named : attr.target ≡ target.Simple name) where
  abbrev Here_wrong : Violation → Type 0
  Here_wrong v = IsWrongHere schema (of_element attr value) place v

  abbrev Kinded : Option Kind → Wrong → List ℕ → Type 0
  Kinded kind c detail = IsSomeAnd kind (λ k. IsOfBase k.base value × ((limit : Limit) × Contains k.limits limit × IsLimitBroken limit value c detail))

  -- the parts at the name
  single_is : (detail : List ℕ) → IsWrongSingle schema attr.target value detail → (IsSomeAnd (kind_named schema name) (λ k. IsOfBase k.base value) → ⊥) × (detail ≡ name)
  single_is detail w = subst (λ t. IsWrongSingle schema t value detail) named w

  single_of : (detail : List ℕ) → (IsSomeAnd (kind_named schema name) (λ k. IsOfBase k.base value) → ⊥) × (detail ≡ name) → IsWrongSingle schema attr.target value detail
  single_of detail w = subst (λ t. IsWrongSingle schema t value detail) (sym named) w

  limit_is : (c : Wrong) (detail : List ℕ) → BreaksLimit schema attr.target value c detail → Kinded (kind_named schema name) c detail
  limit_is c detail w = subst (λ t. BreaksLimit schema t value c detail) named w

  limit_of : (c : Wrong) (detail : List ℕ) → Kinded (kind_named schema name) c detail → BreaksLimit schema attr.target value c detail
  limit_of c detail w = subst (λ t. BreaksLimit schema t value c detail) (sym named) w

  -- a value that isn't of the base, or whose type isn't there
  module _ (apart : IsSomeAnd (kind_named schema name) (λ k. IsOfBase k.base value) → ⊥) where
    no_base : (o : Option Kind) (c : Wrong) (detail : List ℕ) → (IsSomeAnd o (λ k. IsOfBase k.base value) → ⊥) → Kinded o c detail → ⊥
    no_base None c detail off w = w
    no_base (Some kind) c detail off w = off w.0

    base_wrong : (c : Wrong) (detail : List ℕ) → IsWrongValue schema (of_element attr value) c detail → (c ≡ code.WrongType) × (detail ≡ name)
    base_wrong code.WrongType detail w = (refl, (single_is detail w).1)
    base_wrong code.EnumUnknown detail w = absurd (w.2 name (single_of name (apart, refl)))
    base_wrong c detail w = absurd (no_base (kind_named schema name) c detail apart (limit_is c detail w))

    pub gains_base : (old new : List Violation) → Gains (IsThis place code.WrongType name) old new → Gains Here_wrong old new
    gains_base old new g = gains_alike (IsThis place code.WrongType name) Here_wrong old new
        (λ v this. (
          this.where_it_is,
          subst (λ c. IsWrongValue schema (of_element attr value) c v.detail) (sym this.what_it_is) (single_of v.detail (apart, this.told_as)),
        ))
        (λ v w. let parts = base_wrong v.code v.detail w.1 in record { where_it_is = w.0; what_it_is = parts.0; told_as = parts.1 }) g

  -- one of the base
  module _ (kind : Kind) (is : kind_named schema name ≡ Some kind) (based : IsOfBase kind.base value) where
    right : (detail : List ℕ) → IsWrongSingle schema attr.target value detail → ⊥
    right detail w = (single_is detail w).0 (subst (λ o. IsSomeAnd o (λ k. IsOfBase k.base value)) (sym is) based)

    in_two : (v : Violation) (c : Wrong) → v.code ≡ c → v.place.steps ≡ place → IsWrongValue schema (of_element attr value) c v.detail → InKind kind attr value place v
    in_two v code.WrongType coded at w = absurd (right v.detail w)
    in_two v code.EnumUnknown coded at w = inr (at, coded, w.0, w.1)
    in_two v c coded at w =
        let some = (subst (λ o. Kinded o c v.detail) is (limit_is c v.detail w)).1 in
        inl (record {
          at = some.1.0;
          item = some.0;
          found = slice_get-get_or kind.limits some.1.0 some.0 some.1.1 ∙ ap Some some.1.2;
          holds = (at, subst (λ k. IsLimitBroken some.0 value k v.detail) (sym coded) some.2);
        })

    of_two : (v : Violation) (c : Wrong) → v.code ≡ c → InKind kind attr value place v → Here_wrong v
    of_two v c coded (inr w) = (w.0, subst (λ k. IsWrongValue schema (of_element attr value) k v.detail) (sym w.1) (w.2, w.3, right))
    of_two v c coded (inl e) = (
      e.holds.0,
      subst (λ k. IsWrongValue schema (of_element attr value) k v.detail) (sym coded)
          (by_code c (subst (λ k. IsLimitBroken e.item value k v.detail) coded e.holds.1)),
    )
      where
        by_code : (c : Wrong) → IsLimitBroken e.item value c v.detail → IsWrongValue schema (of_element attr value) c v.detail
        by_code code.WrongType w = absurd w
        by_code code.EnumUnknown w = absurd w
        by_code c w = limit_of c v.detail (subst (λ o. Kinded o c v.detail) (sym is)
            (based, (e.item, (e.at, slice_get_within kind.limits e.at e.item e.found, get_or_from_slice_get kind.limits e.at e.item e.item e.found), w)))

    pub gains_kind : (old new : List Violation) → Gains (InKind kind attr value place) old new → Gains Here_wrong old new
    gains_kind old new g = gains_alike (InKind kind attr value place) Here_wrong old new (λ v w. of_two v v.code refl w) (λ v w. in_two v v.code refl w.0 w.1) g

-- ---- the enumeration

-- of an enumeration with members
pub no_key_of : (members : List EnumMember) (value : Tree) (word : List ℕ) → members ≢ [] → enum_key value ≡ Some word → is_key members word ≡ false → IsOfEnumeration members value → ⊥
no_key_of [] value word some is apart fits = some refl
no_key_of (m ∷ ms) value word some is apart fits = true≢false (sym (subst (λ o. IfSome o (λ n. is_key (m ∷ ms) n ≡ true)) is fits) ∙ apart)

pub key_of : (members : List EnumMember) (value : Tree) (word : List ℕ) → enum_key value ≡ Some word → is_key members word ≡ true → IsOfEnumeration members value
key_of [] value word is there = tt
key_of (m ∷ ms) value word is there = subst (λ o. IfSome o (λ n. is_key (m ∷ ms) n ≡ true)) (sym is) there

module _ (attr : Attr) (value : Tree) (place : List Step) (old new : List Violation) where
  module _ (word : List ℕ) (some : attr.members ≢ []) (is : enum_key value ≡ Some word) where
    strange : (b : Bool) (v : Violation) → is_key attr.members word ≡ b → IsNoKeyHere attr value place v → IsStrange attr.members word place v
    strange true v there w = absurd (w.2 (key_of attr.members value word is there))
    strange false v apart w = record {
      strange = apart;
      this = record { where_it_is = w.0; what_it_is = w.1; told_as = same_Some v.detail word (sym w.3 ∙ is) };
    }

    pub gains_word : Gains (IsStrange attr.members word place) old new → Gains (IsNoKeyHere attr value place) old new
    gains_word g = gains_alike (IsStrange attr.members word place) (IsNoKeyHere attr value place) old new
        (λ v w. (w.this.where_it_is, w.this.what_it_is, no_key_of attr.members value word some is w.strange, is ∙ ap Some (sym w.this.told_as)))
        (λ v w. strange (is_key attr.members word) v refl w) g

pub noted_strange : (members : List EnumMember) (word : List ℕ) (old new : Notes) → is_key members word ≡ false
    → Noted (λ place. IsThis place code.EnumUnknown word) old new → Noted (IsStrange members word) old new
noted_strange members word old new apart n = noted_as (λ place. IsThis place code.EnumUnknown word) (IsStrange members word) old new
    (λ place v this. record { strange = apart; this = this }) (λ place v w. w.this) n
