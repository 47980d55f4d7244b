-- What is wrong with an event as a whole.
use Rattle.std.proofs.Common.{◌≡◌, ℕ, ℤ, List, [], ◌∷◌, true, false, true≢false, refl, sym, ◌∙◌, ap, subst}
use Rattle.std.specs.Prelude.{Option, Some, None, IfSome, codes, unwrap_or}
use Rattle.std.specs.Option.{option_and_then}
use Rattle.std.specs.Fmt.{signed_decimal}
use Rattle.std.proofs.lemmas.Option.{none-some, same_Some}
use Rattle.ocsf_tree.specs.declared.tree.Tree.{Tree}
use Rattle.ocsf_tree.specs.declared.tree.Tree.TheVariants as tree
use Rattle.ocsf_tree.specs.declared.tree.Member.{Member}
use Rattle.ocsf_tree.specs.Lookup.{members_of, member_of, member_in, member_at}
use Rattle.ocsf_tree.proofs.WrittenOut.{out-Members}
use Rattle.ocsf_tree.specs.declared.place.Step.TheVariants.{Name}
use Rattle.ocsf_schema.specs.declared.parts.SchemaParts.{SchemaParts}
use Rattle.ocsf_event_rules.specs.Profiles.{as_text, as_list, is_profile, profile_list}
use Rattle.ocsf_event_rules.specs.EventClass.{as_object, whole_of}
use Rattle.ocsf_event_rules.specs.Conditions.{expected_type, DoNumbersAgree}
use Rattle.ocsf_event_rules.specs.Violations.{profile_place}
use Rattle.ocsf_event.specs.declared.violation.Wrong.TheVariants as code
use Rattle.ocsf_event.specs.declared.violation.Violation.{Violation}
use Rattle.ocsf_event.specs.declared.notes.Notes.{Notes}
use Rattle.ocsf_event.specs.Gains.{Gains}
use Rattle.ocsf_event.specs.Noted.{Noted}
use Rattle.ocsf_event.specs.Walk.{IsThis, IsMismatch, IsNoProfile, AreNoProfiles}
use Rattle.ocsf_event.proofs.Gains.{gains_nothing, gains_alike}

-- ---- the number of the type

module _ (number : ℕ) (members : List Member) where
  abbrev Agreeing : Option ℤ → Option ℤ → Type 0
  Agreeing type activity = IfSome type (λ given. IfSome activity (λ a. given ≡ expected_type number a))

  pub agree_untyped : whole_of (codes "type_uid") members ≡ None → DoNumbersAgree number members
  agree_untyped none = subst (λ t. Agreeing t (whole_of (codes "activity_id") members)) (sym none) tt

  pub agree_inactive : whole_of (codes "activity_id") members ≡ None → DoNumbersAgree number members
  agree_inactive none = subst (λ a. Agreeing (whole_of (codes "type_uid") members) a) (sym none) (either (whole_of (codes "type_uid") members))
    where
      either : (type : Option ℤ) → Agreeing type None
      either None = tt
      either (Some given) = tt

  module _ (given activity : ℤ) (typed : whole_of (codes "type_uid") members ≡ Some given)
      (active : whole_of (codes "activity_id") members ≡ Some activity) where
    pub agree_so : given ≡ expected_type number activity → DoNumbersAgree number members
    agree_so e = subst (λ t. Agreeing t (whole_of (codes "activity_id") members)) (sym typed)
        (subst (λ a. Agreeing (Some given) a) (sym active) e)

    pub agree_to : DoNumbersAgree number members → given ≡ expected_type number activity
    agree_to agree = subst (λ a. Agreeing (Some given) a) active
        (subst (λ t. Agreeing t (whole_of (codes "activity_id") members)) typed agree)

    pub gains_mismatch : (old new : List Violation) → (given ≡ expected_type number activity → ⊥)
        → Gains (IsThis (Name (codes "type_uid") ∷ []) code.NumberMismatch (signed_decimal (expected_type number activity))) old new
        → Gains (IsMismatch number members) old new
    gains_mismatch old new differ g = gains_alike
        (IsThis (Name (codes "type_uid") ∷ []) code.NumberMismatch (signed_decimal (expected_type number activity)))
        (IsMismatch number members) old new
        (λ v this. record { activity = activity; given = active; differ = λ agree. differ (agree_to agree); this = this })
        (λ v w. subst (λ a. IsThis (Name (codes "type_uid") ∷ []) code.NumberMismatch (signed_decimal (expected_type number a)) v)
        (same_Some w.activity activity (sym w.given ∙ active)) w.this) g

  pub gains_agreeing : (old : List Violation) → DoNumbersAgree number members → Gains (IsMismatch number members) old old
  gains_agreeing old agree = gains_nothing (IsMismatch number members) old (λ v w. w.differ agree)

-- ---- the profiles

module _ (schema : SchemaParts) (position : ℕ) (item : Tree) where
  pub gains_no_text : (old : List Violation) → as_text item ≡ None → Gains (IsNoProfile schema position item) old old
  gains_no_text old none =
      gains_nothing (IsNoProfile schema position item) old (λ v w. none-some w.profile (sym none ∙ w.text))

  module _ (profile : List ℕ) (text : as_text item ≡ Some profile) where
    pub gains_profile : (old : List Violation) → is_profile schema profile ≡ true → Gains (IsNoProfile schema position item) old old
    gains_profile old there = gains_nothing (IsNoProfile schema position item) old
        (λ v w. true≢false (sym there ∙ ap (is_profile schema) (same_Some profile w.profile (sym text ∙ w.text)) ∙ w.unknown))

    pub gains_no_profile : (old new : List Violation) → is_profile schema profile ≡ false
        → Gains (IsThis (profile_place position) code.ProfileUnknown profile) old new
        → Gains (IsNoProfile schema position item) old new
    gains_no_profile old new unknown g = gains_alike (IsThis (profile_place position) code.ProfileUnknown profile)
        (IsNoProfile schema position item) old new
        (λ v this. record { profile = profile; text = text; unknown = unknown; this = this })
        (λ v w. subst (λ p. IsThis (profile_place position) code.ProfileUnknown p v)
        (same_Some w.profile profile (sym w.text ∙ text)) w.this) g

pub gains_no_profiles : (schema : SchemaParts) (old : List Violation) → Gains (AreNoProfiles schema []) old old
gains_no_profiles schema old = gains_nothing (AreNoProfiles schema []) old (λ v e. none-some e.item e.found)

pub noted_no_profiles : (schema : SchemaParts) (notes : Notes) → Noted (λ place. AreNoProfiles schema []) notes notes
noted_no_profiles schema notes = record { gained = gains_no_profiles schema notes.found; stayed = refl }

-- ---- an event of these members

pub is_object : (members : List Member) → as_object (tree.Members members) ≡ Some members
is_object members = ap members_of (out-Members members)

pub event_list : (members : List Member) → profile_list (tree.Members members)
    ≡ unwrap_or (option_and_then as_list (option_and_then (member_at (codes "profiles")) (member_in (codes "metadata") members))) []
event_list members =
    ap (λ t. unwrap_or (option_and_then as_list (option_and_then (member_at (codes "profiles")) (member_of (codes "metadata") t))) []) (out-Members members)
