-- What is noted, put together.
use Rattle.std.proofs.Common.{◌≡◌, ℕ, List, [], ◌∷◌, ◌++◌, ◌+◌, ◌⊎◌, length, Some, refl, sym, ◌∙◌, subst}
use Rattle.std.specs.Prelude.{slice_get, ◌≤◌}
use Rattle.ocsf_tree.specs.declared.place.Step.{Step}
use Rattle.ocsf_event.specs.declared.violation.Violation.{Violation}
use Rattle.ocsf_event.specs.declared.notes.Notes.{Notes}
use Rattle.ocsf_event.specs.Gains.{Gains, EachUpTo, Each}
use Rattle.ocsf_event.specs.Noted.{Noted, Entered, Left}
use Rattle.ocsf_event.proofs.Gains.{gains_nothing, gains_alike, gains_both, each_begins, each_more, each_ends}

-- nothing is wrong
pub noted_nothing : (P : List Step → Violation → Type 0) (notes : Notes) → ((v : Violation) → P notes.place.items v → ⊥) → Noted P notes notes
noted_nothing P notes none = record { gained = gains_nothing (P notes.place.items) notes.found none; stayed = refl }

-- the same under another description
pub noted_by : {P Q : List Step → Violation → Type 0} {old new : Notes}
    → (Gains (P old.place.items) old.found new.found → Gains (Q old.place.items) old.found new.found) → Noted P old new → Noted Q old new
noted_by f n = record { gained = f n.gained; stayed = n.stayed }

pub noted_as : (P Q : List Step → Violation → Type 0) (old new : Notes) → ((place : List Step) (v : Violation) → P place v → Q place v)
    → ((place : List Step) (v : Violation) → Q place v → P place v) → Noted P old new → Noted Q old new
noted_as P Q old new there back n = record {
  gained = gains_alike (P old.place.items) (Q old.place.items) old.found new.found (there old.place.items) (back old.place.items) n.gained;
  stayed = n.stayed;
}

-- one after the other
pub noted_both : (P Q : List Step → Violation → Type 0) (old mid new : Notes) → Noted P old mid → Noted Q mid new → Noted (λ place v. P place v ⊎ Q place v) old new
noted_both P Q old mid new n m = record {
  gained = gains_both (P old.place.items) (Q old.place.items) old.found mid.found new.found n.gained
      (subst (λ place. Gains (Q place) mid.found new.found) n.stayed m.gained);
  stayed = m.stayed ∙ n.stayed;
}

-- one step below
pub noted_below : (P : List Step → Violation → Type 0) (step : Step) (old mid after new : Notes) → Entered step old mid → Noted P mid after → Left after new
    → Noted (λ place. P (place ++ step ∷ [])) old new
noted_below P step old mid after new entered n left = record {
  gained =
      subst (λ place. Gains (P place) old.found new.found) entered.below
      (subst (λ found. Gains (P mid.place.items) found new.found) entered.kept
      (subst (λ found. Gains (P mid.place.items) mid.found found) (sym left.kept) n.gained));
  stayed = left.above old.place.items step (n.stayed ∙ entered.below);
}

module _ {Y : Type 0} (P : List Step → ℕ → Y → Violation → Type 0) (ys : List Y) where
  pub noted_begins : (notes : Notes) → Noted (λ place. EachUpTo 0 (P place) ys) notes notes
  noted_begins notes = record { gained = each_begins (P notes.place.items) ys notes.found; stayed = refl }

  pub noted_more : (count : ℕ) (y : Y) (old mid new : Notes) → slice_get ys count ≡ Some y
      → Noted (λ place. EachUpTo count (P place) ys) old mid → Noted (λ place. P place count y) mid new
      → Noted (λ place. EachUpTo (count + 1) (P place) ys) old new
  noted_more count y old mid new is n m = record {
    gained = each_more (P old.place.items) ys count y old.found mid.found new.found is n.gained
        (subst (λ place. Gains (P place count y) mid.found new.found) n.stayed m.gained);
    stayed = m.stayed ∙ n.stayed;
  }

  pub noted_ends : (count : ℕ) (old new : Notes) → length ys ≤ count → Noted (λ place. EachUpTo count (P place) ys) old new
      → Noted (λ place. Each (P place) ys) old new
  noted_ends count old new all n = record { gained = each_ends (P old.place.items) ys count old.found new.found all n.gained; stayed = n.stayed }
