-- A bundle has a verdict.
use Rattle.std.proofs.Common.{◌≡◌, ℕ, List, [], ◌∷◌, Option, Some, None, refl, ap, ◌⊎◌, inl, inr}
use Rattle.std.specs.Prelude.{IfSome, IsSome, IsSomeAnd}
use Rattle.std.proofs.lemmas.List.Elements.{All-nil, All-cons}
use Rattle.ocsf_tree.specs.declared.fault.Fault.{Fault}
use Rattle.ocsf_raw.specs.declared.dictionary.TypeEntry.{TypeEntry}
use Rattle.ocsf_bundle.specs.Stored.{Stored}
use Rattle.ocsf_pattern.specs.Readings.{IsRead, IsGood, IsBad}
use Rattle.ocsf_rules.specs.Verdict.{bundle_fault, types_of, HasReadPattern, pattern_refused, IsPatternVerdict, IsVerdictAfter, IsVerdict}
use Rattle.ocsf_pattern.proofs.Readings.{bad_is_not_good}

-- ---- one pattern

abbrev IsReadOrNotGood : Option (List ℕ) → Type 0
IsReadOrNotGood pattern = IfSome pattern IsRead ⊎ IsSomeAnd pattern (λ text. IsGood text → ⊥)

some_or_none : {X : Type 0} (o : Option X) → IsSome o ⊎ (o ≡ None)
some_or_none (Some x) = inl refl
some_or_none None = inr refl

read_or_bad : (text : List ℕ) → IsRead text ⊎ IsBad text
read_or_bad text = some_or_none _

read_or_not_good : (pattern : Option (List ℕ)) → IsReadOrNotGood pattern
read_or_not_good None = inl tt
read_or_not_good (Some text) = elim (read_or_bad text) [ inl here ↦ inl here | inr bad ↦ inr (bad_is_not_good text bad) ]

-- ---- the patterns of types

abbrev PatternsHave : List TypeEntry → Type 0
PatternsHave types = (verdict : Option Fault) × IsPatternVerdict types verdict

module _ (entry : TypeEntry) (types : List TypeEntry) where
  refused_here : IsSomeAnd entry.pattern (λ text. IsGood text → ⊥) → PatternsHave (entry ∷ types)
  refused_here pattern = (
    Some (pattern_refused entry),
    record {
      before = [];
      entry = entry;
      after = types;
      listed = refl;
      read = All-nil HasReadPattern;
      pattern = pattern;
      named = refl;
    },
  )

  one_more : HasReadPattern entry → (verdict : Option Fault) → IsPatternVerdict types verdict → PatternsHave (entry ∷ types)
  one_more here None rest = (None, All-cons HasReadPattern entry types here rest)
  one_more here (Some refused) rest = (
    Some refused,
    record {
      before = entry ∷ rest.before;
      entry = rest.entry;
      after = rest.after;
      listed = ap (λ xs. entry ∷ xs) rest.listed;
      read = All-cons HasReadPattern entry rest.before here rest.read;
      pattern = rest.pattern;
      named = rest.named;
    },
  )

of_patterns : (types : List TypeEntry) → PatternsHave types
of_patterns [] = (None, All-nil HasReadPattern)
of_patterns (entry ∷ types) =
    let rest = of_patterns types in
    elim (read_or_not_good entry.pattern) [
      | inl here ↦ one_more entry types here rest.0 rest.1
      | inr pattern ↦ refused_here entry types pattern
    ]

-- ---- the verdict

after_least : (least : Option Fault) (types : List TypeEntry) → (verdict : Option Fault) × IsVerdictAfter least types verdict
after_least (Some least) types = (Some least, refl)
after_least None types = of_patterns types

pub some_verdict : (bundle : Stored) → (v : Option Fault) × IsVerdict bundle v
some_verdict bundle = after_least (bundle_fault bundle) (types_of bundle)
