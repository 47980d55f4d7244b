-- A bundle has one verdict, where each pattern is good or bad.
use Rattle.std.proofs.Common.{◌≡◌, ℕ, List, [], ◌∷◌, ◌++◌, true, Option, Some, None, ◌⊎◌, inl, inr, refl, sym, ◌∙◌, ap, subst}
use Rattle.std.specs.Prelude.{All, IfSome, IsSomeAnd, is_some, chars}
use Rattle.std.proofs.lemmas.List.Elements.{All-head, All-tail}
use Rattle.regex.specs.Patterns.{default_config}
use Rattle.regex_syntax.specs.Grammar.{read}
use Rattle.ocsf_tree.specs.declared.fault.Fault.{Fault}
use Rattle.ocsf_raw.specs.declared.dictionary.TypeEntry.{TypeEntry}
use Rattle.ocsf_pattern.specs.Readings.{IsRead, IsGood, IsBad}
use Rattle.ocsf_rules.specs.Verdict.{bundle_fault, types_of, HasReadPattern, pattern_refused, IsRefusal, IsPatternVerdict, AreDecided, IsVerdictAfter}
use Rattle.ocsf_rule_laws.specs.VerdictLaws.{HasOneVerdict}

-- ---- lists

module _ {X : Type 0} where
  head_or : X → List X → X
  head_or d [] = d
  head_or d (x ∷ xs) = x

  rest_of : List X → List X
  rest_of [] = []
  rest_of (x ∷ xs) = xs

  same_head : (x y : X) (xs ys : List X) → x ∷ xs ≡ y ∷ ys → x ≡ y
  unfolding head_or
  same_head x y xs ys e = ap (head_or x) e

  same_rest : (x y : X) (xs ys : List X) → x ∷ xs ≡ y ∷ ys → xs ≡ ys
  unfolding rest_of
  same_rest x y xs ys e = ap rest_of e

  module _ (P : X → Type 0) where
    of_all : (before : List X) (x : X) (after : List X) → All P (before ++ x ∷ after) → P x
    of_all [] x after all = All-head P x after all
    of_all (b ∷ bs) x after all = of_all bs x after (All-tail P b (bs ++ x ∷ after) all)

    -- two places of a list are one, or one of them is before the other
    two_places : (bs : List X) (x : X) (xs : List X) (cs : List X) (y : X) (ds : List X) → bs ++ x ∷ xs ≡ cs ++ y ∷ ds
        → (x ≡ y) ⊎ ((All P cs → P x) ⊎ (All P bs → P y))
    two_places [] x xs [] y ds e = inl (same_head x y xs ds e)
    two_places [] x xs (c ∷ cs) y ds e = inr (inl (λ all. subst P (sym (same_head x c xs (cs ++ y ∷ ds) e)) (All-head P c cs all)))
    two_places (b ∷ bs) x xs [] y ds e = inr (inr (λ all. subst P (same_head b y (bs ++ x ∷ xs) ds e) (All-head P b bs all)))
    two_places (b ∷ bs) x xs (c ∷ cs) y ds e = elim (two_places bs x xs cs y ds (same_rest b c (bs ++ x ∷ xs) (cs ++ y ∷ ds) e)) [
      | inl same ↦ inl same
      | inr (inl first) ↦ inr (inl (λ all. first (All-tail P c cs all)))
      | inr (inr second) ↦ inr (inr (λ all. second (All-tail P b bs all)))
    ]

-- ---- patterns

abbrev IsDecided : TypeEntry → Type 0
IsDecided entry = IfSome entry.pattern (λ text. IsGood text ⊎ IsBad text)

none_is_some : {X : Type 0} (o : Option X) → o ≡ None → is_some o ≡ true → ⊥
none_is_some None e h = cc
none_is_some (Some x) e h = cc

not_all : (pattern : Option (List ℕ)) → IfSome pattern (λ text. IsGood text ⊎ IsBad text) → IfSome pattern IsRead → IsSomeAnd pattern (λ text. IsGood text → ⊥) → ⊥
not_all None decided is_read refused = refused
not_all (Some text) (inl good) is_read refused = refused good
not_all (Some text) (inr bad) is_read refused = none_is_some (read default_config (chars text)) bad is_read

-- a type that is refused isn't read
not_read : (types : List TypeEntry) (f : Fault) → AreDecided types → (r : IsRefusal types f) → HasReadPattern r.entry → ⊥
not_read types f decided r is_read =
    not_all r.entry.pattern (of_all IsDecided r.before r.entry r.after (subst (All IsDecided) r.listed decided)) is_read r.pattern

one_of_patterns : (types : List TypeEntry) (v w : Option Fault) → AreDecided types → IsPatternVerdict types v → IsPatternVerdict types w → v ≡ w
one_of_patterns types None None decided x y = refl
one_of_patterns types None (Some g) decided x y = absurd (not_read types g decided y (of_all HasReadPattern y.before y.entry y.after (subst (All HasReadPattern) y.listed x)))
one_of_patterns types (Some f) None decided x y = absurd (not_read types f decided x (of_all HasReadPattern x.before x.entry x.after (subst (All HasReadPattern) x.listed y)))
one_of_patterns types (Some f) (Some g) decided x y =
    elim (two_places HasReadPattern x.before x.entry x.after y.before y.entry y.after (sym x.listed ∙ y.listed)) [
      | inl same ↦ ap Some (x.named ∙ ap pattern_refused same ∙ sym y.named)
      | inr (inl first) ↦ absurd (not_read types f decided x (first y.read))
      | inr (inr second) ↦ absurd (not_read types g decided y (second x.read))
    ]

one_after : (least : Option Fault) (types : List TypeEntry) (v w : Option Fault) → AreDecided types → IsVerdictAfter least types v → IsVerdictAfter least types w → v ≡ w
one_after None types v w decided x y = one_of_patterns types v w decided x y
one_after (Some least) types v w decided x y = x ∙ sym y

pub one_verdict : HasOneVerdict
one_verdict bundle v w decided x y = one_after (bundle_fault bundle) (types_of bundle) v w decided x y
