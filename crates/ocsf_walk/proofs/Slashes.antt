-- A key without a slash is of core.
use Rattle.std.proofs.Common.{◌≡◌, ℕ, suc, ◌+◌, List, [], ◌∷◌, true, false, cond, not, ◌||◌, length, refl, sym, ap, arith, if◌then◌else◌}
use Rattle.std.specs.List.{position_or_len, before_first}
use Rattle.ocsf_raw.specs.Names.{is_slash}
use Rattle.ocsf_rules.specs.Names.{has_slash, ext_of}

lacks : (s : List ℕ) → position_or_len is_slash s ≡ length s → has_slash s ≡ false
lacks [] e = refl
lacks (x ∷ s) e =
    elim (is_slash x) as (λ t. cond (not t) (1 + position_or_len is_slash s) 0 ≡ suc (length s) → (t || has_slash s) ≡ false) [
      | true ↦ λ i. absurd (omega arith)
      | false ↦ λ i. lacks s (omega arith)
    ] e

pub of_core : (s : List ℕ) → position_or_len is_slash s ≡ length s → [] ≡ ext_of s
of_core s e = ap (λ t. if t then before_first is_slash s else []) (sym (lacks s e))
