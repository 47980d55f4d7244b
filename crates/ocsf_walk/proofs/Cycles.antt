-- The cycle that a chain runs into.
use Rattle.std.proofs.Common.{◌≡◌, ℕ, suc, ◌+◌, ◌-◌, ◌≤◌, List, [], ◌∷◌, true, false, length, take, drop, Option, Some, None, unwrap_or, if◌then◌else◌, ◌∙◌, ap, subst, arith}
use Rattle.std.specs.Prelude.{not, slice_index_or}
use Rattle.std.specs.List.{list_any, prefix_len, take_while}
use Rattle.ocsf_tree.specs.declared.key.Key.{Key}
use Rattle.ocsf_rules.specs.ItemFaults.{same_key, cycle_in}
use Rattle.ocsf_walk.proofs.Lists.{take_all}

abbrev pub len_of : Key → List Key → Option ℕ
len_of k ks = if list_any (same_key k) ks then Some (prefix_len (λ j. not (same_key k j)) ks + 1) else None

module _ (k : Key) (ks : List Key) where
  found : (len : ℕ) → Some len ≡ len_of k ks → take len (k ∷ ks) ≡ cycle_in (k ∷ ks)
  found len e =
      elim (list_any (same_key k) ks) as (λ t. Some len ≡ (if t then Some (prefix_len (λ j. not (same_key k j)) ks + 1) else None) → take len (k ∷ ks) ≡ (if t then k ∷ take_while (λ j. not (same_key k j)) ks else cycle_in ks)) [
        | true ↦ λ f.
            let n = prefix_len (λ j. not (same_key k j)) ks in
            let same : n + 1 ≡ suc n = omega arith in
            ap (λ m. take m (k ∷ ks)) (ap (λ o. unwrap_or o 0) f ∙ same)
        | false ↦ λ f. cc
      ] e

-- all but the first key, as a slice
abbrev pub rest_of : List Key → List Key
rest_of keys = take (length keys - 1) (drop 1 keys)

rest-cons : (j : Key) (ks : List Key) → rest_of (j ∷ ks) ≡ ks
rest-cons j ks = take_all ks (length (j ∷ ks) - 1) (omega arith)

pub cycle_found : (keys : List Key) (k : Key) (len : ℕ) → 1 ≤ length keys → k ≡ slice_index_or keys 0 k → Some len ≡ len_of k (rest_of keys) → take len keys ≡ cycle_in keys
cycle_found [] k len h is e = absurd (omega arith)
cycle_found (j ∷ ks) k len h is e = found j ks len (subst (λ x. Some len ≡ len_of x ks) is (subst (λ xs. Some len ≡ len_of k xs) (rest-cons j ks) e))
