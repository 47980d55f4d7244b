-- The chain, key by key.
use Rattle.std.proofs.Common.{◌≡◌, ℕ, zero, suc, ◌-◌, ◌<◌, List, [], ◌∷◌, ◌++◌, Option, Some, None, refl, sym, ◌∙◌, ap, arith, append_assoc, append-nil}
use Rattle.std.specs.Prelude.{flat_map}
use Rattle.ocsf_tree.specs.declared.key.Key.{Key}
use Rattle.ocsf_tree.specs.declared.fault.Fault.{Fault}
use Rattle.ocsf_tree.specs.LeastFault.{least_from, lesser_fault}
use Rattle.ocsf_bundle.specs.Looks.{Looks}
use Rattle.ocsf_bundle.specs.declared.cells.Cell.{Cell}
use Rattle.ocsf_rules.specs.Chain.{keys_up, from_there, parent, chain}
use Rattle.ocsf_rules.specs.ItemFaults.{parent_fault}
use Rattle.ocsf_rules.specs.Reads.{key_reads}

-- faults looked at one after another
pub least_from-append : (least : Option Fault) (fs gs : List Fault) → least_from least (fs ++ gs) ≡ least_from (least_from least fs) gs
least_from-append least [] gs = refl
least_from-append least (f ∷ fs) gs = least_from-append (lesser_fault least f) fs gs

keys-step : (n : ℕ) (b : Looks) (k : Key) (p : Option Key) → 0 < n → p ≡ parent b k → keys_up n b k ≡ k ∷ from_there (keys_up (n - 1) b) p
unfolding keys_up
keys-step zero b k p more is = absurd (omega arith)
keys-step (suc n) b k p more is =
    let same : suc n - 1 ≡ n = omega arith in
    ap (λ o. k ∷ from_there (keys_up n b) o) (sym is) ∙ ap (λ m. k ∷ from_there (keys_up m b) p) (sym same)

keys-end : (b : Looks) (k : Key) (n : ℕ) → n ≡ 0 → keys_up n b k ≡ []
unfolding keys_up
keys-end b k n e = ap (λ m. keys_up m b k) e

abbrev pub all_reads : Looks → List Key → List Cell
all_reads b keys = flat_map (key_reads b) keys

abbrev pub all_faults : Looks → List Key → List Fault
all_faults b keys = flat_map (parent_fault b) keys

-- the keys so far and those that are left, with the cells read and the faults met for them
pub record IsLeft (b : Looks) (start : Key) (before : List Cell) (n : ℕ) (now : Key) (keys : List Key) (reads : List Cell) (least : Option Fault) : Type 0 where
  pub keys_are : keys ++ keys_up n b now ≡ keys_up 33 b start
  pub reads_are : reads ++ all_reads b (keys_up n b now) ≡ before ++ all_reads b (keys_up 33 b start)
  pub least_is : least_from least (all_faults b (keys_up n b now)) ≡ least_from None (all_faults b (keys_up 33 b start))

pub at_start : (b : Looks) (start : Key) (before : List Cell) → IsLeft b start before 33 start [] before None
at_start b start before = record { keys_are = refl; reads_are = refl; least_is = refl }

module _ {b : Looks} {start : Key} {before : List Cell} {n : ℕ} {now : Key} {keys : List Key} {reads : List Cell} {least : Option Fault} (left : IsLeft b start before n now keys reads least) where
  pub one_up : (p : Key) (keys' : List Key) (reads' : List Cell) (least' : Option Fault) → 0 < n → Some p ≡ parent b now → keys' ≡ keys ++ now ∷ [] → reads' ≡ reads ++ key_reads b now → least' ≡ least_from least (parent_fault b now)
      → IsLeft b start before (n - 1) p keys' reads' least'
  one_up p keys' reads' least' more is ks rs fs =
      let step = keys-step n b now (Some p) more is in
      record {
        keys_are = ap (λ xs. xs ++ keys_up (n - 1) b p) ks ∙ append_assoc keys (now ∷ []) (keys_up (n - 1) b p) ∙ ap (λ xs. keys ++ xs) (sym step) ∙ left.keys_are;
        reads_are = ap (λ xs. xs ++ all_reads b (keys_up (n - 1) b p)) rs
            ∙ append_assoc reads (key_reads b now) (all_reads b (keys_up (n - 1) b p))
            ∙ ap (λ xs. reads ++ all_reads b xs) (sym step) ∙ left.reads_are;
        least_is = ap (λ o. least_from o (all_faults b (keys_up (n - 1) b p))) fs
            ∙ sym (least_from-append least (parent_fault b now) (all_faults b (keys_up (n - 1) b p)))
            ∙ ap (λ xs. least_from least (all_faults b xs)) (sym step) ∙ left.least_is;
      }

  module _ (more : 0 < n) (is : None ≡ parent b now) where
    top : keys_up n b now ≡ now ∷ []
    top = keys-step n b now None more is

    pub at_top_keys : (keys' : List Key) → keys' ≡ keys ++ now ∷ [] → keys' ≡ chain b start
    at_top_keys keys' ks = ks ∙ ap (λ xs. keys ++ xs) (sym top) ∙ left.keys_are

    pub at_top_reads : (reads' : List Cell) → reads' ≡ reads ++ key_reads b now → reads' ≡ before ++ all_reads b (chain b start)
    at_top_reads reads' rs =
        rs ∙ ap (λ xs. reads ++ xs) (sym (append-nil (key_reads b now))) ∙ ap (λ xs. reads ++ all_reads b xs) (sym top) ∙ left.reads_are

    pub at_top_least : (least' : Option Fault) → least' ≡ least_from least (parent_fault b now) → least' ≡ least_from None (all_faults b (chain b start))
    at_top_least least' fs =
        fs ∙ ap (least_from least) (sym (append-nil (parent_fault b now))) ∙ ap (λ xs. least_from least (all_faults b xs)) (sym top) ∙ left.least_is

  module _ (none : n ≡ 0) where
    pub no_keys_left : keys ≡ chain b start
    no_keys_left = sym (append-nil keys) ∙ ap (λ xs. keys ++ xs) (sym (keys-end b now n none)) ∙ left.keys_are

    pub no_reads_left : reads ≡ before ++ all_reads b (chain b start)
    no_reads_left = sym (append-nil reads) ∙ ap (λ xs. reads ++ all_reads b xs) (sym (keys-end b now n none)) ∙ left.reads_are

    pub no_faults_left : least ≡ least_from None (all_faults b (chain b start))
    no_faults_left = ap (λ xs. least_from least (all_faults b xs)) (sym (keys-end b now n none)) ∙ left.least_is
