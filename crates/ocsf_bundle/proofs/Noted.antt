-- The least fault, one item after the other.
use Rattle.std.proofs.Common.{◌≡◌, ℕ, ◌+◌, ◌<◌, ◌≤◌, List, ◌∷◌, ◌++◌, length, get_or, drop, Option, Some, None, refl, sym, ◌∙◌, ap}
use Rattle.std.specs.List.{filter_map, cons_option, flat_map}
use Rattle.std.proofs.lemmas.List.{at_drop_more, at_drop_all}
use Rattle.std.proofs.lemmas.List.Elements.{filter_map-append}
use Rattle.ocsf_tree.specs.declared.fault.Fault.{Fault}
use Rattle.ocsf_tree.specs.LeastFault.{least_from}
use Rattle.ocsf_tree.proofs.LeastFaults.{least_from-append}
use Rattle.ocsf_bundle.specs.OwnFaults.{lesser_of}

pub least_from-cons : (least o : Option Fault) (fs : List Fault) → least_from least (cons_option o fs) ≡ least_from (lesser_of least o) fs
least_from-cons least None fs = refl
least_from-cons least (Some f) fs = refl

module _ {X : Type 0} (f : X → Option Fault) (xs : List X) where
  -- the least of the faults of the items that are left, and of the least so far
  abbrev pub left_of : Option Fault → ℕ → Option Fault
  left_of least i = least_from least (filter_map f (drop i xs))

  -- one item more
  pub noted : (start least next : Option Fault) (i : ℕ) (x : X) → i < length xs → x ≡ get_or xs i x → next ≡ lesser_of least (f x)
      → left_of least i ≡ start → left_of next (i + 1) ≡ start
  noted start least next i x h at is so_far =
      ap (λ o. left_of o (i + 1)) is
      ∙ sym (at_drop_more (λ ys. least_from least (filter_map f ys)) xs i x h
      ∙ ap (λ y. least_from least (filter_map f (y ∷ drop (i + 1) xs))) (sym at)
      ∙ least_from-cons least (f x) (filter_map f (drop (i + 1) xs)))
      ∙ so_far

  pub all_noted : (start least : Option Fault) (i : ℕ) → length xs ≤ i → left_of least i ≡ start → least ≡ start
  all_noted start least i h so_far = sym (at_drop_all (λ ys. least_from least (filter_map f ys)) xs i h) ∙ so_far

-- the faults of what each item gives, one item more
pub noted_each : {X Y : Type 0} (f : Y → Option Fault) (g : X → List Y) (xs : List X) (start least next : Option Fault) (i : ℕ) (x : X) → i < length xs → x ≡ get_or xs i x
    → next ≡ least_from least (filter_map f (g x)) → least_from least (filter_map f (flat_map g (drop i xs))) ≡ start → least_from next (filter_map f (flat_map g (drop (i + 1) xs))) ≡ start
noted_each f g xs start least next i x h at is so_far =
    let rest = flat_map g (drop (i + 1) xs) in
    ap (λ o. least_from o (filter_map f rest)) is
    ∙ sym (least_from-append least (filter_map f (g x)) (filter_map f rest))
    ∙ ap (least_from least) (sym (filter_map-append f (g x) rest))
    ∙ sym (at_drop_more (λ ys. least_from least (filter_map f (flat_map g ys))) xs i x h
    ∙ ap (λ y. least_from least (filter_map f (g y ++ rest))) (sym at))
    ∙ so_far

-- four lists of faults end to end
pub noted_in_turn : (a b c d : List Fault) → least_from (least_from (least_from (least_from None a) b) c) d ≡ least_from None (a ++ b ++ c ++ d)
noted_in_turn a b c d =
    ap (λ o. least_from (least_from o c) d) (sym (least_from-append None a b))
    ∙ ap (λ o. least_from o d) (sym (least_from-append None (a ++ b) c))
    ∙ sym (least_from-append None (a ++ b ++ c) d)
