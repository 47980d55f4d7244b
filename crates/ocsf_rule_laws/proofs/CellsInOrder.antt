-- What holds of the cells in order, each once, holds of all of them.
use Rattle.std.proofs.Common.{◌≡◌, ℕ, List, [], ◌∷◌, ◌++◌, refl, sym, ap, subst, arith, drop}
use Rattle.std.specs.Prelude.{codes, slice_index}
use Rattle.std.specs.List.{AllByRecursion}
use Rattle.std.specs.declared.cmp.Ordering.{Ordering}
use Rattle.std.specs.declared.cmp.Ordering.TheVariants.{Less, Equal, Greater}
use Rattle.std.specs.Ordering.{ordering_then}
use Rattle.std.specs.FinMap.Entries.{by_order}
use Rattle.ocsf_tree.specs.declared.key.Side.{Side}
use Rattle.ocsf_tree.specs.declared.key.Side.TheVariants.{Class, Object}
use Rattle.ocsf_tree.specs.declared.key.Key.{Key}
use Rattle.ocsf_tree.specs.Key.{key_text, side_text}
use Rattle.ocsf_lists.specs.ByName.{text_cmp}
use Rattle.ocsf_lists.proofs.NameLists.{same_text}
use Rattle.ocsf_bundle.specs.declared.cells.Cell.{Cell}
use Rattle.ocsf_bundle.specs.declared.cells.Cell.TheVariants as cell
use Rattle.ocsf_bundle.specs.CellOrder.{cell_cmp}
use Rattle.ocsf_rules.specs.InOrder.{put_in_order, in_order}

module _ {X : Type 0} (cmp : X → X → Ordering) (same : (x y : X) → cmp x y ≡ Equal → x ≡ y) (P : X → Type 0) where
  all_put : (x : X) (ys : List X) → AllByRecursion P (put_in_order cmp x ys) → P x × AllByRecursion P ys
  all_put x [] all = (all.0, tt)
  all_put x (y ∷ ys) all =
      elim (cmp x y) as (λ r. cmp x y ≡ r → AllByRecursion P (by_order r (x ∷ y ∷ ys) (y ∷ ys) (y ∷ put_in_order cmp x ys)) → P x × (P y × AllByRecursion P ys)) [
        | Less ↦ λ e a. (a.0, a.1)
        | Equal ↦ λ e a. (subst P (sym (same x y e)) a.0, a)
        | Greater ↦ λ e a. let rest = all_put x ys a.1 in (rest.0, (a.0, rest.1))
      ] refl all

  pub all_in_order : (xs : List X) → AllByRecursion P (in_order cmp xs) → AllByRecursion P xs
  all_in_order [] all = tt
  all_in_order (x ∷ xs) all = let both = all_put x (in_order cmp xs) all in (both.0, all_in_order xs both.1)

-- ---- cells that are in one place are one

first_letters : (n : ℕ) → n ≡ 99 → n ≡ 111 → ⊥
first_letters n c o = omega arith

by_side : (s t : Side) (m n : List ℕ) → side_text s ++ codes ":" ++ m ≡ side_text t ++ codes ":" ++ n → (λ (side : Side) (name : List ℕ). let k : Key = record { side = side; name = name } in k) s m ≡ (λ (side : Side) (name : List ℕ). let k : Key = record { side = side; name = name } in k) t n
by_side Class Class m n e = λ i. record { side = Class; name = drop 6 (e i) }
by_side Object Object m n e = λ i. record { side = Object; name = drop 7 (e i) }
by_side Class Object m n e = absurd (first_letters (slice_index (side_text Class ++ codes ":" ++ m) 0) refl (ap (λ s. slice_index s 0) e))
by_side Object Class m n e = absurd (first_letters (slice_index (side_text Object ++ codes ":" ++ m) 0) (ap (λ s. slice_index s 0) e) refl)

same_key : (j k : Key) → text_cmp (key_text j) (key_text k) ≡ Equal → j ≡ k
same_key j k e = by_side j.side k.side j.name k.name (same_text (key_text j) (key_text k) e)

both_equal : (r s : Ordering) → ordering_then r s ≡ Equal → (r ≡ Equal) × (s ≡ Equal)
both_equal Less s e = cc
both_equal Equal s e = (refl, e)
both_equal Greater s e = cc

pub same_cell : (x y : Cell) → cell_cmp x y ≡ Equal → x ≡ y
same_cell (cell.Item j) (cell.Item k) e = ap cell.Item (same_key j k e)
same_cell (cell.Exists j) (cell.Exists k) e = ap cell.Exists (same_key j k e)
same_cell (cell.Patches j) (cell.Patches k) e = ap cell.Patches (same_key j k e)
same_cell (cell.Profile p) (cell.Profile q) e = ap cell.Profile (same_text p q e)
same_cell (cell.Include from path) (cell.Include other_from other_path) e =
    let both = both_equal (text_cmp from other_from) (text_cmp path other_path) e in
    λ i. cell.Include (same_text from other_from both.0 i) (same_text path other_path both.1 i)
same_cell (cell.Dict name) (cell.Dict other) e = ap cell.Dict (same_text name other e)
same_cell (cell.Kind name) (cell.Kind other) e = ap cell.Kind (same_text name other e)
same_cell (cell.Category c) (cell.Category d) e = ap cell.Category (same_text c d e)
same_cell (cell.Ext name) (cell.Ext other) e = ap cell.Ext (same_text name other e)
same_cell x y e = cc
