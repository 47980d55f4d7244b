-- For private clauses: two lists by name, joined.
use Rattle.std.specs.Prelude.{ℕ, List, [], ◌∷◌, Option, Some, None}
use Rattle.std.specs.List.{cons_option}
use Rattle.std.specs.FinMap.Entries.{by_order}
use Rattle.ocsf_lists.specs.ByName.{text_cmp}

module _ {E R : Type 0} (entry_name : E → List ℕ) (row_name : R → List ℕ) (join : E → Option R → Option R) where
  -- the rows with one entry more
  abbrev pub with_entry : E → (List R → List R) → List R → List R
  with_entry entry rest [] = cons_option (join entry None) (rest [])
  with_entry entry rest (row ∷ rows) =
      by_order (text_cmp (entry_name entry) (row_name row))
      (cons_option (join entry None) (rest (row ∷ rows)))
      (cons_option (join entry (Some row)) (rest rows))
      (row ∷ with_entry entry rest rows)

  -- the entries joined to the rows: at the name of an entry stands what it and the row there make, and every
  -- other row stays
  abbrev pub merged : List E → List R → List R
  merged [] rows = rows
  merged (entry ∷ entries) rows = with_entry entry (merged entries) rows

-- the new one stands, whatever stood there
abbrev pub newer : {X : Type 0} → X → Option X → Option X
newer new old = Some new
