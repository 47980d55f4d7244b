-- What an edit says: a list of changes, each of exactly one kind.
use Rattle.std.specs.Prelude.{◌≡◌, ℕ, List, codes, true, Some, None, Result, Ok, Err, IsSomeAnd, ⊤}
use Rattle.std.specs.List.{AllZip}
use Rattle.ocsf_tree.specs.declared.tree.Tree.{Tree, out-Tree}
use Rattle.ocsf_tree.specs.declared.place.Step.{Step}
use Rattle.ocsf_tree.specs.Lookup.{member_at, items_of, text_at}
use Rattle.ocsf_tree.specs.Valid.{IsValid}
use Rattle.ocsf_raw.specs.declared.file_shape.RawError.{RawError}
use Rattle.ocsf_raw.specs.declared.file_shape.RawError.TheVariants as error
use Rattle.ocsf_raw.specs.Names.{is_name}
use Rattle.ocsf_raw.specs.Wanted.{kind_count}
use Rattle.ocsf_raw.specs.EditShape.{edit_faults, IsEditFault}
use Rattle.ocsf_bundle.specs.declared.edit.Change.{Change}
use Rattle.ocsf_bundle.specs.declared.edit.Change.TheVariants as change
use Rattle.ocsf_bundle.specs.declared.edit.Edit.{Edit}

-- the member of that name is that text, and the text is a name
abbrev pub IsNameAt : List ℕ → Tree → List ℕ → Type 0
IsNameAt member t name = (text_at member t ≡ Some name) × (is_name name ≡ true)

-- the members of an object say that change
abbrev pub SaysChange : Tree → Change → Type 0
SaysChange t (change.Put path tree) = (text_at (codes "put") t ≡ Some path) × (member_at (codes "body") t ≡ Some tree)
SaysChange t (change.Remove path) = text_at (codes "remove") t ≡ Some path
SaysChange t (change.Enable name) = IsNameAt (codes "enable") t name
SaysChange t (change.Disable name) = IsNameAt (codes "disable") t name

-- and none of another kind
pub record IsChange (t : Tree) (c : Change) : Type 0 where
  pub alone : kind_count (out-Tree t) ≡ 1
  pub said : SaysChange t c

-- the tree is the list of these changes
abbrev pub SaysEdit : Tree → Edit → Type 0
SaysEdit t edit = IsSomeAnd (items_of (out-Tree t)) (λ items. AllZip IsChange items edit.changes)

-- what is made of a tree: the edit that it says, or the first place at which it is none
abbrev pub IsEdit : Tree → Result Edit RawError → Type 0
IsEdit t (Ok edit) = SaysEdit t edit
IsEdit t (Err (error.Fault fault)) = IsEditFault t (Some fault)
IsEdit t (Err error.Memory) = ⊤

-- the tree that is put is valid
abbrev pub IsValidChange : Change → Type 0
IsValidChange (change.Put path tree) = IsValid tree
IsValidChange _ = ⊤

-- a tree is an edit exactly where no place has a fault, and then one edit
abbrev pub IsOneEdit : Tree → Type 0
IsOneEdit t = ((edit : Edit) → SaysEdit t edit → (place : List Step) → edit_faults t place ≡ None)
    × (((place : List Step) → edit_faults t place ≡ None) → (edit : Edit) × SaysEdit t edit)
    × ((a b : Edit) → SaysEdit t a → SaysEdit t b → a ≡ b)
