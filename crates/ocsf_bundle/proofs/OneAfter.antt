-- A tree says one edit or has one fault, and an edit leads to one bundle or has one fault.
use Rattle.std.proofs.Common.{◌≡◌, ◌≢◌, ℕ, ◌<◌, ◌≤◌, List, [], length, take, slice_index_or, IsSome, Option, Some, None, Result, Ok, Err, ◌⊎◌, inl, inr, refl, sym, ◌∙◌, ap, ap₂, subst, le_antisymm}
use Rattle.std.proofs.lemmas.Bool.{cases_lt}
use Rattle.ocsf_tree.specs.declared.tree.Tree.{Tree}
use Rattle.ocsf_tree.specs.declared.fault.Code.{Code}
use Rattle.ocsf_tree.specs.declared.fault.Fault.{Fault}
use Rattle.ocsf_raw.specs.declared.files.RawFile.{RawFile}
use Rattle.ocsf_raw.specs.declared.file_shape.RawError.{RawError}
use Rattle.ocsf_raw.specs.declared.file_shape.RawError.TheVariants as error
use Rattle.ocsf_raw.specs.declared.least_fault.Found.{Found}
use Rattle.ocsf_raw.specs.EditShape.{edit_faults, IsEditFault}
use Rattle.ocsf_raw.specs.FileShape.{shape_name}
use Rattle.ocsf_raw.proofs.OneShape.{none_some, one_least, one_shape}
use Rattle.ocsf_bundle.specs.declared.edit.Edit.{Edit}
use Rattle.ocsf_bundle.specs.declared.edit.Change.{Change}
use Rattle.ocsf_bundle.specs.declared.edit.Change.TheVariants as change
use Rattle.ocsf_bundle.specs.declared.stored.StoredFile.{StoredFile}
use Rattle.ocsf_bundle.specs.Edits.{SaysEdit, IsEdit}
use Rattle.ocsf_bundle.specs.After.{file_after, IsChangeFault, IsChangeFine, AreFine, IsFirstFault, IsAfter}
use Rattle.ocsf_bundle.specs.AfterLaws.{HasOneEdit, HasOneAfter}
use Rattle.ocsf_bundle.specs.Stored.{Stored}
use Rattle.ocsf_bundle.proofs.EditsRead.{one_edit}

abbrev failed : (A : Type 0) → RawError → Result A RawError
failed A e = Err e

module _ (A : Type 0) where
  ok_err : (x : A) (e : RawError) → Ok x ≡ failed A e → ⊥
  ok_err x e h = cc

  fault_memory : (f : Fault) → failed A (error.Fault f) ≡ failed A error.Memory → ⊥
  fault_memory f h = cc

  same_err : (f g : Fault) → failed A (error.Fault f) ≡ failed A (error.Fault g) → f ≡ g
  same_err f g h = cc

none_not : {X : Type 0} (o : Option X) → o ≡ None → IsSome o → ⊥
none_not None e h = cc
none_not (Some x) e h = cc

abbrev fault_of : Code → List ℕ → List ℕ → Fault
fault_of code subject name = record { code = code; subject = subject; name = name }

-- ---- what a tree says

module _ (tree : Tree) where
  said_or_faulty : (edit : Edit) (f : Fault) → SaysEdit tree edit → IsEditFault tree (Some f) → ⊥
  said_or_faulty edit f says (coded, bare, found, least, named) =
      none_some (edit_faults tree found.place.steps) found.what ((one_edit tree).0 edit says found.place.steps) least.there

  same_fault : (f g : Fault) → IsEditFault tree (Some f) → IsEditFault tree (Some g) → f ≡ g
  same_fault f g (coded, bare, found, least, named) (tagged, plain, seen, first, called) =
      let one = one_least (edit_faults tree) (Some found) (Some seen) least first in
      let alike : found ≡ seen = cc in
      ap₂ (λ (c : Code) (name : List ℕ). fault_of c f.subject name) (coded ∙ sym tagged) (named ∙ ap shape_name alike ∙ sym called)
      ∙ ap (λ (subject : List ℕ). fault_of g.code subject g.name) (bare ∙ sym plain)

  edit_by_case : (a b : Result Edit RawError) → IsEdit tree a → IsEdit tree b → a ≢ Err error.Memory → b ≢ Err error.Memory → a ≡ b
  edit_by_case (Ok x) (Ok y) a b n m = ap Ok ((one_edit tree).2 x y a b)
  edit_by_case (Ok x) (Err (error.Fault g)) a b n m = absurd (said_or_faulty x g a b)
  edit_by_case (Err (error.Fault f)) (Ok y) a b n m = absurd (said_or_faulty y f b a)
  edit_by_case (Err (error.Fault f)) (Err (error.Fault g)) a b n m = ap (λ (h : Fault). Err (error.Fault h)) (same_fault f g a b)
  edit_by_case (Err error.Memory) y a b n m = absurd (n refl)
  edit_by_case x (Err error.Memory) a b n m = absurd (m refl)

pub one_edit_or_fault : HasOneEdit
one_edit_or_fault tree a b x y n m = edit_by_case tree a b x y n m

-- ---- what changes lead to

module _ (before : List ℕ → Option StoredFile) where
  fine_or_faulty : (c : Change) (f : Fault) → IsChangeFine before c → IsChangeFault before c f → ⊥
  fine_or_faulty (change.Put path tree) f (raw, fine) faulty =
      ok_err RawFile raw (error.Fault f) (one_shape path tree (Ok raw) (Err (error.Fault f)) fine faulty (ok_err RawFile raw error.Memory) (fault_memory RawFile f))
  fine_or_faulty (change.Remove path) f fine (none, is) = none_not (before path) none fine
  fine_or_faulty (change.Enable name) f fine faulty = faulty
  fine_or_faulty (change.Disable name) f fine faulty = faulty

  one_fault : (c : Change) (f g : Fault) → IsChangeFault before c f → IsChangeFault before c g → f ≡ g
  one_fault (change.Put path tree) f g a b =
      same_err RawFile f g (one_shape path tree (Err (error.Fault f)) (Err (error.Fault g)) a b (fault_memory RawFile f) (fault_memory RawFile g))
  one_fault (change.Remove path) f g a b = a.1 ∙ sym b.1
  one_fault (change.Enable name) f g a b = absurd a
  one_fault (change.Disable name) f g a b = absurd a

some_change : Change
some_change = change.Enable []

module _ (files : List StoredFile) (changes : List Change) where
  -- a first fault isn't among fine changes
  beyond : (n : ℕ) (f : Fault) → AreFine files changes n → (first : IsFirstFault files changes f) → first.at < n → ⊥
  beyond n f fine first h =
      fine_or_faulty (file_after files (take first.at changes)) (slice_index_or changes first.at some_change) f (fine first.at some_change h) (first.faulty some_change)

  at_one : (f g : Fault) (a : IsFirstFault files changes f) (b : IsFirstFault files changes g) → a.at ≡ b.at → f ≡ g
  at_one f g a b same =
      one_fault (file_after files (take b.at changes)) (slice_index_or changes b.at some_change) f g
      (subst (λ (k : ℕ). IsChangeFault (file_after files (take k changes)) (slice_index_or changes k some_change) f) same (a.faulty some_change))
      (b.faulty some_change)

  one_first : (f g : Fault) → IsFirstFault files changes f → IsFirstFault files changes g → f ≡ g
  one_first f g a b = elim (cases_lt a.at b.at) [
    | inl less ↦ absurd (beyond b.at f b.fine a less)
    | inr more ↦ elim (cases_lt b.at a.at) [
      | inl less ↦ absurd (beyond a.at g a.fine b less)
      | inr least ↦ at_one f g a b (le_antisymm least more)
    ]
  ]

module _ (old : Stored) (changes : List Change) where
  after_by_case : (a b : Result Stored RawError) → IsAfter old changes a → IsAfter old changes b → a ≢ Err error.Memory → b ≢ Err error.Memory → a ≡ b
  after_by_case (Ok x) (Ok y) a b n m =
      ap₂ (λ (files : List StoredFile) (enabled : List (List ℕ)). Ok (record { files = files; enabled = enabled })) (a.1 ∙ sym b.1) (a.2 ∙ sym b.2)
  after_by_case (Ok x) (Err (error.Fault g)) a b n m = absurd (beyond old.files changes (length changes) g a.0 b b.within)
  after_by_case (Err (error.Fault f)) (Ok y) a b n m = absurd (beyond old.files changes (length changes) f b.0 a a.within)
  after_by_case (Err (error.Fault f)) (Err (error.Fault g)) a b n m = ap (λ (h : Fault). Err (error.Fault h)) (one_first old.files changes f g a b)
  after_by_case (Err error.Memory) y a b n m = absurd (n refl)
  after_by_case x (Err error.Memory) a b n m = absurd (m refl)

pub one_after : HasOneAfter
one_after old changes a b x y n m = after_by_case old changes a b x y n m
