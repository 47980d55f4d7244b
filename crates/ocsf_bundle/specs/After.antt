-- The files and the enabled extensions after an edit, and the fault of an edit.
use Rattle.std.specs.Prelude.{◌≡◌, ℕ, ◌<◌, List, [], ◌∷◌, ◌++◌, length, take, map, slice_index_or, IsSome, ⊤, Option}
use Rattle.std.specs.Prelude.{Some, None, unwrap_or, Result, Ok, Err, if◌then◌else◌}
use Rattle.std.specs.Option.{option_map, option_or}
use Rattle.std.specs.List.{filter_map}
use Rattle.std.specs.Str.{bytes_eq}
use Rattle.ocsf_tree.specs.declared.tree.Tree.{Tree}
use Rattle.ocsf_tree.specs.declared.fault.Code.TheVariants as code
use Rattle.ocsf_tree.specs.declared.fault.Fault.{Fault}
use Rattle.ocsf_lists.specs.ByName.{at_name}
use Rattle.ocsf_lists.specs.FirstOfEach.{first_of_each}
use Rattle.ocsf_tree.specs.CompactText.{text}
use Rattle.ocsf_raw.specs.declared.files.RawFile.{RawFile}
use Rattle.ocsf_raw.specs.declared.file_shape.RawError.{RawError}
use Rattle.ocsf_raw.specs.declared.file_shape.RawError.TheVariants as error
use Rattle.ocsf_raw.specs.declared.path_form.Form.{Form}
use Rattle.ocsf_raw.specs.Forms.{form_of}
use Rattle.ocsf_raw.specs.Content.{content}
use Rattle.ocsf_raw.specs.FileShape.{IsShape}
use Rattle.ocsf_bundle.specs.declared.edit.Change.{Change}
use Rattle.ocsf_bundle.specs.declared.edit.Change.TheVariants as change
use Rattle.ocsf_bundle.specs.declared.stored.StoredFile.{StoredFile}
use Rattle.ocsf_bundle.specs.Stored.{Stored, stored_path}

-- ---- what a change says

-- the path or the name of which the change speaks
abbrev pub subject_of : Change → List ℕ
subject_of (change.Put path tree) = path
subject_of (change.Remove path) = path
subject_of (change.Enable name) = name
subject_of (change.Disable name) = name

abbrev pub file_of_form : List ℕ → Tree → Form → StoredFile
file_of_form path tree form = record { path = path; text = text tree; raw = content form tree }

-- the file that the tree makes at the path
abbrev pub stored_file : List ℕ → Tree → Option StoredFile
stored_file path tree = option_map (file_of_form path tree) (form_of path)

-- what is made of a tree at a path: the file, or why the tree is none
abbrev pub IsStoredAs : List ℕ → Tree → Result StoredFile RawError → Type 0
IsStoredAs path tree (Ok file) = IsShape path tree (Ok file.raw) × (stored_file path tree ≡ Some file)
IsStoredAs path tree (Err e) = IsShape path tree (Err e)

-- of files: a put says that this one stands at its path, a removal that none does
abbrev pub file_said : Change → Option (Option StoredFile)
file_said (change.Put path tree) = Some (stored_file path tree)
file_said (change.Remove path) = Some None
file_said _ = None

-- of the enabled names
abbrev pub name_said : Change → Option (Option (List ℕ))
name_said (change.Enable name) = Some (Some name)
name_said (change.Disable name) = Some None
name_said _ = None

-- ---- after an edit

abbrev pub last_of : {X : Type 0} → List X → Option X
last_of [] = None
last_of (x ∷ xs) = option_or (last_of xs) (Some x)

module _ {X : Type 0} (name : X → List ℕ) (said : Change → Option (Option X)) where
  -- what the change says of that subject
  abbrev pub said_of : List ℕ → Change → Option (Option X)
  said_of q c = if bytes_eq (subject_of c) q then said c else None

  -- what stands there after the changes: as the last one that speaks of it says, else as before
  abbrev pub stands_after : List X → List Change → List ℕ → Option X
  stands_after old changes q = unwrap_or (last_of (filter_map (said_of q) changes)) (at_name name q old)

  -- all that stands after the changes, in byte order
  abbrev pub all_after : List X → List Change → List X
  all_after old changes =
      filter_map (stands_after old changes) (first_of_each (λ q. q) (map name old ++ map subject_of changes))

abbrev pub file_after : List StoredFile → List Change → List ℕ → Option StoredFile
file_after = stands_after stored_path file_said

abbrev pub files_after : List StoredFile → List Change → List StoredFile
files_after = all_after stored_path file_said

abbrev pub enabled_after : List (List ℕ) → List Change → List (List ℕ)
enabled_after = all_after (λ name. name) name_said

-- ---- the fault of an edit

abbrev pub absent : List ℕ → Fault
absent path = record { code = code.Absent; subject = path; name = [] }

-- what is wrong with a change of the files that stand before it
abbrev pub IsChangeFault : (List ℕ → Option StoredFile) → Change → Fault → Type 0
IsChangeFault before (change.Put path tree) fault = IsShape path tree (Err (error.Fault fault))
IsChangeFault before (change.Remove path) fault = (before path ≡ None) × (fault ≡ absent path)
IsChangeFault before _ fault = ⊥

-- nothing is wrong with it
abbrev pub IsChangeFine : (List ℕ → Option StoredFile) → Change → Type 0
IsChangeFine before (change.Put path tree) = (raw : RawFile) × IsShape path tree (Ok raw)
IsChangeFine before (change.Remove path) = IsSome (before path)
IsChangeFine before _ = ⊤

-- nothing is wrong with the first `n` changes
abbrev pub AreFine : List StoredFile → List Change → ℕ → Type 0
AreFine files changes n =
    (k : ℕ) (d : Change) → k < n → IsChangeFine (file_after files (take k changes)) (slice_index_or changes k d)

-- the fault of the first change that has one
pub record IsFirstFault (files : List StoredFile) (changes : List Change) (fault : Fault) : Type 0 where
  pub at : ℕ
  pub within : at < length changes
  pub fine : AreFine files changes at
  pub faulty : (d : Change) → IsChangeFault (file_after files (take at changes)) (slice_index_or changes at d) fault

-- what is made of files and enabled names by an edit
abbrev pub IsAfter : Stored → List Change → Result Stored RawError → Type 0
IsAfter old changes (Ok new) =
    AreFine old.files changes (length changes) × (new.files ≡ files_after old.files changes)
    × (new.enabled ≡ enabled_after old.enabled changes)
IsAfter old changes (Err (error.Fault fault)) = IsFirstFault old.files changes fault
IsAfter old changes (Err error.Memory) = ⊤

-- what comes of one change of the files that stand before it
abbrev pub IsChangeOutcome : (List ℕ → Option StoredFile) → Change → Result (Unit {0}) RawError → Type 0
IsChangeOutcome before c (Ok done) = IsChangeFine before c
IsChangeOutcome before c (Err (error.Fault fault)) = IsChangeFault before c fault
IsChangeOutcome before c (Err error.Memory) = ⊤

-- what comes of all changes of the files
abbrev pub IsFilesOutcome : List StoredFile → List Change → Result (List StoredFile) RawError → Type 0
IsFilesOutcome old changes (Ok new) = AreFine old changes (length changes) × (new ≡ files_after old changes)
IsFilesOutcome old changes (Err (error.Fault fault)) = IsFirstFault old changes fault
IsFilesOutcome old changes (Err error.Memory) = ⊤
