-- For private clauses: what the steps of reading a folder give.
use Rattle.std.specs.Prelude.{◌≡◌, ℕ, ◌≤◌, List, filter, ⊤, Option, Some, None, Result, Ok, Err, IsErrOf, if◌then◌else◌}
use Rattle.ocsf_edge.specs.declared.fault.Fail.{Fail}
use Rattle.ocsf_edge.specs.declared.fault.Fail.TheVariants as fail
use Rattle.ocsf_edge.specs.declared.records.KeptFile.{KeptFile}
use Rattle.ocsf_edge.specs.Faults.{Rose}
use Rattle.ocsf_edge.specs.Folder.{IsListing}
use Rattle.ocsf_tree.specs.declared.fault.Fault.{Fault}
use Rattle.ocsf_raw.specs.declared.file_shape.RawError.{RawError}
use Rattle.ocsf_raw.specs.declared.file_shape.RawError.TheVariants as raw
use Rattle.ocsf_raw.specs.Forms.{has_form}
use Rattle.ocsf_bundle.specs.declared.stored.StoredFile.{StoredFile}
use Rattle.ocsf_bundle.specs.Stored.{Stored}
use Rattle.ocsf_bundle.specs.Listing.{in_byte_order}
use Rattle.ocsf_tool.specs.declared.folder_error.FolderError.{FolderError}
use Rattle.ocsf_tool.specs.declared.folder_error.FolderError.TheVariants.{Fault as Faulty, FolderFault, Memory}
use Rattle.ocsf_tool.specs.Folders.{AreFilesAt, IsFirstFileFault, IsCompiled, all_enabled}

abbrev pub of_fail : Fail → FolderError
of_fail fail.Failed = FolderFault
of_fail fail.Memory = Memory

abbrev pub of_raw : RawError → FolderError
of_raw (raw.Fault fault) = Faulty fault
of_raw raw.Memory = Memory

-- the folder fails only where its count rose in the call, and else the count is as it was
pub record HasFolderCause {T : Type 0} (before now : ℕ) (result : Result T FolderError) : Type 0 where
  pub later : before ≤ now
  pub failed : IsErrOf result FolderFault → Rose before now
  pub kept : ¬ IsErrOf result FolderFault → now ≡ before

-- the paths at which a file may stand
abbrev pub formed : List (List ℕ) → List (List ℕ)
formed listed = in_byte_order (filter has_form listed)

-- the path, where a file may stand there
abbrev pub if_formed : List ℕ → Option (List ℕ)
if_formed path = if has_form path then Some path else None

-- what holds of a value or of a fault holds of a call's answer; want of memory says nothing
abbrev pub IsMade : {A : Type 0} → (Result A Fault → Type 0) → Result A RawError → Type 0
IsMade Holds (Ok made) = Holds (Ok made)
IsMade Holds (Err (raw.Fault fault)) = Holds (Err fault)
IsMade Holds (Err raw.Memory) = ⊤

-- nor does a failed folder
abbrev pub IsGot : {A : Type 0} → (Result A Fault → Type 0) → Result A FolderError → Type 0
IsGot Holds (Ok made) = Holds (Ok made)
IsGot Holds (Err (Faulty fault)) = Holds (Err fault)
IsGot Holds (Err FolderFault) = ⊤
IsGot Holds (Err Memory) = ⊤

-- the files at these paths, or the first fault of one
abbrev pub AreFilesOrFault : List ℕ → List KeptFile → List (List ℕ) → Result (List StoredFile) Fault → Type 0
AreFilesOrFault dir lying paths (Ok files) = AreFilesAt dir lying paths files
AreFilesOrFault dir lying paths (Err fault) = IsFirstFileFault dir lying paths fault

-- the files of a folder, each of them without a fault
pub record IsBundleOf (dir : List ℕ) (lying : List KeptFile) (bundle : Stored) : Type 0 where
  pub listed : List (List ℕ)
  pub listing : IsListing dir lying listed
  pub files : List StoredFile
  pub are_files : AreFilesAt dir lying (formed listed) files
  pub all : bundle ≡ all_enabled files

abbrev pub IsBundleOrFault : List ℕ → List KeptFile → Result Stored Fault → Type 0
IsBundleOrFault dir lying (Ok bundle) = IsBundleOf dir lying bundle
IsBundleOrFault dir lying (Err fault) = IsCompiled dir lying (Err fault)
