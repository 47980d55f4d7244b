-- A folder: its files, and the schema or the fault that they come to; and the output of the command `compile`.
use Rattle.std.specs.Prelude.{
  ◌≡◌,
  ℕ,
  ◌≤◌,
  ◌<◌,
  ◌^◌,
  ◌⊎◌,
  List,
  [],
  ◌∷◌,
  ◌++◌,
  length,
  map,
  filter,
  All,
  Bool,
  codes,
  is_err,
  Option,
  Some,
  None,
  Result,
  Ok,
  Err,
}
use Rattle.std.specs.Option.{option_map}
use Rattle.std.specs.List.{filter_map}
use Rattle.std.specs.Io.KnownBytes.{Appends}
use Rattle.ocsf_edge.specs.declared.records.KeptFile.{KeptFile}
use Rattle.ocsf_edge.specs.Folder.{IsListing, body_at}
use Rattle.ocsf_tree.specs.declared.tree.Tree.{Tree}
use Rattle.ocsf_tree.specs.declared.fault.Code.{Code}
use Rattle.ocsf_tree.specs.declared.fault.Code.TheVariants as code
use Rattle.ocsf_tree.specs.declared.fault.Fault.{Fault}
use Rattle.ocsf_tree.specs.declared.reader.TreeError.{TreeError}
use Rattle.ocsf_tree.specs.declared.reader.TreeError.TheVariants.{NotJson, NumberNotWhole, Memory}
use Rattle.ocsf_tree.specs.CompactText.{text}
use Rattle.ocsf_tree.specs.Place.{pointer_text}
use Rattle.ocsf_tree.specs.Reading.{IsReading}
use Rattle.ocsf_raw.specs.declared.file_shape.RawError.TheVariants as error
use Rattle.ocsf_raw.specs.Forms.{has_form}
use Rattle.ocsf_schema.specs.declared.parts.SchemaParts.{SchemaParts}
use Rattle.ocsf_schema.specs.Schema.{schema_text}
use Rattle.ocsf_bundle.specs.declared.stored.StoredFile.{StoredFile}
use Rattle.ocsf_bundle.specs.Stored.{Stored, stored_path}
use Rattle.ocsf_bundle.specs.Active.{extension_said}
use Rattle.ocsf_bundle.specs.After.{IsStoredAs}
use Rattle.ocsf_bundle.specs.Listing.{in_byte_order}
use Rattle.ocsf_rules.specs.Compilation.{compilation}
use Rattle.ocsf_rules.specs.Verdict.{IsVerdict}
use Rattle.ocsf_tool.specs.Edits.{refused_tree}

-- ---- one file

-- a fault of the file at a path
abbrev pub file_fault : Code → List ℕ → List ℕ → Fault
file_fault code path name = record { code = code; subject = path; name = name }

-- what is made of a tree at a path: the file, or its fault
abbrev pub IsShapedAs : List ℕ → Tree → Result StoredFile Fault → Type 0
IsShapedAs path tree (Ok file) = IsStoredAs path tree (Ok file)
IsShapedAs path tree (Err fault) = IsStoredAs path tree (Err (error.Fault fault))

-- of what a text reads as
abbrev pub IsReadAs : List ℕ → Result Tree TreeError → Result StoredFile Fault → Type 0
IsReadAs path (Ok tree) made = IsShapedAs path tree made
IsReadAs path (Err NotJson) made = made ≡ Err (file_fault code.NotJson path [])
IsReadAs path (Err (NumberNotWhole place)) made =
    made ≡ Err (file_fault code.NumberNotWhole path (pointer_text place.steps))
IsReadAs path (Err Memory) made = ⊥

pub record IsWritten (path bytes : List ℕ) (made : Result StoredFile Fault) : Type 0 where
  pub reading : Result Tree TreeError
  pub reads : IsReading bytes reading
  pub says : IsReadAs path reading made

-- the most bytes of a file as it lies: 4 MiB
abbrev pub max_file : ℕ
max_file = 2 ^ 22

-- what is made of the bytes at a path; a longer file is refused unread
pub record IsFile (path bytes : List ℕ) (made : Result StoredFile Fault) : Type 0 where
  pub long : max_file < length bytes → made ≡ Err (file_fault code.Limit path (codes "file"))
  pub short : length bytes ≤ max_file → IsWritten path bytes made

-- ---- the files of a folder

-- the file is made of the bytes at its path
abbrev pub IsFileOf : List ℕ → List KeptFile → StoredFile → Type 0
IsFileOf dir lying file = IsFile file.path (body_at dir file.path lying) (Ok file)

-- the files at these paths, each of them without a fault
pub record AreFilesAt (dir : List ℕ) (lying : List KeptFile) (paths : List (List ℕ))
    (files : List StoredFile) : Type 0 where
  pub paths_of : map stored_path files ≡ paths
  pub each : All (IsFileOf dir lying) files

-- the first of these paths with a fault has this one: the files before it have none
pub record IsFirstFileFault (dir : List ℕ) (lying : List KeptFile) (paths : List (List ℕ))
    (fault : Fault) : Type 0 where
  pub before : List StoredFile
  pub path : List ℕ
  pub after : List (List ℕ)
  pub stands : map stored_path before ++ path ∷ after ≡ paths
  pub each : All (IsFileOf dir lying) before
  pub faulty : IsFile path (body_at dir path lying) (Err fault)

-- the name of the extension that the file describes
abbrev pub extension_name : StoredFile → Option (List ℕ)
extension_name file = option_map (λ ext. ext.name) (extension_said file.raw)

-- the files, with every extension enabled that they have
abbrev pub all_enabled : List StoredFile → Stored
all_enabled files = record { files = files; enabled = in_byte_order (filter_map extension_name files) }

-- what files come to: their schema exactly where they have no fault, or their fault
abbrev pub AreCompiledAs : Stored → Result SchemaParts Fault → Type 0
AreCompiledAs bundle (Ok schema) = IsVerdict bundle None × (schema ≡ compilation bundle)
AreCompiledAs bundle (Err fault) = IsVerdict bundle (Some fault)

-- what paths come to: the first fault of a file, or else what the files come to together
abbrev pub ArePathsCompiled : List ℕ → List KeptFile → List (List ℕ) → Result SchemaParts Fault → Type 0
ArePathsCompiled dir lying paths made =
    ((fault : Fault) × IsFirstFileFault dir lying paths fault × (made ≡ Err fault))
    ⊎ ((files : List StoredFile) × AreFilesAt dir lying paths files × AreCompiledAs (all_enabled files) made)

-- What a folder comes to. Of the paths below it those count at which a file of a schema may stand, in byte order.
pub record IsCompiled (dir : List ℕ) (lying : List KeptFile) (made : Result SchemaParts Fault) : Type 0 where
  pub listed : List (List ℕ)
  pub listing : IsListing dir lying listed
  pub compiled : ArePathsCompiled dir lying (in_byte_order (filter has_form listed)) made

-- ---- the output

-- the printed schema, or the line that refuses the folder
abbrev pub compile_text : Result SchemaParts Fault → List ℕ
compile_text (Ok schema) = schema_text schema
compile_text (Err fault) = text (refused_tree fault) ++ 10 ∷ []

-- The whole output of `compile` over a folder. Tells whether it was refused.
pub record CompileOutput (dir : List ℕ) (lying : List KeptFile) (out : List ℕ) (is_refused : Bool) : Type 0 where
  pub made : Result SchemaParts Fault
  pub compiled : IsCompiled dir lying made
  pub written : out ≡ compile_text made
  pub refused : is_refused ≡ is_err made

-- Bytes were written that stand so. Where the sink tells what was written, these are the bytes that it gained.
pub record Written (old new : Option (List ℕ)) (Holds : List ℕ → Type 0) : Type 0 where
  pub out : List ℕ
  pub appends : Appends old new out
  pub holds : Holds out
