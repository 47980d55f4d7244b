-- The commands: what the words name, what a command calls, and how it may end.
use Rattle.std.specs.Prelude.{
  ◌≡◌,
  ◌≢◌,
  ℕ,
  ◌==◌,
  not,
  Bool,
  true,
  false,
  List,
  [],
  ◌∷◌,
  codes,
  Option,
  Some,
  None,
  if◌then◌else◌,
}
use Rattle.std.specs.Option.{option_map_or}
use Rattle.std.specs.Str.{bytes_eq}
use Rattle.ocsf_edge.specs.Faults.{Rose}
use Rattle.ocsf_tool.specs.declared.status.Status.{Status}
use Rattle.ocsf_tool.specs.declared.status.Status.TheVariants.{
  Done,
  Flawed,
  Usage,
  InputRefused,
  ReadFault,
  WriteFault,
  Memory,
  KeeperFault,
  FolderFault,
  Limit,
  AcceptFault,
}

-- ---- what the words name

pub data Command : Type 0 where
  Edits : Command
  Compile : List ℕ → Command
  Validate : List ℕ → Command

-- a folder's name isn't empty and doesn't begin with `-`
abbrev pub is_folder_name : List ℕ → Bool
is_folder_name [] = false
is_folder_name (b ∷ bs) = not (b == 45)

abbrev of_folder : (List ℕ → Command) → List ℕ → Option Command
of_folder command dir = if is_folder_name dir then Some (command dir) else None

abbrev of_one_word : List ℕ → Option Command
of_one_word word = if bytes_eq word (codes "edits") then Some Edits else None

abbrev of_two_words : List ℕ → List ℕ → Option Command
of_two_words word dir =
    if bytes_eq word (codes "compile") then of_folder Compile dir
    else if bytes_eq word (codes "validate") then of_folder Validate dir else None

-- `edits`, `compile DIR` and `validate DIR`, and no other words
abbrev pub command_of : List (List ℕ) → Option Command
command_of (word ∷ []) = of_one_word word
command_of (word ∷ dir ∷ []) = of_two_words word dir
command_of _ = None

-- ---- what a command calls: each writes to the sink

abbrev pub reads_source : Command → Bool
reads_source Edits = true
reads_source (Compile dir) = false
reads_source (Validate dir) = true

abbrev pub reads_folder : Command → Bool
reads_folder Edits = false
reads_folder (Compile dir) = true
reads_folder (Validate dir) = true

abbrev pub uses_keeper : Command → Bool
uses_keeper Edits = false
uses_keeper (Compile dir) = false
uses_keeper (Validate dir) = false

-- whether the words name a command that calls so
abbrev pub calls : (Command → Bool) → Option Command → Bool
calls does named = option_map_or does named false

-- ---- how a command may end

-- some of what it read was refused or at fault, and it went on
abbrev pub goes_on_refused : Command → Bool
goes_on_refused Edits = true
goes_on_refused (Compile dir) = false
goes_on_refused (Validate dir) = true

-- the folder that it read was refused
abbrev pub may_refuse : Command → Bool
may_refuse Edits = false
may_refuse (Compile dir) = true
may_refuse (Validate dir) = true

abbrev pub may_end : Command → Status → Bool
may_end command Done = true
may_end command Flawed = goes_on_refused command
may_end command Usage = false
may_end command InputRefused = may_refuse command
may_end command ReadFault = reads_source command
may_end command WriteFault = true
may_end command Memory = true
may_end command KeeperFault = uses_keeper command
may_end command FolderFault = reads_folder command
may_end command Limit = reads_source command
may_end command AcceptFault = false

-- it was answered or refused, or met the limit, or there was no memory
abbrev pub is_no_fault : Status → Bool
is_no_fault Done = true
is_no_fault Flawed = true
is_no_fault Usage = false
is_no_fault InputRefused = true
is_no_fault ReadFault = false
is_no_fault WriteFault = false
is_no_fault Memory = true
is_no_fault KeeperFault = false
is_no_fault FolderFault = false
is_no_fault Limit = true
is_no_fault AcceptFault = false

-- An object failed exactly where the run ends by its fault: then its count rose, and else it is as it was.
pub record FailedOnlyAt (fault status : Status) (before now : ℕ) : Type 0 where
  pub rose : status ≡ fault → Rose before now
  pub kept : status ≢ fault → now ≡ before
