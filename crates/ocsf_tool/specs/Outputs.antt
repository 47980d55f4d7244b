-- What a run has written, by the command and by how it ended. A command says what it writes when it has answered all,
-- what answers whole lines, when its source was read out, and what it leaves at want of memory; how these go with the
-- ends is said once for all commands.
use Rattle.std.specs.Prelude.{◌≡◌, ℕ, ◌^◌, ◌⊎◌, List, [], ◌++◌, length, Bool, true, false, Option, IfSome, ⊤}
use Rattle.std.specs.Io.KnownBytes.{IsAtEnd}
use Rattle.ocsf_edge.specs.declared.records.Kept.{Kept}
use Rattle.ocsf_edge.specs.declared.records.KeptFile.{KeptFile}
use Rattle.ocsf_lines.specs.Exchange.{Exchange}
use Rattle.ocsf_tool.specs.Commands.{Command, Edits, Compile, Validate}
use Rattle.ocsf_tool.specs.Edits.{EditsOutput, EditsReplies}
use Rattle.ocsf_tool.specs.Events.{ValidateOutput, ValidateReplies}
use Rattle.ocsf_tool.specs.Folders.{CompileOutput}
use Rattle.ocsf_tool.specs.declared.status.Status.{Status}
use Rattle.ocsf_tool.specs.declared.status.Status.TheVariants.{
  Done,
  Flawed,
  Usage,
  InputRefused,
  ReadFault,
  WriteFault,
  Memory,
  KeeperFault,
  FolderFault,
  Limit,
  AcceptFault,
}

-- What the objects tell: the files of the folder and the keeper's tables before the run, and after it the keeper's
-- tables, whether the source has ended, and what is left of it.
pub record Told : Type 0 where
  pub files : Option (List KeptFile)
  pub tables : Option Kept
  pub tables_after : Option Kept
  pub ended : Bool
  pub left : Option (List ℕ)

-- ---- what each command writes

-- all is answered over the bytes taken, and the status says how
abbrev pub Whole : Command → Told → List ℕ → List ℕ → Status → Type 0
Whole Edits told taken out Done = EditsOutput taken out false
Whole Edits told taken out Flawed = EditsOutput taken out true
Whole (Compile dir) told taken out Done = IfSome told.files (λ lying. CompileOutput dir lying out false)
Whole (Compile dir) told taken out InputRefused = IfSome told.files (λ lying. CompileOutput dir lying out true)
Whole (Validate dir) told taken out Done = IfSome told.files (λ lying. ValidateOutput dir lying taken out false)
Whole (Validate dir) told taken out Flawed = IfSome told.files (λ lying. ValidateOutput dir lying taken out true)
Whole (Validate dir) told taken out InputRefused =
    (taken ≡ []) × IfSome told.files (λ lying. CompileOutput dir lying out true)
Whole _ told taken out _ = ⊥

-- just the whole lines among the bytes taken are answered
abbrev pub Answers : Command → Told → List ℕ → List ℕ → Type 0
Answers Edits told taken out = EditsReplies taken out
Answers (Compile dir) told taken out = ⊥
Answers (Validate dir) told taken out = IfSome told.files (λ lying. ValidateReplies dir lying taken out)

-- the source was read to its end
abbrev pub ReadOut : Command → Told → List ℕ → Type 0
ReadOut Edits told taken = (told.ended ≡ true) × IsAtEnd told.left
ReadOut (Compile dir) told taken = ⊤
ReadOut (Validate dir) told taken = (told.ended ≡ true) × IsAtEnd told.left

-- a front of what would be written
pub record Front (command : Command) (told : Told) (taken out : List ℕ) : Type 0 where
  pub more : List ℕ
  pub status : Status
  pub whole : Whole command told taken (out ++ more) status

-- at want of memory; a folder's schema is made before it is written, and before a line is taken
abbrev pub Cut : Command → Told → List ℕ → List ℕ → Type 0
Cut Edits told taken out = Front Edits told taken out
Cut (Compile dir) told taken out = out ≡ []
Cut (Validate dir) told taken out = ((taken ≡ []) × (out ≡ [])) ⊎ Front (Validate dir) told taken out

-- ---- what was written, by how the run ended

abbrev pub Wrote : Command → Told → Status → List ℕ → List ℕ → Type 0
Wrote command told Done taken out = Whole command told taken out Done × ReadOut command told taken
Wrote command told Flawed taken out = Whole command told taken out Flawed × ReadOut command told taken
Wrote command told Usage taken out = ⊥
Wrote command told InputRefused taken out = Whole command told taken out InputRefused
Wrote command told ReadFault taken out = Answers command told taken out
Wrote command told WriteFault taken out = Front command told taken out
Wrote command told Memory taken out = Cut command told taken out
Wrote command told KeeperFault taken out = ⊥
Wrote command told FolderFault taken out = (taken ≡ []) × (out ≡ [])
Wrote command told Limit taken out = Answers command told taken out × (length taken ≡ 2 ^ 40)
Wrote command told AcceptFault taken out = ⊥

-- the ends at which the sink wasn't called
abbrev pub is_silent : Command → Status → Bool
is_silent command FolderFault = true
is_silent (Compile dir) Memory = true
is_silent _ _ = false

-- What passed between the source and the sink in a run.
abbrev pub Ran : Command → Told → Status → Option (List ℕ) → Option (List ℕ) → Option (List ℕ) → Option (List ℕ)
    → Type 0
Ran command told status left_old left_new written_old written_new =
    Exchange left_old left_new written_old written_new (Wrote command told status)
