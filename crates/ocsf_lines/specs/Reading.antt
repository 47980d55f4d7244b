-- A source that is being read, and what the reading comes to.
use Rattle.std.specs.Prelude.{◌≡◌, ℕ, ◌^◌, List, length, Bool, Option}
use Rattle.std.specs.Io.KnownBytes.{Appends, Consumes}
use Rattle.ocsf_lines.specs.Run.{StepOf, Output, OutputFront, Replies}
use Rattle.ocsf_lines.specs.Feeding.{Fed}
use Rattle.ocsf_lines.specs.Exchange.{Exchange}
use Rattle.ocsf_lines.specs.declared.lines_end.LinesEnd.{LinesEnd}
use Rattle.ocsf_lines.specs.declared.lines_end.LinesEnd.TheVariants.{Ended, ReadFault, WriteFault, Memory, Limit}

-- So many bytes were taken, and their whole lines answered.
pub record Reading {S : Type 0} (Step : StepOf S) (most : ℕ) (start : S)
    (left_old left_now written_old written_now : Option (List ℕ)) (now : S) (held : List ℕ) (flawed : Bool)
    (count : ℕ) : Type 0 where
  pub taken : List ℕ
  pub out : List ℕ
  pub consumes : Consumes left_old left_now taken
  pub appends : Appends written_old written_now out
  pub fed : Fed Step most start taken out now held flawed
  pub counted : count ≡ length taken

-- what was written over the bytes taken, by how the run ends
abbrev pub Answers : {S : Type 0} → StepOf S → (S → List ℕ) → S → LinesEnd → List ℕ → List ℕ → Type 0
Answers Step print start (Ended flawed) taken out = Output Step print start taken out flawed
Answers Step print start ReadFault taken out = Replies Step start taken out
Answers Step print start WriteFault taken out = OutputFront Step print start taken out
Answers Step print start Memory taken out = OutputFront Step print start taken out
Answers Step print start Limit taken out = Replies Step start taken out × (length taken ≡ 2 ^ 40)

-- the bytes taken and written, by how the run ends
abbrev pub LinesRan : {S : Type 0} → StepOf S → (S → List ℕ) → S → Option (List ℕ) → Option (List ℕ) → Option (List ℕ)
    → Option (List ℕ) → LinesEnd → Type 0
LinesRan Step print start left_old left_new written_old written_new end =
    Exchange left_old left_new written_old written_new (Answers Step print start end)
