-- What the end of a source adds to what was answered.
use Rattle.std.specs.Prelude.{ℕ, List, ◌++◌, Bool, Option}
use Rattle.std.specs.Io.KnownBytes.{Appends}
use Rattle.ocsf_lines.specs.Lines.{lines_of}
use Rattle.ocsf_lines.specs.Run.{StepOf, Run, Output, OutputFront}
use Rattle.ocsf_lines.specs.Feeding.{Fed}
use Rattle.ocsf_lines.specs.declared.lines_end.LinesEnd.{LinesEnd}
use Rattle.ocsf_lines.specs.declared.lines_end.LinesEnd.TheVariants.{Ended, ReadFault, WriteFault, Memory, Limit}

-- The rest was answered too.
pub record AnswersRest {S : Type 0} (Step : StepOf S) (most : ℕ) (written_old written_new : Option (List ℕ))
    (old new : S) (held : List ℕ) (flawed_old flawed_new : Bool) : Type 0 where
  pub out : List ℕ
  pub appends : Appends written_old written_new out
  pub run : (start : S) (before before_out : List ℕ) → Fed Step most start before before_out old held flawed_old
      → Run Step start (lines_of before) (before_out ++ out) flawed_new new

-- The rest was answered too, and the last state printed.
pub record Closes {S : Type 0} (Step : StepOf S) (print : S → List ℕ) (most : ℕ)
    (written_old written_new : Option (List ℕ)) (old : S) (held : List ℕ) (flawed_old flawed_new : Bool) : Type 0 where
  pub out : List ℕ
  pub appends : Appends written_old written_new out
  pub whole : (start : S) (before before_out : List ℕ) → Fed Step most start before before_out old held flawed_old
      → Output Step print start before (before_out ++ out) flawed_new

-- A front of that was written.
pub record CloseCut {S : Type 0} (Step : StepOf S) (print : S → List ℕ) (most : ℕ)
    (written_old written_new : Option (List ℕ)) (old : S) (held : List ℕ) (flawed_old : Bool) : Type 0 where
  pub out : List ℕ
  pub appends : Appends written_old written_new out
  pub front : (start : S) (before before_out : List ℕ) → Fed Step most start before before_out old held flawed_old
      → OutputFront Step print start before (before_out ++ out)

-- what the end of the source adds, by how the run ends
abbrev pub ClosesBy : {S : Type 0} → StepOf S → (S → List ℕ) → ℕ → Option (List ℕ) → Option (List ℕ) → S → List ℕ → Bool
    → LinesEnd → Type 0
ClosesBy Step print most written_old written_new old held flawed (Ended all) =
    Closes Step print most written_old written_new old held flawed all
ClosesBy Step print most written_old written_new old held flawed ReadFault = ⊥
ClosesBy Step print most written_old written_new old held flawed WriteFault =
    CloseCut Step print most written_old written_new old held flawed
ClosesBy Step print most written_old written_new old held flawed Memory =
    CloseCut Step print most written_old written_new old held flawed
ClosesBy Step print most written_old written_new old held flawed Limit = ⊥
