-- What a machine has answered of the bytes so far, and what one call does to that.
use Rattle.std.specs.Prelude.{◌≡◌, ℕ, ◌+◌, ◌^◌, ◌≤◌, List, ◌++◌, Bool, ◌||◌, length, take, Option, Result, IsErrOf}
use Rattle.std.specs.Io.KnownBytes.{Appends}
use Rattle.ocsf_edge.specs.Faults.{Rose}
use Rattle.ocsf_lines.specs.Lines.{whole_lines, rest_of}
use Rattle.ocsf_lines.specs.Run.{StepOf, Run, OutputFront}
use Rattle.ocsf_lines.specs.declared.stop.Stop.{Stop}
use Rattle.ocsf_lines.specs.declared.stop.Stop.TheVariants.{WriteFault}

-- The whole lines of these bytes were answered so, and the front of the rest is held.
pub record Fed {S : Type 0} (Step : StepOf S) (most : ℕ) (start : S) (bytes out : List ℕ) (now : S) (held : List ℕ)
    (flawed : Bool) : Type 0 where
  pub run : Run Step start (whole_lines bytes) out flawed now
  pub holds : held ≡ take (most + 1) (rest_of bytes)
  pub within : length bytes ≤ 2 ^ 40

-- A line was answered.
pub record Answered {S : Type 0} (Step : StepOf S) (written_old written_new : Option (List ℕ)) (old new : S)
    (line : List ℕ) (flawed_old flawed_new : Bool) : Type 0 where
  pub reply : List ℕ
  pub one : Bool
  pub appends : Appends written_old written_new reply
  pub step : Step old line reply one new
  pub flawed : flawed_new ≡ flawed_old || one

-- A front of a reply to the line was written.
pub record AnswerCut {S : Type 0} (Step : StepOf S) (written_old written_new : Option (List ℕ)) (old : S)
    (line : List ℕ) : Type 0 where
  pub out : List ℕ
  pub more : List ℕ
  pub one : Bool
  pub new : S
  pub appends : Appends written_old written_new out
  pub step : Step old line (out ++ more) one new

-- These bytes were taken in, and the lines that end in them were answered.
pub record Feeds {S : Type 0} (Step : StepOf S) (most : ℕ) (written_old written_new : Option (List ℕ)) (old new : S)
    (bytes held_old held_new : List ℕ) (flawed_old flawed_new : Bool) : Type 0 where
  pub out : List ℕ
  pub appends : Appends written_old written_new out
  pub goes_on : (start : S) (before before_out : List ℕ) → Fed Step most start before before_out old held_old flawed_old
      → length (before ++ bytes) ≤ 2 ^ 40
      → Fed Step most start (before ++ bytes) (before_out ++ out) new held_new flawed_new

-- A front of what answers these bytes, however they go on, was written.
pub record FeedCut {S : Type 0} (Step : StepOf S) (print : S → List ℕ) (most : ℕ)
    (written_old written_new : Option (List ℕ)) (old : S) (bytes held_old : List ℕ) (flawed_old : Bool) : Type 0 where
  pub out : List ℕ
  pub appends : Appends written_old written_new out
  pub front : (start : S) (before before_out : List ℕ) → Fed Step most start before before_out old held_old flawed_old
      → length (before ++ bytes) ≤ 2 ^ 40 → (after : List ℕ)
      → OutputFront Step print start ((before ++ bytes) ++ after) (before_out ++ out)

-- Part of a piece was taken in, and the rest of it is still to come.
pub record Feeding {S : Type 0} (Step : StepOf S) (most : ℕ) (written_old written_now : Option (List ℕ)) (old now : S)
    (piece rest held_old held_now : List ℕ) (flawed_old flawed_now : Bool) : Type 0 where
  pub done : List ℕ
  pub parts : piece ≡ done ++ rest
  pub feeds : Feeds Step most written_old written_now old now done held_old held_now flawed_old flawed_now

-- A call stops at a write fault only where the count rose, and else leaves the count as it was.
pub record StopCause {T : Type 0} (before now : ℕ) (result : Result T Stop) : Type 0 where
  pub failed : IsErrOf result WriteFault → Rose before now
  pub kept : ¬ IsErrOf result WriteFault → now ≡ before
