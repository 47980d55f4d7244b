-- Runs of a machine that answers one line after another, and may choose.
use Rattle.std.specs.Prelude.{◌≡◌, ℕ, List, [], ◌∷◌, ◌++◌, Bool, false, ◌||◌}
use Rattle.ocsf_lines.specs.Lines.{whole_lines, lines_of}

-- What a machine may do: a state, a line, the reply to it, whether the line is at fault, and the next state.
abbrev pub StepOf : Type 0 → Type 1
StepOf S = S → List ℕ → List ℕ → Bool → S → Type 0

-- From one state the machine may give these replies to these lines, find a line at fault or none, and come to another
-- state.
abbrev pub Run : {S : Type 0} → StepOf S → S → List (List ℕ) → List ℕ → Bool → S → Type 0
Run Step old [] out flawed new = (out ≡ []) × (flawed ≡ false) × (new ≡ old)
Run {S} Step old (line ∷ lines) out flawed new =
    (reply : List ℕ) × (one : Bool) × (next : S) × (more : List ℕ) × (others : Bool)
    × Step old line reply one next × Run Step next lines more others new
    × (out ≡ reply ++ more) × (flawed ≡ one || others)

-- The whole output over these bytes: a reply to each line, and the print of the last state.
pub record Output {S : Type 0} (Step : StepOf S) (print : S → List ℕ) (start : S) (bytes out : List ℕ)
    (flawed : Bool) : Type 0 where
  pub replies : List ℕ
  pub last : S
  pub run : Run Step start (lines_of bytes) replies flawed last
  pub all : out ≡ replies ++ print last

-- The replies to the lines that a LF ends, and nothing else.
pub record Replies {S : Type 0} (Step : StepOf S) (start : S) (bytes out : List ℕ) : Type 0 where
  pub flawed : Bool
  pub last : S
  pub run : Run Step start (whole_lines bytes) out flawed last

-- A front of a whole output over these bytes.
pub record OutputFront {S : Type 0} (Step : StepOf S) (print : S → List ℕ) (start : S) (bytes out : List ℕ) : Type 0
  where
    pub more : List ℕ
    pub flawed : Bool
    pub output : Output Step print start bytes (out ++ more) flawed
