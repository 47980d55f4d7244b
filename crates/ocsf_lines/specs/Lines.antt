-- The lines of a stream: the bytes up to a LF, or the rest at the end where it isn't empty.
use Rattle.std.specs.Prelude.{◌≢◌, ℕ, List, [], ◌∷◌, ◌++◌, if◌then◌else◌, ◌==◌, All}

-- the byte that ends a line
abbrev pub lf : ℕ
lf = 10

abbrev pub HasNoLf : List ℕ → Type 0
HasNoLf bytes = All (λ b. b ≢ lf) bytes

-- the byte goes to the front of the first line, if there is one
abbrev pub onto_line : ℕ → List (List ℕ) → List (List ℕ)
onto_line b [] = []
onto_line b (line ∷ lines) = (b ∷ line) ∷ lines

-- the byte goes to the front of the rest, if no line stands before it
abbrev pub onto_rest : ℕ → List (List ℕ) → List ℕ → List ℕ
onto_rest b [] rest = b ∷ rest
onto_rest b (line ∷ lines) rest = rest

-- the lines that a LF ends, each without it
abbrev pub whole_lines : List ℕ → List (List ℕ)
whole_lines [] = []
whole_lines (b ∷ bytes) = if b == lf then [] ∷ whole_lines bytes else onto_line b (whole_lines bytes)

-- what comes after the last LF
abbrev pub rest_of : List ℕ → List ℕ
rest_of [] = []
rest_of (b ∷ bytes) = if b == lf then rest_of bytes else onto_rest b (whole_lines bytes) (rest_of bytes)

-- a rest is a line where it isn't empty
abbrev pub rest_lines : List ℕ → List (List ℕ)
rest_lines [] = []
rest_lines (b ∷ bytes) = (b ∷ bytes) ∷ []

-- the lines of a stream that has ended
abbrev pub lines_of : List ℕ → List (List ℕ)
lines_of bytes = whole_lines bytes ++ rest_lines (rest_of bytes)
