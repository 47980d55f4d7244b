-- The texts that are held built, the last used first.
use Rattle.std.specs.Prelude.{◌≡◌, ℕ, List, [], ◌∷◌, take, if◌then◌else◌}
use Rattle.std.specs.Str.{bytes_eq}
use Rattle.ocsf_pattern.specs.Reads.{IsRegexOf, IsProgramOf}
use Rattle.ocsf_pattern.specs.declared.built.Built.{Built}

-- the list without that text
abbrev pub without : List ℕ → List (List ℕ) → List (List ℕ)
without text [] = []
without text (t ∷ ts) = if bytes_eq text t then ts else (t ∷ without text ts)

-- the text goes first, the others follow as before, and a ninth goes
abbrev pub used : List ℕ → List (List ℕ) → List (List ℕ)
used text held = text ∷ take 7 (without text held)

-- the text built
abbrev pub IsBuiltFrom : List ℕ → Built → Type 0
IsBuiltFrom text b = IsRegexOf text b.regex × IsProgramOf text b.finder.program
