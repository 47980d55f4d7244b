-- How many there are, told as a number of 64 bits.
use Rattle.std.specs.Prelude.{◌≡◌, ℕ, ◌^◌, ◌≤◌, Option, Some, None}

-- the number is told, and only where it has more than 64 bits it isn't
abbrev pub IsCount : ℕ → Option ℕ → Type 0
IsCount number (Some told) = told ≡ number
IsCount number None = 2 ^ 64 ≤ number
