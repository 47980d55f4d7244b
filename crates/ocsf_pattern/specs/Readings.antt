-- Whether a text is a pattern, by what `regex` reads.
use Rattle.std.specs.Prelude.{◌≡◌, ℕ, ◌<◌, List, chars, None, IsSome, IsSomeAnd}
use Rattle.regex.specs.Patterns.{default_config}
use Rattle.regex.specs.Failures.{IsPattern}
use Rattle.regex_syntax.specs.Grammar.{read}

-- `regex` has a reading of the text, however deep it nests
abbrev pub IsRead : List ℕ → Type 0
IsRead text = IsSome (read default_config (chars text))

-- `regex` reads the text, and it doesn't nest too deep
abbrev pub IsGood : List ℕ → Type 0
IsGood text = IsPattern default_config text

-- `regex` doesn't read the text; what is read and nests too deep is neither good nor bad
abbrev pub IsBad : List ℕ → Type 0
IsBad text = read default_config (chars text) ≡ None

-- `regex` reads the text, and it nests deeper than `regex` takes
abbrev pub NestsTooDeep : List ℕ → Type 0
NestsTooDeep text = IsSomeAnd (read default_config (chars text)) (λ (re, names). default_config.nest_limit < re.depth)
