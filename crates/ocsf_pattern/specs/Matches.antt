-- Where a pattern is found, by what `regex` reads.
use Rattle.std.specs.Prelude.{ℕ, List, chars, Bool, false, Option, Some, None, is_some}
use Rattle.regex.specs.Patterns.{Re, find_str, default_config}
use Rattle.regex_syntax.specs.Grammar.{Names, read}
use Rattle.regex_syntax.specs.Brackets.{Nested}

abbrev pub found_in : Option (Nested Re × Names) → List ℕ → Bool
found_in None subject = false
found_in (Some (re, names)) subject = is_some (find_str re.value subject 0)

-- what the pattern reads as is found in the subject
unfoldable pub is_found : List ℕ → List ℕ → Bool
is_found text subject = found_in (read default_config (chars text)) subject
