-- What is built of a text, as `regex` reads it.
use Rattle.std.specs.Prelude.{◌≡◌, ℕ, List}
use Rattle.regex.specs.Patterns.{default_config, Reads}
use Rattle.regex.specs.Strings.{regex_source, regex_config, IsReadFromSource}
use Rattle.regex.specs.declared.string.regex.Regex.{Regex}
use Rattle.regex_meta.specs.declared.program.Program.{Program}
use Rattle.regex_syntax.specs.Grammar.{Names}

abbrev pub IsRegexOf : List ℕ → Regex → Type 0
IsRegexOf text r = (regex_source r ≡ text) × (regex_config r ≡ default_config) × IsReadFromSource r

abbrev pub IsProgramOf : List ℕ → Program → Type 0
IsProgramOf text p = (names : Names) × Reads default_config text p.hir names
