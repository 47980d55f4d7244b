-- Patterns as `regex` reads them: a good one is read, and a bad one isn't good.
use Rattle.std.proofs.Common.{◌≡◌, ℕ, ◌<◌, ◌≤◌, List, Option, Some, None, codes, refl, ◌⊎◌, inl, inr, arith}
use Rattle.std.specs.Prelude.{IsSome, IsSomeAnd, chars}
use Rattle.regex.specs.Patterns.{default_config, Reads}
use Rattle.regex.proofs.OnLiterals.{regex_on_literals}
use Rattle.regex.specs.Patterns.{Re}
use Rattle.regex_syntax.specs.Grammar.{Names, read}
use Rattle.regex_syntax.specs.Brackets.{Nested}
use Rattle.ocsf_pattern.specs.Readings.{IsRead, IsGood, IsBad, NestsTooDeep}

some_there : {X : Type 0} (P : X → Type 0) (o : Option X) → IsSomeAnd o P → IsSome o
some_there P None h = absurd h
some_there P (Some x) h = refl

pub good_is_read : (text : List ℕ) → IsGood text → IsRead text
unfolding Reads
good_is_read text good = some_there _ (read default_config (chars text)) good.2

not_there : {X : Type 0} (o : Option X) → o ≡ None → IsSome o → ⊥
not_there None e h = cc
not_there (Some x) e h = cc

pub bad_is_not_good : (text : List ℕ) → IsBad text → IsGood text → ⊥
bad_is_not_good text bad good = not_there (read default_config (chars text)) bad (good_is_read text good)

not_both : (o : Option (Nested Re × Names)) (limit : ℕ) (P : Nested Re × Names → Type 0) → ((x : Nested Re × Names) → P x → x.0.depth ≤ limit)
    → IsSomeAnd o (λ (re, names). limit < re.depth) → IsSomeAnd o P → ⊥
not_both None limit P within deep good = absurd good
not_both (Some x) limit P within deep good = let low = within x good in omega (arith, low, deep)

deep_is_not_good : (text : List ℕ) → NestsTooDeep text → IsGood text → ⊥
unfolding Reads
deep_is_not_good text deep good = not_both (read default_config (chars text)) default_config.nest_limit _ (λ x h. h.0) deep good.2

-- a text that may be refused isn't good
pub refused_is_not_good : (text : List ℕ) → IsBad text ⊎ NestsTooDeep text → IsGood text → ⊥
refused_is_not_good text (inl bad) good = bad_is_not_good text bad good
refused_is_not_good text (inr deep) good = deep_is_not_good text deep good

pub unclosed_is_bad : IsBad (codes "(")
unfolding regex_on_literals
unclosed_is_bad = refl

host_name_is_read : IsRead (codes "^[a-z]+$")
unfolding regex_on_literals
host_name_is_read = refl
