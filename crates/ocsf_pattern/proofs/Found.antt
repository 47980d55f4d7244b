-- What a built regex finds is what its text is read as.
use Rattle.std.proofs.Common.{true, false, ◌≡◌, ℕ, ◌<◌, List, All, get_or, is_some, Option, Some, None, IsSomeAnd, refl, ap, ◌∙◌, subst, arith}
use Rattle.std.proofs.lemmas.Option.{same_Some}
use Rattle.std.proofs.lemmas.List.Elements.{All-from_get_or}
use Rattle.std.specs.Str.{chars}
use Rattle.regex.specs.Patterns.{Re, find_str, default_config, Reads, SameCaptures}
use Rattle.regex.specs.Strings.{regex_pattern, regex_source, regex_config, IsReadFromSource}
use Rattle.regex.specs.declared.string.regex.Regex.{Regex}
use Rattle.regex.proofs.ForCallers.{is_match_alike}
use Rattle.regex_syntax.specs.Grammar.{Names, read}
use Rattle.regex_syntax.specs.Brackets.{Nested}
use Rattle.regex_syntax.specs.Captures.{outcome}
use Rattle.regex_syntax.proofs.CapturesLemmas.{alike_sym, ◌also◌}
use Rattle.regex_hir.specs.Re.{Trace, accept, attempt}
use Rattle.regex_meta.specs.Programs.{leftmost, pattern_of}
use Rattle.regex_meta.proofs.ProgramLemmas.{no_shorter_lem}
use Rattle.regex.proofs.Utf8Lemmas.{find_str_of_filled}
use Rattle.ocsf_pattern.specs.Matches.{is_found, found_in}
use Rattle.ocsf_pattern.specs.Held.{IsBuiltFrom}
use Rattle.ocsf_pattern.specs.declared.built.Built.{Built}

found_of_reading : (o : Option (Nested Re × Names)) (re : Re) (subject : List ℕ) → ((k : ℕ) → get_or subject k 0 < 256) →
    (P : Nested Re × Names → Type 0) → ((x : Nested Re × Names) → P x → SameCaptures re x.0.value) → IsSomeAnd o P →
    is_some (find_str re subject 0) ≡ found_in o subject
found_of_reading None re subject bytes P same h = absurd h
found_of_reading (Some (n, found)) re subject bytes P same h = is_match_alike (same (n, found) h) subject bytes true 0

pub is_found_of_regex : (r : Regex) (source subject : List ℕ) → regex_source r ≡ source → regex_config r ≡ default_config →
    IsReadFromSource r → ((k : ℕ) → get_or subject k 0 < 256) → is_some (find_str (regex_pattern r) subject 0) ≡ is_found source subject
unfolding Reads is_found
is_found_of_regex r source subject is_source is_default is_read bytes =
    found_of_reading (read default_config (chars source)) (regex_pattern r) subject bytes _ (λ x h. h.1)
    (rw (is_source, is_default) at is_read)

-- where both read the same, what isn't empty in one isn't in the other
filled_alike : (a b : Re) → SameCaptures a b → (hay : List ℕ) → All (λ x. x < 256) hay → (i : ℕ) →
    ((t : Trace) → attempt hay a accept i ≡ Some t → i < t.end) → (t : Trace) → attempt hay b accept i ≡ Some t → i < t.end
unfolding outcome
filled_alike a b alike hay bytes i filled t found = go (attempt hay a accept i) refl (alike.at hay bytes accept i ∙ ap outcome found)
  where
    go : (o : Option Trace) → attempt hay a accept i ≡ o → outcome o ≡ outcome (Some t) → i < t.end
    go None at same = absurd (cc same)
    go (Some u) at same = subst (λ n. i < n) (ap (λ (x : ℕ × (ℕ → Option ℕ)). x.0) (same_Some _ _ same)) (filled u at)

-- what is found by bytes, from the program of the text, where no match is empty
module _ (text : List ℕ) (b : Built) (built : IsBuiltFrom text b) (subject : List ℕ) (bytes : (k : ℕ) → get_or subject k 0 < 256)
    (filled : 0 < b.finder.program.min_len) where
  all_bytes : All (λ x. x < 256) subject
  all_bytes = All-from_get_or (λ x. x < 256) subject 0 (λ i _. bytes i)

  program_alike : (re : Re) → SameCaptures (pattern_of b.finder.program) re → SameCaptures (regex_pattern b.regex) re →
      is_some (leftmost b.finder.program subject 0) ≡ is_some (find_str re subject 0)
  program_alike re program regex =
      is_match_alike program subject bytes false 0 ∙ is_match_alike (alike_sym regex) subject bytes false 0
      ∙ ap is_some (find_str_of_filled _ subject all_bytes b.regex.whole_characters
      (λ i. filled_alike (pattern_of b.finder.program) (regex_pattern b.regex) (program also alike_sym regex) subject all_bytes i
      (λ t found. let long = no_shorter_lem b.finder.program subject i t found in omega (arith, filled, long))) 0)
      ∙ is_match_alike regex subject bytes true 0

  both_read : (o : Option (Nested Re × Names)) (P Q : Nested Re × Names → Type 0) →
      ((x : Nested Re × Names) → P x → SameCaptures (pattern_of b.finder.program) x.0.value) →
      ((x : Nested Re × Names) → Q x → SameCaptures (regex_pattern b.regex) x.0.value) →
      IsSomeAnd o P → IsSomeAnd o Q → is_some (leftmost b.finder.program subject 0) ≡ found_in o subject
  both_read None P Q program regex p q = absurd p
  both_read (Some x) P Q program regex p q = program_alike x.0.value (program x p) (regex x q)

  pub is_found_of_program : is_some (leftmost b.finder.program subject 0) ≡ is_found text subject
  unfolding Reads is_found
  is_found_of_program =
      both_read (read default_config (chars text)) _ _ (λ x h. h.1) (λ x h. h.1) built.1.1 (rw (built.0.0, built.0.1) at built.0.2)
