-- The fields that files give as a whole.
use Rattle.std.specs.Prelude.{List}
use Rattle.std.specs.Option.{option_or}
use Rattle.ocsf_walk.specs.declared.given.Given.{Given}
use Rattle.ocsf_rules.specs.Chain.{Speaker}
use Rattle.ocsf_rules.specs.Compiled.{written_in}
use Rattle.ocsf_lists.specs.Given.{last_given}

-- each field as the last of these files gives it
abbrev pub given_by : List Speaker → Given
given_by ss = record {
  caption = last_given (λ s. s.file.caption) ss;
  description = last_given (λ s. s.file.description) ss;
  category = last_given written_in ss;
  at_least_one = last_given (λ s. s.file.at_least_one) ss;
  just_one = last_given (λ s. s.file.just_one) ss;
}

-- what a file gives, and behind it what was given before
abbrev pub given_over : Speaker → Given → Given
given_over s before = record {
  caption = option_or s.file.caption before.caption;
  description = option_or s.file.description before.description;
  category = option_or (written_in s) before.category;
  at_least_one = option_or s.file.at_least_one before.at_least_one;
  just_one = option_or s.file.just_one before.just_one;
}
