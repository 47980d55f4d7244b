-- What files give, file by file.
use Rattle.std.proofs.Common.{◌≡◌, ℕ, ◌+◌, ◌<◌, List, [], ◌∷◌, ◌++◌, map, take, length, Option, sym, ◌∙◌, ap}
use Rattle.std.specs.Prelude.{slice_index_or}
use Rattle.std.specs.Option.{option_or}
use Rattle.std.proofs.lemmas.List.{take_more, map-append}
use Rattle.ocsf_walk.specs.declared.given.Given.{Given}
use Rattle.ocsf_walk.specs.declared.speakers.Speaker.{Speaker as Lent}
use Rattle.ocsf_rules.specs.Chain.{Speaker}
use Rattle.ocsf_rules.specs.Compiled.{written_in}
use Rattle.ocsf_lists.specs.Given.{last_given}
use Rattle.ocsf_lists.proofs.Givens.{last_given-push}
use Rattle.ocsf_walk.specs.Given.{given_by, given_over}
use Rattle.ocsf_walk.specs.Speakers.{speaker_of}

pushed : {X : Type 0} (field : Speaker → Option X) (ss : List Speaker) (s : Speaker)
    → option_or (field s) (last_given field ss) ≡ last_given field (ss ++ s ∷ [])
pushed field ss s = sym (last_given-push field ss s)

given_by-push : (ss : List Speaker) (s : Speaker) → given_over s (given_by ss) ≡ given_by (ss ++ s ∷ [])
given_by-push ss s = λ i. record {
  caption = pushed (λ s. s.file.caption) ss s i;
  description = pushed (λ s. s.file.description) ss s i;
  category = pushed written_in ss s i;
  at_least_one = pushed (λ s. s.file.at_least_one) ss s i;
  just_one = pushed (λ s. s.file.just_one) ss s i;
}

pub given_more : (files : List Lent) (i : ℕ) (file : Lent) (was now : Given) → i < length files → file ≡ slice_index_or files i file → was ≡ given_by (map speaker_of (take i files)) → now ≡ given_over (speaker_of file) was
    → now ≡ given_by (map speaker_of (take (i + 1) files))
given_more files i file was now h is before over =
    over ∙ ap (given_over (speaker_of file)) before ∙ given_by-push (map speaker_of (take i files)) (speaker_of file)
    ∙ ap (λ ss. given_by ss) (sym (ap (map speaker_of) (take_more files i file h ∙ ap (λ y. take i files ++ y ∷ []) (sym is)) ∙ map-append speaker_of (take i files) (file ∷ [])))
