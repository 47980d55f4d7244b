-- What the end of a source adds.
use Rattle.std.proofs.Common.{◌≡◌, ℕ, ◌+◌, ◌<◌, ◌≤◌, ◌^◌, List, [], ◌∷◌, ◌++◌, length, take, drop, Option, Bool, ◌||◌, refl, sym, ◌∙◌, ap, subst, append_assoc, arith}
use Rattle.std.proofs.lemmas.List.{append-nil, take-append-drop, length-take}
use Rattle.std.specs.Io.KnownBytes.{Appends}
use Rattle.ocsf_edge.specs.Sink.{AppendsPrefix}
use Rattle.ocsf_edge.proofs.Known.{Appends-none, Appends-append}
use Rattle.ocsf_lines.specs.Lines.{whole_lines, rest_of, rest_lines, lines_of}
use Rattle.ocsf_lines.specs.Run.{StepOf, Run}
use Rattle.ocsf_lines.specs.Feeding.{Fed, Answered, AnswerCut}
use Rattle.ocsf_lines.specs.Closing.{AnswersRest, Closes, CloseCut}
use Rattle.ocsf_lines.proofs.LineLemmas.{length-rest_of}
use Rattle.ocsf_lines.proofs.RunLemmas.{Run-append, Run-one}
use Rattle.ocsf_lines.proofs.FeedLemmas.{ByFront}

rest_there : (most : ℕ) (rest held : List ℕ) → held ≡ take (most + 1) rest → 0 < length held → rest_lines rest ≡ rest ∷ []
rest_there most [] held e l = absurd (omega (arith, ap length e, length-take {A = ℕ} (most + 1) []))
rest_there most (b ∷ bs) held e l = refl

length_some : (b : ℕ) (bs : List ℕ) → 0 < length (b ∷ bs)
length_some b bs = omega arith

rest_gone : (most : ℕ) (rest held : List ℕ) → held ≡ take (most + 1) rest → length held ≡ 0 → rest_lines rest ≡ []
rest_gone most [] held e l = refl
rest_gone most (b ∷ bs) held e l = absurd (omega (arith, ap length e, length-take (most + 1) (b ∷ bs), length_some b bs))

pub AnswersRest-none : {S : Type 0} (Step : StepOf S) (most : ℕ) (w : Option (List ℕ)) (s : S) (held : List ℕ) (f : Bool) → length held ≡ 0 → AnswersRest Step most w w s s held f f
AnswersRest-none Step most w s held f none = record {
  out = [];
  appends = Appends-none w;
  run = λ start before bo fed.
      subst (λ (o : List ℕ). Run Step start (lines_of before) o f s) (sym (append-nil bo))
      (subst (λ (ls : List (List ℕ)). Run Step start (whole_lines before ++ ls) bo f s) (sym (rest_gone most (rest_of before) held fed.holds none))
      (subst (λ (ls : List (List ℕ)). Run Step start ls bo f s) (sym (append-nil (whole_lines before))) fed.run));
}

run_rest : {S : Type 0} (Step : StepOf S) (most : ℕ) (start old new : S) (before bo held reply : List ℕ) (fo one : Bool) → ByFront Step most → 0 < length held → Fed Step most start before bo old held fo → Step old held reply one new → Run Step start (lines_of before) (bo ++ reply) (fo || one) new
run_rest Step most start old new before bo held reply fo one by_front some fed s =
    let short : length (rest_of before) ≤ 2 ^ 40 = omega (arith, length-rest_of before, fed.within) in
    let step = by_front old (rest_of before) reply one new short (subst (λ (l : List ℕ). Step old l reply one new) fed.holds s) in
    subst (λ (ls : List (List ℕ)). Run Step start (whole_lines before ++ ls) (bo ++ reply) (fo || one) new) (sym (rest_there most (rest_of before) held fed.holds some))
    (Run-append Step (whole_lines before) (rest_of before ∷ []) start old new bo reply fo one fed.run (Run-one Step old new (rest_of before) reply one step))

pub AnswersRest-one : {S : Type 0} (Step : StepOf S) (most : ℕ) (wo wn : Option (List ℕ)) (old new : S) (held : List ℕ) (fo fn : Bool) → ByFront Step most → 0 < length held → Answered Step wo wn old new held fo fn → AnswersRest Step most wo wn old new held fo fn
AnswersRest-one Step most wo wn old new held fo fn by_front some a = record {
  out = a.reply;
  appends = a.appends;
  run = λ start before bo fed.
      subst (λ (f : Bool). Run Step start (lines_of before) (bo ++ a.reply) f new) (sym a.flawed)
      (run_rest Step most start old new before bo held a.reply fo a.one by_front some fed a.step);
}

-- the reply to the rest was cut
pub CloseCut-rest : {S : Type 0} (Step : StepOf S) (print : S → List ℕ) (most : ℕ) (wo wn : Option (List ℕ)) (old : S) (held : List ℕ) (f : Bool) → ByFront Step most → 0 < length held → AnswerCut Step wo wn old held → CloseCut Step print most wo wn old held f
CloseCut-rest Step print most wo wn old held f by_front some a = record {
  out = a.out;
  appends = a.appends;
  front = λ start before bo fed. record {
    more = a.more ++ print a.new;
    flawed = f || a.one;
    output = record {
      replies = bo ++ (a.out ++ a.more);
      last = a.new;
      run = run_rest Step most start old a.new before bo held (a.out ++ a.more) f a.one by_front some fed a.step;
      all = simp append_assoc;
    };
  };
}

pub Closes-print : {S : Type 0} (Step : StepOf S) (print : S → List ℕ) (most : ℕ) (wa wb wc : Option (List ℕ)) (old new : S) (held : List ℕ) (fo fn : Bool) → AnswersRest Step most wa wb old new held fo fn → Appends wb wc (print new) → Closes Step print most wa wc old held fo fn
Closes-print Step print most wa wb wc old new held fo fn r w = record {
  out = r.out ++ print new;
  appends = Appends-append wa wb wc r.out (print new) r.appends w;
  whole = λ start before bo fed. record {
    replies = bo ++ r.out;
    last = new;
    run = r.run start before bo fed;
    all = sym (append_assoc bo r.out (print new));
  };
}

-- the print was cut
pub CloseCut-print : {S : Type 0} (Step : StepOf S) (print : S → List ℕ) (most : ℕ) (wa wb wc : Option (List ℕ)) (old new : S) (held : List ℕ) (fo fn : Bool) → AnswersRest Step most wa wb old new held fo fn → AppendsPrefix wb wc (print new) → CloseCut Step print most wa wc old held fo
CloseCut-print Step print most wa wb wc old new held fo fn r (n, w) = record {
  out = r.out ++ take n (print new);
  appends = Appends-append wa wb wc r.out (take n (print new)) r.appends w;
  front = λ start before bo fed. record {
    more = drop n (print new);
    flawed = fn;
    output = record {
      replies = bo ++ r.out;
      last = new;
      run = r.run start before bo fed;
      all =
          let whole : (bo ++ (r.out ++ take n (print new))) ++ drop n (print new) ≡ (bo ++ r.out) ++ (take n (print new) ++ drop n (print new)) = simp append_assoc in
          whole ∙ ap (λ (p : List ℕ). (bo ++ r.out) ++ p) (take-append-drop n (print new));
    };
  };
}
