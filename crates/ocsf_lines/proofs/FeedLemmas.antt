-- What is answered of a stream, one line and one piece after another.
use Rattle.std.proofs.Common.{◌≡◌, ℕ, ◌+◌, ◌-◌, ◌≤◌, ◌^◌, List, [], ◌∷◌, ◌++◌, length, take, Option, Bool, false, ◌||◌, ⊎_elim, refl, sym, ◌∙◌, ap, subst, append_assoc, arith, length-append}
use Rattle.std.proofs.Math.Seq.{take-append-add}
use Rattle.std.proofs.lemmas.List.{append-nil, take_all, take-append-le, length-take, nil_from_length}
use Rattle.std.proofs.lemmas.Bool.{cases_lt}
use Rattle.ocsf_edge.proofs.Known.{Appends-none, Appends-append}
use Rattle.ocsf_lines.specs.Lines.{lf, HasNoLf, whole_lines, rest_of}
use Rattle.ocsf_lines.specs.Run.{StepOf, Run, OutputFront}
use Rattle.ocsf_lines.specs.Feeding.{Fed, Answered, AnswerCut, Feeds, FeedCut, Feeding}
use Rattle.ocsf_lines.proofs.LineLemmas.{whole_lines-no_lf, rest_of-no_lf, whole_lines-line, rest_of-line, length-rest_of}
use Rattle.ocsf_lines.proofs.RunLemmas.{Total, Run-append, Run-one, OutputFront-from}

-- what answers the front of a long line answers the line
abbrev pub ByFront : {S : Type 0} → StepOf S → ℕ → Type 0
ByFront {S} Step most = (s : S) (line reply : List ℕ) (one : Bool) (new : S) → length line ≤ 2 ^ 40 → Step s (take (most + 1) line) reply one new → Step s line reply one new

-- what answers the line as it was given answers the held rest with these bytes
pub record Lifts {S : Type 0} (Step : StepOf S) (most : ℕ) (held given line : List ℕ) : Type 0 where
  pub lift : (s : S) (rest reply : List ℕ) (one : Bool) (new : S) → held ≡ take (most + 1) rest → length (rest ++ line) ≤ 2 ^ 40 → Step s given reply one new → Step s (rest ++ line) reply one new

pub Fed-start : {S : Type 0} (Step : StepOf S) (most : ℕ) (s : S) → Fed Step most s [] [] s [] false
Fed-start Step most s = record { run = (refl, refl, refl); holds = sym (take_all (most + 1) [] (omega arith)); within = omega arith }

-- one line more
Run-line : {S : Type 0} (Step : StepOf S) (start old new : S) (before line out reply : List ℕ) (f one : Bool) → HasNoLf line → Run Step start (whole_lines before) out f old → Step old (rest_of before ++ line) reply one new → Run Step start (whole_lines (before ++ (line ++ lf ∷ []))) (out ++ reply) (f || one) new
Run-line Step start old new before line out reply f one no_lf run step =
    subst (λ (ls : List (List ℕ)). Run Step start ls (out ++ reply) (f || one) new) (sym (whole_lines-line line before no_lf))
    (Run-append Step (whole_lines before) ((rest_of before ++ line) ∷ []) start old new out reply f one run (Run-one Step old new (rest_of before ++ line) reply one step))

line_within : (before line : List ℕ) → length (before ++ (line ++ lf ∷ [])) ≤ 2 ^ 40 → length (rest_of before ++ line) ≤ 2 ^ 40
line_within before line l =
    omega (arith, length-rest_of before, length-append (rest_of before) line, length-append before (line ++ lf ∷ []), length-append line (lf ∷ []))

pub Feeds-line : {S : Type 0} (Step : StepOf S) (most : ℕ) (wo wn : Option (List ℕ)) (old new : S) (held given line after : List ℕ) (fo fn : Bool) → HasNoLf line → Lifts Step most held given line → after ≡ [] → Answered Step wo wn old new given fo fn → Feeds Step most wo wn old new (line ++ lf ∷ []) held after fo fn
Feeds-line Step most wo wn old new held given line after fo fn no_lf lifts none a = record {
  out = a.reply;
  appends = a.appends;
  goes_on = λ start before bo fed l.
      let step = lifts.lift old (rest_of before) a.reply a.one new fed.holds (line_within before line l) a.step in
      record {
        run = subst (λ (f : Bool). Run Step start (whole_lines (before ++ (line ++ lf ∷ []))) (bo ++ a.reply) f new) (sym a.flawed)
            (Run-line Step start old new before line bo a.reply fo a.one no_lf fed.run step);
        holds = none ∙ sym (ap (λ (r : List ℕ). take (most + 1) r) (rest_of-line line before) ∙ take_all (most + 1) [] (omega arith));
        within = l;
      };
}

-- a line of which nothing is held
pub lifts-fresh : {S : Type 0} (Step : StepOf S) (most : ℕ) (held line : List ℕ) → length held ≡ 0 → Lifts Step most held line line
lifts-fresh Step most held line none = record {
  lift = λ s rest reply one new holds within step.
      let empty : rest ≡ [] = nil_from_length rest (omega (arith, ap length holds, length-take (most + 1) rest)) in
      subst (λ (r : List ℕ). Step s (r ++ line) reply one new) (sym empty) step;
}

hold_short : (n : ℕ) (rest held line : List ℕ) → held ≡ take n rest → length rest ≤ n → held ++ take (n - length held) line ≡ take n (rest ++ line)
hold_short n rest held line e l =
    let same : held ≡ rest = e ∙ take_all n rest l in
    let sum : length rest + (n - length rest) ≡ n = omega arith in
    ap (λ (h : List ℕ). h ++ take (n - length h) line) same ∙ (sym (take-append-add rest line (n - length rest)) ∙ ap (λ (m : ℕ). take m (rest ++ line)) sum)

hold_long : (n : ℕ) (rest held line : List ℕ) → held ≡ take n rest → n ≤ length rest → held ++ take (n - length held) line ≡ take n (rest ++ line)
hold_long n rest held line e l =
    let none : n - length held ≡ 0 = omega (arith, ap length e, length-take n rest) in
    ap (λ (m : ℕ). held ++ take m line) none ∙ (append-nil held ∙ (e ∙ sym (take-append-le n rest line l)))

-- what is held stays the front of the rest
pub held_more : (n : ℕ) (rest held line : List ℕ) → held ≡ take n rest → held ++ take (n - length held) line ≡ take n (rest ++ line)
held_more n rest held line e =
    ⊎_elim (λ l. hold_long n rest held line e (omega arith)) (λ l. hold_short n rest held line e l) (cases_lt n (length rest))

-- a line of which a part was held
pub lifts-held : {S : Type 0} (Step : StepOf S) (most : ℕ) (held given line : List ℕ) → ByFront Step most → given ≡ held ++ take (most + 1 - length held) line → Lifts Step most held given line
lifts-held Step most held given line by_front e = record {
  lift = λ s rest reply one new holds within step.
      by_front s (rest ++ line) reply one new within (subst (λ (l : List ℕ). Step s l reply one new) (e ∙ held_more (most + 1) rest held line holds) step);
}

-- bytes without a LF answer nothing
pub Feeds-hold : {S : Type 0} (Step : StepOf S) (most : ℕ) (w : Option (List ℕ)) (s : S) (held bytes : List ℕ) (f : Bool) → HasNoLf bytes → Feeds Step most w w s s bytes held (held ++ take (most + 1 - length held) bytes) f f
Feeds-hold Step most w s held bytes f no_lf = record {
  out = [];
  appends = Appends-none w;
  goes_on = λ start before bo fed l. record {
    run = subst (λ (o : List ℕ). Run Step start (whole_lines (before ++ bytes)) o f s) (sym (append-nil bo))
        (subst (λ (ls : List (List ℕ)). Run Step start ls bo f s) (sym (whole_lines-no_lf bytes before no_lf)) fed.run);
    holds = held_more (most + 1) (rest_of before) held bytes fed.holds ∙ ap (λ (r : List ℕ). take (most + 1) r) (sym (rest_of-no_lf bytes before no_lf));
    within = l;
  };
}

Feeds-append : {S : Type 0} (Step : StepOf S) (most : ℕ) (wa wb wc : Option (List ℕ)) (a b c : S) (xs ys ha hb hc : List ℕ) (fa fb fc : Bool) → Feeds Step most wa wb a b xs ha hb fa fb → Feeds Step most wb wc b c ys hb hc fb fc → Feeds Step most wa wc a c (xs ++ ys) ha hc fa fc
Feeds-append Step most wa wb wc a b c xs ys ha hb hc fa fb fc p q = record {
  out = p.out ++ q.out;
  appends = Appends-append wa wb wc p.out q.out p.appends q.appends;
  goes_on = λ start before bo fed l.
      let all : length ((before ++ xs) ++ ys) ≤ 2 ^ 40 = subst (λ (bs : List ℕ). length bs ≤ 2 ^ 40) (sym (append_assoc before xs ys)) l in
      let first : length (before ++ xs) ≤ 2 ^ 40 = omega (arith, length-append (before ++ xs) ys) in
      subst (λ (bs : List ℕ). Fed Step most start bs (bo ++ (p.out ++ q.out)) c hc fc) (append_assoc before xs ys)
      (subst (λ (o : List ℕ). Fed Step most start ((before ++ xs) ++ ys) o c hc fc) (append_assoc bo p.out q.out)
      (q.goes_on start (before ++ xs) (bo ++ p.out) (p.goes_on start before bo fed first) all));
}

-- the reply to the line that a LF ends was cut
pub FeedCut-line : {S : Type 0} (Step : StepOf S) (print : S → List ℕ) (most : ℕ) (wo wn : Option (List ℕ)) (old : S) (held given line : List ℕ) (f : Bool) → Total Step → HasNoLf line → Lifts Step most held given line → AnswerCut Step wo wn old given → FeedCut Step print most wo wn old (line ++ lf ∷ []) held f
FeedCut-line Step print most wo wn old held given line f total no_lf lifts a = record {
  out = a.out;
  appends = a.appends;
  front = λ start before bo fed l after.
      let step = lifts.lift old (rest_of before) (a.out ++ a.more) a.one a.new fed.holds (line_within before line l) a.step in
      let bytes = before ++ (line ++ lf ∷ []) in
      OutputFront-from Step print total start a.new bytes after (bo ++ a.out) a.more (f || a.one)
      (subst (λ (o : List ℕ). Run Step start (whole_lines bytes) o (f || a.one) a.new) (sym (append_assoc bo a.out a.more))
      (Run-line Step start old a.new before line bo (a.out ++ a.more) f a.one no_lf fed.run step));
}

-- nothing was written at these bytes
pub FeedCut-none : {S : Type 0} (Step : StepOf S) (print : S → List ℕ) (most : ℕ) (w : Option (List ℕ)) (s : S) (bytes held : List ℕ) (f : Bool) → Total Step → FeedCut Step print most w w s bytes held f
FeedCut-none Step print most w s bytes held f total = record {
  out = [];
  appends = Appends-none w;
  front = λ start before bo fed l after.
      subst (λ (bs : List ℕ). OutputFront Step print start bs (bo ++ [])) (sym (append_assoc before bytes after))
      (OutputFront-from Step print total start s before (bytes ++ after) (bo ++ []) [] f
      (subst (λ (o : List ℕ). Run Step start (whole_lines before) o f s) (sym (append-nil (bo ++ []) ∙ append-nil bo)) fed.run));
}

-- a cut after a part that was taken in
FeedCut-after : {S : Type 0} (Step : StepOf S) (print : S → List ℕ) (most : ℕ) (wa wb wc : Option (List ℕ)) (a b : S) (xs ys zs ha hb : List ℕ) (fa fb : Bool) → Feeds Step most wa wb a b xs ha hb fa fb → FeedCut Step print most wb wc b ys hb fb → FeedCut Step print most wa wc a (xs ++ (ys ++ zs)) ha fa
FeedCut-after Step print most wa wb wc a b xs ys zs ha hb fa fb p q = record {
  out = p.out ++ q.out;
  appends = Appends-append wa wb wc p.out q.out p.appends q.appends;
  front = λ start before bo fed l after.
      let first : length (before ++ xs) ≤ 2 ^ 40 = omega (arith, length-append before (xs ++ (ys ++ zs)), length-append xs (ys ++ zs), length-append before xs) in
      let second : length ((before ++ xs) ++ ys) ≤ 2 ^ 40 =
      omega (arith, length-append before (xs ++ (ys ++ zs)), length-append xs (ys ++ zs), length-append ys zs, length-append before xs, length-append (before ++ xs) ys) in
      let f = q.front start (before ++ xs) (bo ++ p.out) (p.goes_on start before bo fed first) second (zs ++ after) in
      let bytes : ((before ++ xs) ++ ys) ++ (zs ++ after) ≡ (before ++ (xs ++ (ys ++ zs))) ++ after = simp append_assoc in
      subst (λ (bs : List ℕ). OutputFront Step print start bs (bo ++ (p.out ++ q.out))) bytes
      (subst (λ (o : List ℕ). OutputFront Step print start (((before ++ xs) ++ ys) ++ (zs ++ after)) o) (append_assoc bo p.out q.out) f);
}

line_parts : (line after : List ℕ) → line ++ lf ∷ after ≡ (line ++ lf ∷ []) ++ after
line_parts line after = sym (append_assoc line (lf ∷ []) after)

-- one line more of a piece
pub Feeding-line : {S : Type 0} (Step : StepOf S) (most : ℕ) (wa wb wc : Option (List ℕ)) (a b c : S) (piece rest line after ha hb hc : List ℕ) (fa fb fc : Bool) → Feeding Step most wa wb a b piece rest ha hb fa fb → rest ≡ line ++ lf ∷ after → Feeds Step most wb wc b c (line ++ lf ∷ []) hb hc fb fc → Feeding Step most wa wc a c piece after ha hc fa fc
Feeding-line Step most wa wb wc a b c piece rest line after ha hb hc fa fb fc p e q = record {
  done = p.done ++ (line ++ lf ∷ []);
  parts = p.parts ∙ (ap (λ (r : List ℕ). p.done ++ r) (e ∙ line_parts line after) ∙ sym (append_assoc p.done (line ++ lf ∷ []) after));
  feeds = Feeds-append Step most wa wb wc a b c p.done (line ++ lf ∷ []) ha hb hc fa fb fc p.feeds q;
}

-- the last part of a piece
pub Feeding-rest : {S : Type 0} (Step : StepOf S) (most : ℕ) (wa wb wc : Option (List ℕ)) (a b c : S) (piece rest ha hb hc : List ℕ) (fa fb fc : Bool) → Feeding Step most wa wb a b piece rest ha hb fa fb → Feeds Step most wb wc b c rest hb hc fb fc → Feeds Step most wa wc a c piece ha hc fa fc
Feeding-rest Step most wa wb wc a b c piece rest ha hb hc fa fb fc p q =
    subst (λ (bs : List ℕ). Feeds Step most wa wc a c bs ha hc fa fc) (sym p.parts) (Feeds-append Step most wa wb wc a b c p.done rest ha hb hc fa fb fc p.feeds q)

feeding_cut : {S : Type 0} (Step : StepOf S) (print : S → List ℕ) (most : ℕ) (wa wb wc : Option (List ℕ)) (a b : S) (piece rest ys zs ha hb : List ℕ) (fa fb : Bool) → Feeding Step most wa wb a b piece rest ha hb fa fb → rest ≡ ys ++ zs → FeedCut Step print most wb wc b ys hb fb → FeedCut Step print most wa wc a piece ha fa
feeding_cut Step print most wa wb wc a b piece rest ys zs ha hb fa fb p e q =
    subst (λ (bs : List ℕ). FeedCut Step print most wa wc a bs ha fa) (sym (p.parts ∙ ap (λ (r : List ℕ). p.done ++ r) e)) (FeedCut-after Step print most wa wb wc a b p.done ys zs ha hb fa fb p.feeds q)

-- a line of the piece was cut
pub FeedCut-in_line : {S : Type 0} (Step : StepOf S) (print : S → List ℕ) (most : ℕ) (wa wb wc : Option (List ℕ)) (a b : S) (piece rest line after ha hb : List ℕ) (fa fb : Bool) → Feeding Step most wa wb a b piece rest ha hb fa fb → rest ≡ line ++ lf ∷ after → FeedCut Step print most wb wc b (line ++ lf ∷ []) hb fb → FeedCut Step print most wa wc a piece ha fa
FeedCut-in_line Step print most wa wb wc a b piece rest line after ha hb fa fb p e q =
    feeding_cut Step print most wa wb wc a b piece rest (line ++ lf ∷ []) after ha hb fa fb p (e ∙ line_parts line after) q

-- nothing more was written of the piece
pub FeedCut-in_rest : {S : Type 0} (Step : StepOf S) (print : S → List ℕ) (most : ℕ) (wa wb : Option (List ℕ)) (a b : S) (piece rest ha hb : List ℕ) (fa fb : Bool) → Total Step → Feeding Step most wa wb a b piece rest ha hb fa fb → FeedCut Step print most wa wb a piece ha fa
FeedCut-in_rest Step print most wa wb a b piece rest ha hb fa fb total p =
    feeding_cut Step print most wa wb wb a b piece rest rest [] ha hb fa fb p (sym (append-nil rest)) (FeedCut-none Step print most wb b rest hb fb total)
