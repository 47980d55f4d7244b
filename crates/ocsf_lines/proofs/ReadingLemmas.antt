-- A run over a source, one piece after another, and how it ends.
use Rattle.std.proofs.Common.{◌≡◌, ◌≢◌, ℕ, ◌+◌, ◌^◌, ◌≤◌, ◌<◌, List, [], ◌++◌, length, take, Option, None, Some, IfSome, Bool, true, false, refl, sym, ◌∙◌, ap, subst, arith, length-append}
use Rattle.std.proofs.lemmas.Bool.{false≢true}
use Rattle.std.proofs.lemmas.List.{append-nil, take-append-le, length-take}
use Rattle.std.specs.Io.KnownBytes.{Consumes, Keeps}
use Rattle.ocsf_edge.specs.Faults.{Rose}
use Rattle.ocsf_edge.proofs.Known.{Appends-none, Appends-append, Consumes-none, Consumes-append, Consumes-keeps}
use Rattle.ocsf_lines.specs.Run.{StepOf, Output, OutputFront, Replies}
use Rattle.ocsf_lines.specs.Exchange.{Exchange}
use Rattle.ocsf_lines.specs.Ends.{IfEnded, IsEndedOrMemory, IsLimitOrMemory, ReadsCause, WritesCause, end_of}
use Rattle.ocsf_lines.specs.Feeding.{Fed, FeedCut}
use Rattle.ocsf_lines.specs.Closing.{CloseCut, ClosesBy}
use Rattle.ocsf_lines.specs.Reading.{Reading, Answers, LinesRan}
use Rattle.ocsf_lines.specs.declared.lines_end.LinesEnd.{LinesEnd}
use Rattle.ocsf_lines.specs.declared.lines_end.LinesEnd.TheVariants.{Ended, ReadFault, WriteFault, Memory, Limit}
use Rattle.ocsf_lines.specs.declared.stop.Stop.{Stop}
use Rattle.ocsf_lines.specs.declared.stop.Stop.TheVariants as stop
use Rattle.ocsf_lines.proofs.RunLemmas.{Total, OutputFront-from}
use Rattle.ocsf_lines.proofs.FeedLemmas.{Fed-start}

pub Reading-start : {S : Type 0} (Step : StepOf S) (most : ℕ) (s : S) (left written : Option (List ℕ)) → Reading Step most s left left written written s [] false 0
Reading-start Step most s left written = record {
  taken = [];
  out = [];
  consumes = Consumes-none left;
  appends = Appends-none written;
  fed = Fed-start Step most s;
  counted = refl;
}

-- a read at the end takes nothing
pub Reading-idle : {S : Type 0} (Step : StepOf S) (most : ℕ) (start : S) (lo la lb wo wa : Option (List ℕ)) (a : S) (ha : List ℕ) (fa : Bool) (count : ℕ) → Reading Step most start lo la wo wa a ha fa count → Consumes la lb [] → Reading Step most start lo lb wo wa a ha fa count
Reading-idle Step most start lo la lb wo wa a ha fa count r c = record {
  taken = r.taken;
  out = r.out;
  consumes = subst (λ (bs : List ℕ). Consumes lo lb bs) (append-nil r.taken) (Consumes-append lo la lb r.taken [] r.consumes c);
  appends = r.appends;
  fed = r.fed;
  counted = r.counted;
}

replies_of : {S : Type 0} (Step : StepOf S) (most : ℕ) (start now : S) (taken out held : List ℕ) (f : Bool) → Fed Step most start taken out now held f → Replies Step start taken out
replies_of Step most start now taken out held f fed = record { last = now; flawed = f; run = fed.run }

pub Ran-read_fault : {S : Type 0} (Step : StepOf S) (print : S → List ℕ) (most : ℕ) (start : S) (lo la lb wo wa : Option (List ℕ)) (a : S) (ha : List ℕ) (fa : Bool) (count : ℕ) → Reading Step most start lo la wo wa a ha fa count → Keeps la lb → LinesRan Step print start lo lb wo wa ReadFault
Ran-read_fault Step print most start lo la lb wo wa a ha fa count r k =
    let same = Reading-idle Step most start lo la lb wo wa a ha fa count r (Consumes-keeps la lb k) in
    record { taken = same.taken; out = same.out; consumes = same.consumes; appends = same.appends; holds = replies_of Step most start a same.taken same.out ha fa same.fed }

pub Ran-limit : {S : Type 0} (Step : StepOf S) (print : S → List ℕ) (most : ℕ) (start : S) (lo la wo wa : Option (List ℕ)) (a : S) (ha : List ℕ) (fa : Bool) (count : ℕ) → Reading Step most start lo la wo wa a ha fa count → count ≡ 2 ^ 40 → LinesRan Step print start lo la wo wa Limit
Ran-limit Step print most start lo la wo wa a ha fa count r e =
    record { taken = r.taken; out = r.out; consumes = r.consumes; appends = r.appends; holds = (replies_of Step most start a r.taken r.out ha fa r.fed, sym r.counted ∙ e) }

-- where nothing was read there was no memory
pub Ran-nothing : {S : Type 0} (Step : StepOf S) (print : S → List ℕ) → Total Step → (start : S) (left written : Option (List ℕ)) → LinesRan Step print start left left written written Memory
Ran-nothing Step print total start left written =
    record { taken = []; out = []; consumes = Consumes-none left; appends = Appends-none written; holds = OutputFront-from Step print total start start [] [] [] [] false (refl, refl, refl) }

stopped : {S : Type 0} (Step : StepOf S) (print : S → List ℕ) (start : S) (taken out : List ℕ) → OutputFront Step print start taken out → (t : Stop) → Answers Step print start (end_of t) taken out
stopped Step print start taken out f stop.WriteFault = f
stopped Step print start taken out f stop.Memory = f

-- a piece was cut that stands at the front of the buffer
pub Ran-cut : {S : Type 0} (Step : StepOf S) (print : S → List ℕ) (most : ℕ) (start : S) (lo la lb wo wa wb : Option (List ℕ)) (a : S) (ha : List ℕ) (fa : Bool) (count n : ℕ) (into rest : List ℕ) (t : Stop) → Reading Step most start lo la wo wa a ha fa count → n ≤ length into → count + length into ≤ 2 ^ 40 → Consumes la lb (take n into) → FeedCut Step print most wa wb a (take n (into ++ rest)) ha fa → LinesRan Step print start lo lb wo wb (end_of t)
Ran-cut Step print most start lo la lb wo wa wb a ha fa count n into rest t r fits l c b =
    let piece = take n (into ++ rest) in
    let front : take n (into ++ rest) ≡ take n into = take-append-le n into rest fits in
    let within : length (r.taken ++ take n (into ++ rest)) ≤ 2 ^ 40 = omega (arith, r.counted, ap length front, length-take n into, length-append r.taken (take n (into ++ rest))) in
    let fronts = b.front start r.taken r.out r.fed within [] in
    record {
      taken = r.taken ++ piece;
      out = r.out ++ b.out;
      consumes = Consumes-append lo la lb r.taken piece r.consumes (subst (λ (bs : List ℕ). Consumes la lb bs) (sym front) c);
      appends = Appends-append wo wa wb r.out b.out r.appends b.appends;
      holds = stopped Step print start (r.taken ++ piece) (r.out ++ b.out) (subst (λ (bs : List ℕ). OutputFront Step print start bs (r.out ++ b.out)) (append-nil (r.taken ++ piece)) fronts) t;
    }

cut_of : {S : Type 0} (Step : StepOf S) (print : S → List ℕ) (most : ℕ) (start : S) (lo la wo wa wb : Option (List ℕ)) (a : S) (ha : List ℕ) (fa : Bool) (count : ℕ) → Reading Step most start lo la wo wa a ha fa count → CloseCut Step print most wa wb a ha fa → Exchange lo la wo wb (OutputFront Step print start)
cut_of Step print most start lo la wo wa wb a ha fa count r c =
    record { taken = r.taken; out = r.out ++ c.out; consumes = r.consumes; appends = Appends-append wo wa wb r.out c.out r.appends c.appends; holds = c.front start r.taken r.out r.fed }

pub Ran-closes : {S : Type 0} (Step : StepOf S) (print : S → List ℕ) (most : ℕ) (start : S) (lo la wo wa wb : Option (List ℕ)) (a : S) (ha : List ℕ) (fa : Bool) (count : ℕ) (end : LinesEnd) → Reading Step most start lo la wo wa a ha fa count → ClosesBy Step print most wa wb a ha fa end → LinesRan Step print start lo la wo wb end
Ran-closes Step print most start lo la wo wa wb a ha fa count (Ended f) r c =
    record { taken = r.taken; out = r.out ++ c.out; consumes = r.consumes; appends = Appends-append wo wa wb r.out c.out r.appends c.appends; holds = c.whole start r.taken r.out r.fed }
Ran-closes Step print most start lo la wo wa wb a ha fa count ReadFault r c = absurd c
Ran-closes Step print most start lo la wo wa wb a ha fa count WriteFault r c = cut_of Step print most start lo la wo wa wb a ha fa count r c
Ran-closes Step print most start lo la wo wa wb a ha fa count Memory r c = cut_of Step print most start lo la wo wa wb a ha fa count r c
Ran-closes Step print most start lo la wo wa wb a ha fa count Limit r c = absurd c

-- a run that closes has ended, or a write failed, or there was no memory
pub ClosesBy-cases : {S : Type 0} (Step : StepOf S) (print : S → List ℕ) (most : ℕ) (wa wb : Option (List ℕ)) (a : S) (ha : List ℕ) (fa : Bool) (end : LinesEnd) → ClosesBy Step print most wa wb a ha fa end → (end ≢ ReadFault) × (end ≢ Limit)
ClosesBy-cases Step print most wa wb a ha fa (Ended f) c = (λ e. cc, λ e. cc)
ClosesBy-cases Step print most wa wb a ha fa ReadFault c = absurd c
ClosesBy-cases Step print most wa wb a ha fa WriteFault c = (λ e. cc, λ e. cc)
ClosesBy-cases Step print most wa wb a ha fa Memory c = (λ e. cc, λ e. cc)
ClosesBy-cases Step print most wa wb a ha fa Limit c = absurd c

pub IfEnded-always : (end : LinesEnd) (P : Type 0) → P → IfEnded end (λ flawed. P)
IfEnded-always (Ended f) P p = p
IfEnded-always ReadFault P p = tt
IfEnded-always WriteFault P p = tt
IfEnded-always Memory P p = tt
IfEnded-always Limit P p = tt

pub limit_due : (end : LinesEnd) (ro rn wo wn : ℕ) (ended : Bool) → IfEnded end (λ flawed. ended ≡ true) → ReadsCause ro rn end → WritesCause wo wn end → ¬ Rose ro rn → ¬ Rose wo wn → ended ≡ false → IsLimitOrMemory end
limit_due (Ended f) ro rn wo wn ended t reads writes no_read no_write e = false≢true (sym e ∙ t)
limit_due ReadFault ro rn wo wn ended t reads writes no_read no_write e = absurd (no_read (reads.failed refl))
limit_due WriteFault ro rn wo wn ended t reads writes no_read no_write e = absurd (no_write (writes.failed refl))
limit_due Memory ro rn wo wn ended t reads writes no_read no_write e = tt
limit_due Limit ro rn wo wn ended t reads writes no_read no_write e = tt

too_long : (bytes ys taken : List ℕ) → bytes ≡ taken ++ ys → length taken ≡ 2 ^ 40 → length bytes < 2 ^ 40 → ⊥
too_long bytes ys taken e l short = omega (arith, ap length e, length-append taken ys)

pub complete : {S : Type 0} (Step : StepOf S) (print : S → List ℕ) (start : S) (lo la written_old written_new : Option (List ℕ)) (end : LinesEnd) (ro rn wo wn : ℕ) → LinesRan Step print start lo la written_old written_new end → ReadsCause ro rn end → WritesCause wo wn end → ¬ Rose ro rn → ¬ Rose wo wn → IfSome lo (λ bytes. length bytes < 2 ^ 40 → IsEndedOrMemory end)
complete Step print start None la written_old written_new end ro rn wo wn r reads writes no_read no_write = tt
complete Step print start (Some bytes) la written_old written_new (Ended f) ro rn wo wn r reads writes no_read no_write = λ l. tt
complete Step print start (Some bytes) la written_old written_new ReadFault ro rn wo wn r reads writes no_read no_write = λ l. absurd (no_read (reads.failed refl))
complete Step print start (Some bytes) la written_old written_new WriteFault ro rn wo wn r reads writes no_read no_write = λ l. absurd (no_write (writes.failed refl))
complete Step print start (Some bytes) la written_old written_new Memory ro rn wo wn r reads writes no_read no_write = λ l. tt
complete Step print start (Some bytes) None written_old written_new Limit ro rn wo wn r reads writes no_read no_write = λ l. absurd r.consumes
complete Step print start (Some bytes) (Some ys) written_old written_new Limit ro rn wo wn r reads writes no_read no_write = λ l. absurd (too_long bytes ys r.taken r.consumes r.holds.1 l)
