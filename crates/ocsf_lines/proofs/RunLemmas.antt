-- Runs of a machine, one after another.
use Rattle.std.proofs.Common.{◌≡◌, ℕ, List, [], ◌∷◌, ◌++◌, Bool, true, false, ◌||◌, refl, sym, ◌∙◌, ap, subst, append_assoc}
use Rattle.std.proofs.lemmas.List.{append-nil}
use Rattle.ocsf_lines.specs.Lines.{whole_lines}
use Rattle.ocsf_lines.specs.Run.{StepOf, Run, OutputFront}
use Rattle.ocsf_lines.proofs.LineLemmas.{lines_of-append}

-- each line has a reply
abbrev pub Total : {S : Type 0} → StepOf S → Type 0
Total {S} Step = (s : S) (line : List ℕ) → (reply : List ℕ) × (one : Bool) × (new : S) × Step s line reply one new

or_assoc : (a b c : Bool) → (a || b) || c ≡ a || (b || c)
or_assoc true b c = refl
or_assoc false b c = refl

or_false : (a : Bool) → a || false ≡ a
or_false true = refl
or_false false = refl

pub Run-append : {S : Type 0} (Step : StepOf S) (xs ys : List (List ℕ)) (a b c : S) (o p : List ℕ) (f g : Bool) → Run Step a xs o f b → Run Step b ys p g c → Run Step a (xs ++ ys) (o ++ p) (f || g) c
Run-append Step [] ys a b c o p f g r s =
    subst (λ (q : List ℕ). Run Step a ys (q ++ p) (f || g) c) (sym r.0)
    (subst (λ (h : Bool). Run Step a ys p (h || g) c) (sym r.1)
    (subst (λ (m : _). Run Step m ys p g c) r.2 s))
Run-append Step (x ∷ xs) ys a b c o p f g r s =
    let tail = Run-append Step xs ys r.2 b c r.3 p r.4 g r.6 s in
    (r.0, r.1, r.2, r.3 ++ p, r.4 || g, r.5, tail, ap (λ (q : List ℕ). q ++ p) r.7 ∙ append_assoc r.0 r.3 p, ap (λ (h : Bool). h || g) r.8 ∙ or_assoc r.1 r.4 g)

pub Run-one : {S : Type 0} (Step : StepOf S) (a b : S) (line reply : List ℕ) (one : Bool) → Step a line reply one b → Run Step a (line ∷ []) reply one b
Run-one Step a b line reply one s = (reply, one, b, [], false, s, (refl, refl, refl), sym (append-nil reply), sym (or_false one))

Run-total : {S : Type 0} (Step : StepOf S) → Total Step → (lines : List (List ℕ)) (a : S) → (out : List ℕ) × (flawed : Bool) × (b : S) × Run Step a lines out flawed b
Run-total Step total [] a = ([], false, a, (refl, refl, refl))
Run-total Step total (x ∷ xs) a =
    let one = total a x in
    let rest = Run-total Step total xs one.2 in
    (one.0 ++ rest.0, one.1 || rest.1, rest.2, (one.0, one.1, one.2, rest.0, rest.1, one.3, rest.3, refl, refl))

-- what answers the whole lines so far is a front of an output, however the bytes go on
pub OutputFront-from : {S : Type 0} (Step : StepOf S) (print : S → List ℕ) → Total Step → (start s : S) (bytes after o m : List ℕ) (f : Bool) → Run Step start (whole_lines bytes) (o ++ m) f s → OutputFront Step print start (bytes ++ after) o
OutputFront-from Step print total start s bytes after o m f run =
    let g = lines_of-append bytes after in
    let t = Run-total Step total g.0 s in
    let r = Run-append Step (whole_lines bytes) g.0 start s t.2 (o ++ m) t.0 f t.1 run t.3 in
    record {
      more = m ++ (t.0 ++ print t.2);
      flawed = f || t.1;
      output = record {
        replies = (o ++ m) ++ t.0;
        last = t.2;
        run = subst (λ (ls : List (List ℕ)). Run Step start ls ((o ++ m) ++ t.0) (f || t.1) t.2) (sym g.1) r;
        all = sym (append_assoc o m (t.0 ++ print t.2)) ∙ sym (append_assoc (o ++ m) t.0 (print t.2));
      };
    }
