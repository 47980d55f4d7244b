-- Of each number the least name that has it.
use Rattle.std.proofs.Common.{◌≡◌, ◌≢◌, ℕ, ◌+◌, ◌<◌, ◌==◌, List, [], ◌∷◌, ◌++◌, length, get_or, take, Bool, true, false, cond, ◌&&◌, ◌||◌, Option, Some, None, refl, sym, ◌∙◌, ap, ⊎_elim}
use Rattle.std.specs.List.{list_any}
use Rattle.std.specs.declared.cmp.Ordering.{Ordering}
use Rattle.std.specs.declared.cmp.Ordering.TheVariants.{Less, Equal, Greater}
use Rattle.std.specs.Ordering.{is_lt, is_eq, nat_cmp, ordering_reverse}
use Rattle.std.specs.Cmp.Lexicographic.{nat_list_cmp_total}
use Rattle.std.proofs.lemmas.Bool.{cases_eq, eq-eqb, ne_eqb}
use Rattle.std.proofs.lemmas.Cmp.{tied_itself, nat_cmp_total}
use Rattle.std.proofs.lemmas.Map.Lookups.{exact_unsigned}
use Rattle.std.proofs.lemmas.List.{take_more}
use Rattle.std.proofs.lemmas.List.Folds.{list_any-append}
use Rattle.ocsf_lists.specs.ByName.{text_cmp}
use Rattle.ocsf_bundle.specs.declared.numbers.Numbered.{Numbered}
use Rattle.ocsf_bundle.specs.BundleFaults.{is_before}
use Rattle.ocsf_bundle.specs.OwnFaults.{has_lesser}

less_of : (r : Ordering) → is_lt r ≡ true → r ≡ Less
less_of Less h = refl
less_of Equal h = cc
less_of Greater h = cc

or_false : (b : Bool) → b ≡ (b || false)
or_false true = refl
or_false false = refl

-- what is before the one is before the other
less_trans : (a b c : List ℕ) → is_lt (text_cmp a b) ≡ true → is_lt (text_cmp b c) ≡ true → is_lt (text_cmp a c) ≡ true
less_trans a b c h k = ap is_lt (nat_list_cmp_total.trans a b c (less_of (text_cmp a b) h) (less_of (text_cmp b c) k))

not_less : (a b c : List ℕ) → is_lt (text_cmp a b) ≡ false → is_lt (text_cmp a c) ≡ true → is_lt (text_cmp b c) ≡ true
not_less a b c h k =
    elim (text_cmp a b) as (λ (r : Ordering). text_cmp a b ≡ r → is_lt r ≡ false → is_lt (text_cmp b c) ≡ true) [
      | Less ↦ λ e f. cc
      | Equal ↦ λ e f. ap is_lt (sym (nat_list_cmp_total.congr a b c e)) ∙ k
      | Greater ↦ λ e f. less_trans b a c (ap is_lt (nat_list_cmp_total.antisymm b a ∙ ap ordering_reverse e)) k
    ] refl h

-- one that comes after the least name that is kept changes nothing
after_kept : (o : Option (List ℕ)) (x name : List ℕ) → has_lesser o x ≡ true → has_lesser o name ≡ (has_lesser o name || is_lt (text_cmp x name))
after_kept None x name h = cc
after_kept (Some m) x name h =
    elim (is_lt (text_cmp x name)) as (λ b. is_lt (text_cmp x name) ≡ b → is_lt (text_cmp m name) ≡ (is_lt (text_cmp m name) || b)) [
      | true ↦ λ e. let k = less_trans m x name h e in k ∙ ap (λ b. b || true) (sym k)
      | false ↦ λ e. or_false (is_lt (text_cmp m name))
    ] refl

-- one that doesn't takes its place
before_kept : (o : Option (List ℕ)) (x name : List ℕ) → has_lesser o x ≡ false → is_lt (text_cmp x name) ≡ (has_lesser o name || is_lt (text_cmp x name))
before_kept None x name h = refl
before_kept (Some m) x name h =
    elim (is_lt (text_cmp m name)) as (λ b. is_lt (text_cmp m name) ≡ b → is_lt (text_cmp x name) ≡ (b || is_lt (text_cmp x name))) [
      | true ↦ λ e. not_less m x name h e
      | false ↦ λ e. refl
    ] refl

before_as : (number : ℕ) (name : List ℕ) (x : Numbered) (b : Bool) → (x.number == number) ≡ b → is_before number name x ≡ (b && is_lt (text_cmp x.name name))
before_as number name x b e = ap (λ t. t && is_lt (text_cmp x.name name)) e

pub kept_lesser : (found : ℕ → Option (List ℕ)) (x : Numbered) → has_lesser (found x.number) x.name ≡ true
    → (number : ℕ) (name : List ℕ) → has_lesser (found number) name ≡ (has_lesser (found number) name || is_before number name x)
kept_lesser found x h number name =
    ⊎_elim
    (λ (e : x.number ≡ number).
    after_kept (found number) x.name name (ap (λ n. has_lesser (found n) x.name) (sym e) ∙ h)
    ∙ ap (λ b. has_lesser (found number) name || b) (sym (before_as number name x true (eq-eqb x.number number e))))
    (λ (ne : x.number ≢ number).
    or_false (has_lesser (found number) name)
    ∙ ap (λ b. has_lesser (found number) name || b) (sym (before_as number name x false (ne_eqb x.number number ne))))
    (cases_eq x.number number)

apart : (a b : ℕ) → a ≢ b → is_eq (nat_cmp a b) ≡ false
apart a b ne =
    elim (nat_cmp a b) as (λ (r : Ordering). nat_cmp a b ≡ r → is_eq r ≡ false) [
      | Less ↦ λ e. refl
      | Equal ↦ λ e. absurd (ne (exact_unsigned a b e))
      | Greater ↦ λ e. refl
    ] refl

tied : (a b : ℕ) → a ≡ b → is_eq (nat_cmp a b) ≡ true
tied a b e = ap (λ n. is_eq (nat_cmp a n)) (sym e) ∙ ap is_eq (tied_itself nat_cmp_total a)

pub put_lesser : (found : ℕ → Option (List ℕ)) (x : Numbered) → has_lesser (found x.number) x.name ≡ false
    → (number : ℕ) (name : List ℕ) → has_lesser (cond (is_eq (nat_cmp x.number number)) (Some x.name) (found number)) name ≡ (has_lesser (found number) name || is_before number name x)
put_lesser found x h number name =
    ⊎_elim
    (λ (e : x.number ≡ number).
    ap (λ b. has_lesser (cond b (Some x.name) (found number)) name) (tied x.number number e)
    ∙ before_kept (found number) x.name name (ap (λ n. has_lesser (found n) x.name) (sym e) ∙ h)
    ∙ ap (λ b. has_lesser (found number) name || b) (sym (before_as number name x true (eq-eqb x.number number e))))
    (λ (ne : x.number ≢ number).
    ap (λ b. has_lesser (cond b (Some x.name) (found number)) name) (apart x.number number ne)
    ∙ or_false (has_lesser (found number) name)
    ∙ ap (λ b. has_lesser (found number) name || b) (sym (before_as number name x false (ne_eqb x.number number ne))))
    (cases_eq x.number number)

-- one item more
pub any_more : {X : Type 0} (p : X → Bool) (xs : List X) (i : ℕ) (x : X) → i < length xs → x ≡ get_or xs i x → list_any p (take (i + 1) xs) ≡ (list_any p (take i xs) || p x)
any_more p xs i x h at =
    ap (list_any p) (take_more xs i x h ∙ ap (λ y. take i xs ++ y ∷ []) (sym at))
    ∙ list_any-append p (take i xs) (x ∷ [])
    ∙ ap (λ b. list_any p (take i xs) || b) (sym (or_false (p x)))
