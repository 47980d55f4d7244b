-- What a use does to the list of texts.
use Rattle.std.proofs.Common.{◌≡◌, ℕ, zero, suc, ◌+◌, ◌-◌, ◌≤◌, ◌<◌, Bool, true, false, cond, List, [], ◌∷◌, map, take, length, Option, Some, None, IfSome, is_some, All, refl, sym, ap, ap₂, ◌∙◌, subst, arith, string_bytes, String, min}
use Rattle.std.specs.Str.{bytes_eq}
use Rattle.std.specs.Cmp.Lexicographic.{bytes_decides}
use Rattle.std.specs.declared.alloc.Global.{Global}
use Rattle.std.specs.Map.{lookup, lookup_entry, remove_entry, set_value}
use Rattle.std.specs.Option.{option_map_or}
use Rattle.std.proofs.lemmas.List.{take-map, length-map, length-take}
use Rattle.std.proofs.lemmas.Option.{same_Some}
use Rattle.std.proofs.lemmas.List.Elements.{All-cons, All-head, All-tail, All-take}
use Rattle.lru.specs.LruCache.{LruCache, lru_cache, promoted, put_entries}
use Rattle.std.specs.String.{string_eq}
use Rattle.std.proofs.Common.{Result, Ok, Err, OnOk, OnErr}
use Rattle.ocsf_pattern.specs.Held.{without, used}

abbrev pub Entry : Type 0 → Type 0
Entry V = String Global × V

abbrev pub text_of : {V : Type 0} → Entry V → List ℕ
text_of e = string_bytes e.0

abbrev pub is_text : List ℕ → String Global → Bool
is_text text k = bytes_eq text (string_bytes k)

take-whole : {X : Type 0} (n : ℕ) (xs : List X) → length xs ≤ n → take n xs ≡ xs
take-whole zero [] h = refl
take-whole zero (x ∷ xs) h = let bad : suc (length xs) ≤ 0 = h in absurd (omega (arith, bad))
take-whole (suc n) [] h = refl
take-whole (suc n) (x ∷ xs) h = ap (λ ys. x ∷ ys) (take-whole n xs (omega (arith, h)))

module _ {V : Type 0} (text : List ℕ) where
  without-texts : (es : List (Entry V)) → map text_of (remove_entry (is_text text) es) ≡ without text (map text_of es)
  without-texts [] = refl
  without-texts (e ∷ es) = go (without-texts es) (bytes_eq text (string_bytes e.0))
    where
      go : map text_of (remove_entry (is_text text) es) ≡ without text (map text_of es) → (b : Bool) → map text_of (cond b es (e ∷ remove_entry (is_text text) es)) ≡ cond b (map text_of es) (text_of e ∷ without text (map text_of es))
      go rest true = refl
      go rest false = ap (λ ts. text_of e ∷ ts) rest

  -- what a text that is there means
  pub there : (es : List (Entry V)) → is_some (lookup (is_text text) es) ≡ true →
      (f : Entry V) × (lookup_entry (is_text text) es ≡ Some f) × (string_bytes f.0 ≡ text) × (length (remove_entry (is_text text) es) + 1 ≡ length es)
  there [] = λ h. absurd (cc)
  there (e ∷ es) = go (λ h. there es h) (bytes_eq text (string_bytes e.0)) refl
    where
      go : (is_some (lookup (is_text text) es) ≡ true →
          (f : Entry V) × (lookup_entry (is_text text) es ≡ Some f) × (string_bytes f.0 ≡ text) × (length (remove_entry (is_text text) es) + 1 ≡ length es)) → (b : Bool) → bytes_eq text (string_bytes e.0) ≡ b → is_some (cond b (Some e.1) (lookup (is_text text) es)) ≡ true →
          (f : Entry V) × (cond b (Some e) (lookup_entry (is_text text) es) ≡ Some f) × (string_bytes f.0 ≡ text)
          × (length (cond b es (e ∷ remove_entry (is_text text) es)) + 1 ≡ length (e ∷ es))
      go rest true at h = (e, refl, sym ((bytes_decides text (string_bytes e.0)).0 at), omega arith)
      go rest false at h = let r = rest h in (r.0, r.1, r.2, omega (arith, r.3))

  -- and one that is not there
  pub absent : (es : List (Entry V)) → is_some (lookup (is_text text) es) ≡ false →
      (lookup_entry (is_text text) es ≡ None) × (without text (map text_of es) ≡ map text_of es)
  absent [] = λ h. (refl, refl)
  absent (e ∷ es) = go (λ h. absent es h) (bytes_eq text (string_bytes e.0))
    where
      go : (is_some (lookup (is_text text) es) ≡ false →
          (lookup_entry (is_text text) es ≡ None) × (without text (map text_of es) ≡ map text_of es)) → (b : Bool) → is_some (cond b (Some e.1) (lookup (is_text text) es)) ≡ false →
          (cond b (Some e) (lookup_entry (is_text text) es) ≡ None)
          × (cond b (map text_of es) (text_of e ∷ without text (map text_of es)) ≡ text_of e ∷ map text_of es)
      go rest true h = absurd (cc)
      go rest false h = let r = rest h in (r.0, ap (λ ts. text_of e ∷ ts) r.1)

  module _ (P : Entry V → Type 0) where
    all_left : (es : List (Entry V)) → All P es → All P (remove_entry (is_text text) es)
    all_left [] a = a
    all_left (e ∷ es) a = go (all_left es (All-tail P e es a)) (bytes_eq text (string_bytes e.0))
      where
        go : All P (remove_entry (is_text text) es) → (b : Bool) → All P (cond b es (e ∷ remove_entry (is_text text) es))
        go rest true = All-tail P e es a
        go rest false = All-cons P e _ (All-head P e es a) rest

    pub entry_all : (es : List (Entry V)) → All P es → IfSome (lookup_entry (is_text text) es) P
    entry_all [] a = tt
    entry_all (e ∷ es) a = go (entry_all es (All-tail P e es a)) (bytes_eq text (string_bytes e.0))
      where
        go : IfSome (lookup_entry (is_text text) es) P → (b : Bool) → IfSome (cond b (Some e) (lookup_entry (is_text text) es)) P
        go rest true = All-head P e es a
        go rest false = rest

    -- what holds of the entries of the cache: the use of the text, at most eight, and P of each
    abbrev pub IsUse : List (Entry V) → List (Entry V) → Type 0
    IsUse old new = (map text_of new ≡ used text (map text_of old)) × (length new ≤ 8) × All P new

    pub use_there : (es : List (Entry V)) → length es ≤ 8 → All P es → is_some (lookup (is_text text) es) ≡ true →
        (change : Entry V → Entry V) → ((e : Entry V) → string_bytes (change e).0 ≡ string_bytes e.0) →
        ((e : Entry V) → string_bytes e.0 ≡ text → P e → P (change e)) →
        (other : List (Entry V)) →
        IsUse es (option_map_or (λ e. change e ∷ remove_entry (is_text text) es) (lookup_entry (is_text text) es) other)
    use_there es short a h change same kept other =
        let f = there es h in
        let left = all_left es a in
        let here : P f.0 = (rw f.1 at (entry_all es a)) in
        rw f.1 (
          ap₂ ◌∷◌ (same f.0 ∙ f.2) (without-texts es ∙ sym (take-whole 7 (without text (map text_of es)) (rw (← without-texts es, length-map) (omega (arith, f.3, short))))),
          omega (arith, f.3, short),
          All-cons P _ _ (kept f.0 f.2 here) left,
        )

    pub use_absent : (es : List (Entry V)) → length es ≤ 8 → All P es → is_some (lookup (is_text text) es) ≡ false →
        (e : Entry V) → string_bytes e.0 ≡ text → P e → IsUse es (e ∷ take 7 es)
    use_absent es short a h e same holds =
        let r = absent es h in (
          ap₂ ◌∷◌ same (sym (take-map text_of 7 es) ∙ ap (take 7) (sym r.1)),
          omega (arith, length-take 7 es),
          All-cons P _ _ holds (All-take P 7 es a),
        )

-- what the code keeps of a cache
abbrev pub IsHeldBy : {V : Type 0} → (Entry V → Type 0) → LruCache (String Global) V → Type 0
IsHeldBy P c = (c.cap ≡ 8) × (length c.entries ≤ 8) × All P c.entries

module _ {V : Type 0} (P : Entry V → Type 0) (k : String Global) (v : V) where
  abbrev pub IsHeld : LruCache (String Global) V → Type 0
  IsHeld = IsHeldBy P

  put_use : (es : List (Entry V)) → length es ≤ 8 → All P es → P (k, v) →
      ((e : Entry V) → string_bytes e.0 ≡ string_bytes k → P e → P (e.0, v)) →
      IsUse (string_bytes k) P es (put_entries string_eq (lru_cache es 8) k v)
  put_use es short a here kept = go (is_some (lookup (is_text (string_bytes k)) es)) refl
    where
      go : (b : Bool) → is_some (lookup (is_text (string_bytes k)) es) ≡ b → IsUse (string_bytes k) P es (put_entries string_eq (lru_cache es 8) k v)
      go true at = use_there (string_bytes k) P es short a at (λ e. (e.0, v)) (λ e. refl) kept ((k, v) ∷ take 7 es)
      go false at = rw (absent (string_bytes k) es at).0 (use_absent (string_bytes k) P es short a at (k, v) refl here)

  module _ (old new : LruCache (String Global) V) (held : IsHeld old) (here : P (k, v))
      (kept : (e : Entry V) → string_bytes e.0 ≡ string_bytes k → P e → P (e.0, v)) where
    after : IsHeld (lru_cache (put_entries string_eq old k v) old.cap)
        × (map text_of (put_entries string_eq old k v) ≡ used (string_bytes k) (map text_of old.entries))
    after =
        let u = put_use old.entries held.1 held.2 here kept in
        let Both : ℕ → Type 0 = λ n. IsHeld (lru_cache (put_entries string_eq (lru_cache old.entries n) k v) n)
        × (map text_of (put_entries string_eq (lru_cache old.entries n) k v) ≡ used (string_bytes k) (map text_of old.entries)) in
        subst Both (sym held.0) ((refl, u.1, u.2), u.0)

    pub held_after : {A E : Type 0} (r : Result A E) → OnOk r (new ≡ lru_cache (put_entries string_eq old k v) old.cap) → OnErr r (new ≡ old) → IsHeld new
    held_after (Ok x) ok err = subst IsHeld (sym ok) after.0
    held_after (Err e) ok err = subst IsHeld (sym err) held

    pub texts_after : new ≡ lru_cache (put_entries string_eq old k v) old.cap → map text_of new.entries ≡ used (string_bytes k) (map text_of old.entries)
    texts_after ok = ap (λ (c : LruCache (String Global) V). map text_of c.entries) ok ∙ after.1

-- what `promote` leaves
module _ {V : Type 0} (P : Entry V → Type 0) (text : List ℕ) (old new : LruCache (String Global) V) (held : IsHeldBy P old)
    (is_new : new ≡ lru_cache (promoted (is_text text) old.entries) old.cap) where
  pub promoted_there : is_some (lookup (is_text text) old.entries) ≡ true → IsUse text P old.entries new.entries
  promoted_there at =
      subst (λ (c : LruCache (String Global) V). IsUse text P old.entries c.entries) (sym is_new)
      (use_there text P old.entries held.1 held.2 at (λ e. e) (λ e. refl) (λ e same h. h) old.entries)

  pub promoted_absent : is_some (lookup (is_text text) old.entries) ≡ false → new ≡ old
  promoted_absent at = is_new ∙ rw (absent text old.entries at).0 refl

  pub promoted_held : (b : Bool) → is_some (lookup (is_text text) old.entries) ≡ b → IsHeldBy P new
  promoted_held true at = let u = promoted_there at in (ap (λ (c : LruCache (String Global) V). c.cap) is_new ∙ held.0, u.1, u.2)
  promoted_held false at = subst (IsHeldBy P) (sym (promoted_absent at)) held

-- what a look-up that finds a value means
pub found_all : {X : Type 0} (P : Entry X → Type 0) (text : List ℕ) (es : List (Entry X)) → All P es → (v : X) → Some v ≡ lookup (is_text text) es →
    (e : Entry X) × (e.1 ≡ v) × (string_bytes e.0 ≡ text) × P e
found_all {X = X} P text [] a v h = absurd (cc)
found_all {X = X} P text (e ∷ es) a v h =
    go (found_all P text es (All-tail P e es a) v) (bytes_eq text (string_bytes e.0)) refl h
  where
    go : (Some v ≡ lookup (is_text text) es → (f : Entry X) × (f.1 ≡ v) × (string_bytes f.0 ≡ text) × P f) →
        (b : Bool) → bytes_eq text (string_bytes e.0) ≡ b → Some v ≡ cond b (Some e.1) (lookup (is_text text) es) →
        (f : Entry X) × (f.1 ≡ v) × (string_bytes f.0 ≡ text) × P f
    go rest true at h = (e, same_Some _ _ (sym h), sym ((bytes_decides text (string_bytes e.0)).0 at), All-head P e es a)
    go rest false at h = rest h

-- what a value written in its place leaves
module _ {V : Type 0} (text : List ℕ) (w : V) where
  pub written_texts : (es : List (Entry V)) → map text_of (set_value (is_text text) es w) ≡ map text_of es
  written_texts [] = refl
  written_texts (e ∷ es) = go (written_texts es) (bytes_eq text (string_bytes e.0))
    where
      go : map text_of (set_value (is_text text) es w) ≡ map text_of es → (b : Bool) →
          map text_of (cond b ((e.0, w) ∷ es) (e ∷ set_value (is_text text) es w)) ≡ text_of e ∷ map text_of es
      go rest true = refl
      go rest false = ap (λ ts. text_of e ∷ ts) rest

  pub written_there : (es : List (Entry V)) → is_some (lookup (is_text text) (set_value (is_text text) es w)) ≡ is_some (lookup (is_text text) es)
  written_there [] = refl
  written_there (e ∷ es) = go (written_there es) (bytes_eq text (string_bytes e.0)) refl
    where
      go : is_some (lookup (is_text text) (set_value (is_text text) es w)) ≡ is_some (lookup (is_text text) es) → (b : Bool) → bytes_eq text (string_bytes e.0) ≡ b →
          is_some (lookup (is_text text) (cond b ((e.0, w) ∷ es) (e ∷ set_value (is_text text) es w))) ≡ is_some (cond b (Some e.1) (lookup (is_text text) es))
      go rest true at = rw at refl
      go rest false at = rw at rest

  length_written : (es : List (Entry V)) → length (set_value (is_text text) es w) ≡ length es
  length_written es = sym (length-map _ _) ∙ ap length (written_texts es) ∙ length-map _ _

  module _ (P : Entry V → Type 0) (here : (e : Entry V) → string_bytes e.0 ≡ text → P (e.0, w)) where
    written_all : (es : List (Entry V)) → All P es → All P (set_value (is_text text) es w)
    written_all [] a = a
    written_all (e ∷ es) a = go (written_all es (All-tail P e es a)) (bytes_eq text (string_bytes e.0)) refl
      where
        go : All P (set_value (is_text text) es w) → (b : Bool) → bytes_eq text (string_bytes e.0) ≡ b → All P (cond b ((e.0, w) ∷ es) (e ∷ set_value (is_text text) es w))
        go rest true at = All-cons P _ _ (here e (sym ((bytes_decides text (string_bytes e.0)).0 at))) (All-tail P e es a)
        go rest false at = All-cons P _ _ (All-head P e es a) rest

    pub written_held : (c : LruCache (String Global) V) → IsHeldBy P c → IsHeldBy P (lru_cache (set_value (is_text text) c.entries w) c.cap)
    written_held c held = (held.0, subst (λ n. n ≤ 8) (sym (length_written c.entries)) held.1, written_all c.entries held.2)
