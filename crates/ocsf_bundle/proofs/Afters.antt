-- What stands after changes.
use Rattle.std.proofs.Common.{◌≡◌, ℕ, ◌+◌, ◌<◌, ◌≤◌, List, [], ◌∷◌, ◌++◌, length, get_or, take, map, Bool, true, false, cond, Option, Some, None, unwrap_or, refl, sym, ◌∙◌, ap, subst, append-nil, arith, ⊎_elim}
use Rattle.std.specs.Prelude.{IsSome}
use Rattle.std.specs.Option.{option_or, option_and_then, option_map, IfSome}
use Rattle.std.specs.List.{filter_map, cons_option}
use Rattle.std.specs.Str.{bytes_eq}
use Rattle.std.specs.Ordering.{is_eq, is_lt}
use Rattle.std.specs.declared.cmp.Ordering.{Ordering}
use Rattle.std.specs.declared.cmp.Ordering.TheVariants.{Less, Equal, Greater}
use Rattle.std.specs.FinMap.Entries.{below_all}
use Rattle.std.proofs.lemmas.List.{take_more, get_or_default}
use Rattle.std.proofs.lemmas.List.Elements.{filter_map-append}
use Rattle.std.proofs.lemmas.Bool.{and_from, and_parts, cases_lt}
use Rattle.std.proofs.lemmas.Map.Text.{is_eq-slice_cmp}
use Rattle.ocsf_lists.specs.ByName.{text_cmp, named, at_name, is_by_name, IsByName}
use Rattle.ocsf_lists.specs.FirstOfEach.{first_of_each}
use Rattle.ocsf_tree.specs.declared.tree.Tree.{Tree}
use Rattle.ocsf_tree.specs.declared.fault.Fault.{Fault}
use Rattle.ocsf_raw.specs.declared.path_form.Form.{Form}
use Rattle.ocsf_raw.specs.Forms.{form_of}
use Rattle.ocsf_lists.proofs.NameLists.{same_text}
use Rattle.ocsf_lists.proofs.FirstOfEach.{same_lists, name-at_name, at_name-append, IsByName-first_of_each, at_name-first_of_each}
use Rattle.ocsf_bundle.specs.declared.edit.Change.{Change}
use Rattle.ocsf_bundle.specs.declared.edit.Change.TheVariants as change
use Rattle.ocsf_bundle.specs.declared.stored.StoredFile.{StoredFile}
use Rattle.ocsf_bundle.specs.Stored.{stored_path}
use Rattle.ocsf_bundle.specs.After.{subject_of, file_of_form, file_said, name_said, last_of, said_of, stands_after, all_after, file_after, IsChangeFault, IsChangeFine, AreFine, IsFirstFault}
use Rattle.ocsf_bundle.proofs.NamedMaps.{flipped}
use Rattle.ocsf_bundle.proofs.Grouped.{same_bytes}

last-push : {A : Type 0} (xs : List A) (x : A) → last_of (xs ++ x ∷ []) ≡ Some x
last-push [] x = refl
last-push (y ∷ ys) x = ap (λ o. option_or o (Some y)) (last-push ys x)

last-more : {A : Type 0} (xs : List A) (o : Option A) → last_of (xs ++ cons_option o []) ≡ option_or o (last_of xs)
last-more xs None = ap last_of (append-nil xs)
last-more xs (Some x) = last-push xs x

or_twice : {A : Type 0} (o l : Option A) (d : A) → unwrap_or (option_or o l) d ≡ unwrap_or o (unwrap_or l d)
or_twice None l d = refl
or_twice (Some x) l d = refl

over : {B : Type 0} (Q : B → Type 0) (l : Option B) (y : B) → IfSome l Q → Q y → IfSome (option_or l (Some y)) Q
over Q None y h q = q
over Q (Some z) y h q = h

one_more : {B : Type 0} (Q : B → Type 0) (o : Option B) (ys : List B) → IfSome o Q → IfSome (last_of ys) Q → IfSome (last_of (cons_option o ys)) Q
one_more Q None ys h k = k
one_more Q (Some y) ys h k = over Q (last_of ys) y k h

last-holds : {A B : Type 0} (Q : B → Type 0) (f : A → Option B) → ((x : A) → IfSome (f x) Q) → (xs : List A) → IfSome (last_of (filter_map f xs)) Q
last-holds Q f each [] = tt
last-holds Q f each (x ∷ xs) = one_more Q (f x) (filter_map f xs) (each x) (last-holds Q f each xs)

-- ---- lists of what names give

module _ {X : Type 0} (name : X → List ℕ) (g : List ℕ → Option X) (named_so : (q : List ℕ) → IfSome (g q) (λ x. name x ≡ q)) where
  below-kept : (k : List ℕ) (ns : List (List ℕ)) → below_all text_cmp k (named (λ n. n) ns) ≡ true → below_all text_cmp k (named name (filter_map g ns)) ≡ true
  below-kept k [] h = refl
  below-kept k (n ∷ ns) h =
      let parts = and_parts (is_lt (text_cmp k n)) (below_all text_cmp k (named (λ m. m) ns)) h in
      kept (g n) (named_so n) parts.0 (below-kept k ns parts.1)
    where
      kept : (o : Option X) → IfSome o (λ x. name x ≡ n) → is_lt (text_cmp k n) ≡ true → below_all text_cmp k (named name (filter_map g ns)) ≡ true → below_all text_cmp k (named name (cons_option o (filter_map g ns))) ≡ true
      kept None e lt rest = rest
      kept (Some x) e lt rest = and_from (is_lt (text_cmp k (name x))) (below_all text_cmp k (named name (filter_map g ns))) (ap (λ m. is_lt (text_cmp k m)) e ∙ lt) rest

  by_name-kept : (ns : List (List ℕ)) → IsByName (λ n. n) ns → IsByName name (filter_map g ns)
  by_name-kept [] h = refl
  by_name-kept (n ∷ ns) h =
      let parts = and_parts (below_all text_cmp n (named (λ m. m) ns)) (is_by_name (λ m. m) ns) h in
      kept (g n) (named_so n) (below-kept n ns parts.0) (by_name-kept ns parts.1)
    where
      kept : (o : Option X) → IfSome o (λ x. name x ≡ n) → below_all text_cmp n (named name (filter_map g ns)) ≡ true → IsByName name (filter_map g ns) → IsByName name (cons_option o (filter_map g ns))
      kept None e low rest = rest
      kept (Some x) e low rest = and_from (below_all text_cmp (name x) (named name (filter_map g ns))) (is_by_name name (filter_map g ns)) (ap (λ m. below_all text_cmp m (named name (filter_map g ns))) e ∙ low) rest

  nothing-later : (q : List ℕ) (ns : List (List ℕ)) → g q ≡ None → option_and_then g (at_name (λ n. n) q ns) ≡ None
  nothing-later q ns none = found (at_name (λ n. n) q ns) (name-at_name (λ n. n) q ns)
    where
      found : (o : Option (List ℕ)) → ((n : List ℕ) → o ≡ Some n → n ≡ q) → option_and_then g o ≡ None
      found None own = refl
      found (Some n) own = ap g (own n refl) ∙ none

  pub at_name-kept : (q : List ℕ) (ns : List (List ℕ)) → at_name name q (filter_map g ns) ≡ option_and_then g (at_name (λ n. n) q ns)
  at_name-kept q [] = refl
  at_name-kept q (n ∷ ns) = kept (g n) refl (named_so n) (at_name-kept q ns)
    where
      kept : (o : Option X) → g n ≡ o → IfSome o (λ x. name x ≡ n) → at_name name q (filter_map g ns) ≡ option_and_then g (at_name (λ m. m) q ns) → at_name name q (cons_option o (filter_map g ns)) ≡ option_and_then g (cond (is_eq (text_cmp q n)) (Some n) (at_name (λ m. m) q ns))
      kept None e own rest =
          elim (text_cmp q n) as (λ (r : Ordering). text_cmp q n ≡ r → at_name name q (filter_map g ns) ≡ option_and_then g (cond (is_eq r) (Some n) (at_name (λ m. m) q ns))) [
            | Less ↦ λ f. rest
            | Equal ↦ λ f. rest ∙ nothing-later q ns (ap g (same_text q n f) ∙ e) ∙ sym e
            | Greater ↦ λ f. rest
          ] refl
      kept (Some x) e own rest =
          ap (λ m. cond (is_eq (text_cmp q m)) (Some x) (at_name name q (filter_map g ns))) own
          ∙ elim (is_eq (text_cmp q n)) as (λ b. cond b (Some x) (at_name name q (filter_map g ns)) ≡ option_and_then g (cond b (Some n) (at_name (λ m. m) q ns))) [
            | true ↦ sym e
            | false ↦ rest
          ]

-- ---- what stands after changes

module _ {X : Type 0} (name : X → List ℕ) (said : Change → Option (Option X)) (own : (c : Change) → IfSome (said c) (λ o. IfSome o (λ x. name x ≡ subject_of c))) where
  -- one change more
  pub stands-more : (old : List X) (changes : List Change) (i : ℕ) (c : Change) → i < length changes → c ≡ get_or changes i c → (q : List ℕ) → stands_after name said old (take (i + 1) changes) q ≡ unwrap_or (said_of name said q c) (stands_after name said old (take i changes) q)
  stands-more old changes i c h at q =
      ap (λ l. unwrap_or (last_of (filter_map (said_of name said q) l)) (at_name name q old)) (take_more changes i c h ∙ ap (λ y. take i changes ++ y ∷ []) (sym at))
      ∙ ap (λ l. unwrap_or (last_of l) (at_name name q old)) (filter_map-append (said_of name said q) (take i changes) (c ∷ []))
      ∙ ap (λ o. unwrap_or o (at_name name q old)) (last-more (filter_map (said_of name said q) (take i changes)) (said_of name said q c))
      ∙ or_twice (said_of name said q c) (last_of (filter_map (said_of name said q) (take i changes))) (at_name name q old)

  said-own : (q : List ℕ) (c : Change) → IfSome (said_of name said q c) (λ o. IfSome o (λ x. name x ≡ q))
  said-own q c =
      elim (bytes_eq (subject_of c) q) as (λ (b : Bool). bytes_eq (subject_of c) q ≡ b → IfSome (cond b (said c) None) (λ o. IfSome o (λ x. name x ≡ q))) [
        | true ↦ λ e. let Q : List ℕ → Type 0 = λ n. IfSome (said c) (λ o. IfSome o (λ x. name x ≡ n)) in subst Q (same_bytes (subject_of c) q e) (own c)
        | false ↦ λ e. tt
      ] refl

  found-own : (q : List ℕ) (old : List X) (o : Option X) → at_name name q old ≡ o → IfSome o (λ x. name x ≡ q)
  found-own q old None e = tt
  found-own q old (Some x) e = name-at_name name q old x e

  or_else : (q : List ℕ) (o : Option (Option X)) (d : Option X) → IfSome o (λ p. IfSome p (λ x. name x ≡ q)) → IfSome d (λ x. name x ≡ q) → IfSome (unwrap_or o d) (λ x. name x ≡ q)
  or_else q None d h k = k
  or_else q (Some p) d h k = h

  -- what stands at a name has it
  pub stands-own : (old : List X) (changes : List Change) (q : List ℕ) → IfSome (stands_after name said old changes q) (λ x. name x ≡ q)
  stands-own old changes q =
      or_else q (last_of (filter_map (said_of name said q) changes)) (at_name name q old)
      (last-holds (λ o. IfSome o (λ x. name x ≡ q)) (said_of name said q) (said-own q) changes)
      (found-own q old (at_name name q old) refl)

  not_same : (q n : List ℕ) → is_eq (text_cmp q n) ≡ false → bytes_eq n q ≡ false
  not_same q n e = sym (is_eq-slice_cmp n q) ∙ flipped n q ∙ e

  or_parts : {A : Type 0} (o p : Option A) → option_or o p ≡ None → (o ≡ None) × (p ≡ None)
  or_parts None p e = (refl, e)
  or_parts (Some x) p e = cc

  unsaid : (q : List ℕ) (changes : List Change) → at_name (λ n. n) q (map subject_of changes) ≡ None → filter_map (said_of name said q) changes ≡ []
  unsaid q [] e = refl
  unsaid q (c ∷ changes) e =
      elim (is_eq (text_cmp q (subject_of c))) as (λ (b : Bool). is_eq (text_cmp q (subject_of c)) ≡ b → cond b (Some (subject_of c)) (at_name (λ n. n) q (map subject_of changes)) ≡ None → filter_map (said_of name said q) (c ∷ changes) ≡ []) [
        | true ↦ λ f h. cc
        | false ↦ λ f h. ap (λ b. cons_option (cond b (said c) None) (filter_map (said_of name said q) changes)) (not_same q (subject_of c) f) ∙ unsaid q changes h
      ] refl e

  not_found : (q : List ℕ) (old : List X) → at_name (λ n. n) q (map name old) ≡ None → at_name name q old ≡ None
  not_found q [] e = refl
  not_found q (x ∷ xs) e =
      elim (is_eq (text_cmp q (name x))) as (λ b. cond b (Some (name x)) (at_name (λ n. n) q (map name xs)) ≡ None → cond b (Some x) (at_name name q xs) ≡ None) [
        | true ↦ λ h. cc
        | false ↦ λ h. not_found q xs h
      ] e

  -- nothing stands at a name of which neither speaks
  unspoken : (old : List X) (changes : List Change) (q : List ℕ) → at_name (λ n. n) q (map name old ++ map subject_of changes) ≡ None → stands_after name said old changes q ≡ None
  unspoken old changes q e =
      let parts = or_parts (at_name (λ n. n) q (map name old)) (at_name (λ n. n) q (map subject_of changes)) (sym (at_name-append (λ n. n) q (map name old) (map subject_of changes)) ∙ e) in
      ap (λ l. unwrap_or (last_of l) (at_name name q old)) (unsaid q changes parts.1) ∙ not_found q old parts.0

  IsByName-all_after : (old : List X) (changes : List Change) → IsByName name (all_after name said old changes)
  IsByName-all_after old changes = by_name-kept name (stands_after name said old changes) (stands-own old changes) (first_of_each (λ q. q) (map name old ++ map subject_of changes)) (IsByName-first_of_each (λ q. q) (map name old ++ map subject_of changes))

  at_name-all_after : (old : List X) (changes : List Change) (q : List ℕ) → at_name name q (all_after name said old changes) ≡ stands_after name said old changes q
  at_name-all_after old changes q =
      at_name-kept name (stands_after name said old changes) (stands-own old changes) q (first_of_each (λ n. n) (map name old ++ map subject_of changes))
      ∙ ap (option_and_then (stands_after name said old changes)) (at_name-first_of_each (λ n. n) q (map name old ++ map subject_of changes))
      ∙ found (at_name (λ n. n) q (map name old ++ map subject_of changes)) refl
    where
      found : (o : Option (List ℕ)) → at_name (λ n. n) q (map name old ++ map subject_of changes) ≡ o → option_and_then (stands_after name said old changes) o ≡ stands_after name said old changes q
      found None e = sym (unspoken old changes q e)
      found (Some n) e = ap (stands_after name said old changes) (name-at_name (λ m. m) q (map name old ++ map subject_of changes) n e)

  -- a list by name that has at each name what stands there is all that stands
  pub all_after-is : (old : List X) (changes : List Change) (xs : List X) → IsByName name xs → ((q : List ℕ) → at_name name q xs ≡ stands_after name said old changes q) → xs ≡ all_after name said old changes
  all_after-is old changes xs up same =
      same_lists name xs (all_after name said old changes) up (IsByName-all_after old changes) (λ q. same q ∙ sym (at_name-all_after old changes q))

-- ---- what changes say has its name

pub names_own : (c : Change) → IfSome (name_said c) (λ o. IfSome o (λ (x : List ℕ). x ≡ subject_of c))
names_own (change.Put path tree) = tt
names_own (change.Remove path) = tt
names_own (change.Enable name) = refl
names_own (change.Disable name) = tt

path_kept : (path : List ℕ) (tree : Tree) (o : Option Form) → IfSome (option_map (file_of_form path tree) o) (λ file. stored_path file ≡ path)
path_kept path tree None = tt
path_kept path tree (Some form) = refl

pub files_own : (c : Change) → IfSome (file_said c) (λ o. IfSome o (λ file. stored_path file ≡ subject_of c))
files_own (change.Put path tree) = path_kept path tree (form_of path)
files_own (change.Remove path) = tt
files_own (change.Enable name) = tt
files_own (change.Disable name) = tt

-- ---- what comes of a change depends on what stands at its path alone

pub fine_same : (f g : List ℕ → Option StoredFile) → ((q : List ℕ) → f q ≡ g q) → (c : Change) → IsChangeFine f c → IsChangeFine g c
fine_same f g same (change.Put path tree) h = h
fine_same f g same (change.Remove path) h = subst (λ (o : Option StoredFile). IsSome o) (same path) h
fine_same f g same (change.Enable name) h = h
fine_same f g same (change.Disable name) h = h

pub fault_same : (f g : List ℕ → Option StoredFile) → ((q : List ℕ) → f q ≡ g q) → (c : Change) (fault : Fault) → IsChangeFault f c fault → IsChangeFault g c fault
fault_same f g same (change.Put path tree) fault h = h
fault_same f g same (change.Remove path) fault h = (sym (same path) ∙ h.0, h.1)
fault_same f g same (change.Enable name) fault h = h
fault_same f g same (change.Disable name) fault h = h

module _ (old : List StoredFile) (changes : List Change) (i : ℕ) (c : Change) (before : List ℕ → Option StoredFile) (h : i < length changes) (at : c ≡ get_or changes i c) (same : (q : List ℕ) → before q ≡ file_after old (take i changes) q) where
  -- one change more with which nothing is wrong
  pub fine-more : AreFine old changes i → IsChangeFine before c → AreFine old changes (i + 1)
  fine-more fine here k d below =
      ⊎_elim
      (λ (less : k < i). fine k d less)
      (λ (not_less : i ≤ k).
      let e : i ≡ k = omega arith in
      let there : c ≡ get_or changes k d = at ∙ get_or_default changes i c d h ∙ ap (λ j. get_or changes j d) e in
      let one : IsChangeFine (file_after old (take i changes)) c = fine_same before (file_after old (take i changes)) same c here in
      let two : IsChangeFine (file_after old (take k changes)) c = subst (λ (j : ℕ). IsChangeFine (file_after old (take j changes)) c) e one in
      subst (IsChangeFine (file_after old (take k changes))) there two)
      (cases_lt k i)

  -- the first change with which something is wrong
  pub first-fault : (fault : Fault) → AreFine old changes i → IsChangeFault before c fault → IsFirstFault old changes fault
  first-fault fault fine here = record {
    at = i;
    within = h;
    fine = fine;
    faulty = λ d.
        let there : c ≡ get_or changes i d = at ∙ get_or_default changes i c d h in
        let one : IsChangeFault (file_after old (take i changes)) c fault = fault_same before (file_after old (take i changes)) same c fault here in
        subst (λ (x : Change). IsChangeFault (file_after old (take i changes)) x fault) there one;
  }
