-- A tree is an edit exactly where no place has a fault, and then one edit.
use Rattle.std.proofs.Common.{◌≡◌, ℕ, ◌+◌, List, [], ◌∷◌, Bool, true, false, cond, not, ◌&&◌, ◌||◌, Option, Some, None, refl, sym, ap, ap₂, ◌∙◌, subst, arith}
use Rattle.std.specs.Prelude.{codes, IsSomeAnd, All}
use Rattle.std.specs.List.{AllZip, AllByRecursion, filter_map, cons_option, list_any}
use Rattle.std.specs.Option.{IfSome, is_some, is_none, option_and_then}
use Rattle.std.specs.Str.{bytes_eq}
use Rattle.std.proofs.lemmas.List.Elements.{All-nil, All-cons}
use Rattle.std.proofs.lemmas.Option.{same_Some}
use Rattle.std.proofs.lemmas.Bool.Decides.{nat_tests}
use Rattle.ocsf_tree.specs.declared.tree.Tree.{Tree, out-Tree}
use Rattle.ocsf_tree.specs.declared.tree.Tree.TheOpen.{Tree-F}
use Rattle.ocsf_tree.specs.declared.tree.Member.{Member}
use Rattle.ocsf_tree.specs.Lookup.{member_in, member_of, member_at, items_of, text_of, text_at, is_null}
use Rattle.ocsf_tree.specs.Valid.{IsValid, IsValidList}
use Rattle.ocsf_tree.proofs.Valid.{first_item_valid}
use Rattle.ocsf_raw.specs.declared.what.What.TheVariants.{BadName}
use Rattle.ocsf_raw.specs.declared.wanted.Wanted.{Wanted}
use Rattle.ocsf_raw.specs.declared.wanted.Wanted.TheVariants.{Plain, Listed, Object}
use Rattle.ocsf_raw.specs.declared.wanted.Plain.TheVariants as plain
use Rattle.ocsf_raw.specs.declared.wanted.Listed.TheVariants as listed
use Rattle.ocsf_raw.specs.declared.wanted.Object.TheVariants as object
use Rattle.ocsf_raw.specs.Names.{is_name}
use Rattle.ocsf_raw.specs.Wanted.{there, kind_count, one_kind_fault, change_fault, text_fault, tested, some_list, change_fields, member_wanted, is_include, counts}
use Rattle.ocsf_raw.specs.Shape.{IsFaultless, is_given, change_needed}
use Rattle.ocsf_raw.proofs.Faultless.{plain_faultless, item_faultless, list_faultless, each_item, item_each, member_faultless, needed_given, object_faultless, EachField, field_each}
use Rattle.ocsf_raw.proofs.Parts.{valid_items, valid_member}
use Rattle.ocsf_raw.proofs.Sorts.{is_text, is_tested, is_list}
use Rattle.ocsf_bundle.specs.declared.edit.Change.{Change}
use Rattle.ocsf_bundle.specs.declared.edit.Change.TheVariants as change
use Rattle.ocsf_bundle.specs.declared.edit.Edit.{Edit}
use Rattle.ocsf_bundle.specs.EditContent.{given_or, put_or, change_of, changes_of}
use Rattle.ocsf_bundle.specs.Edits.{IsNameAt, SaysChange, IsChange, SaysEdit, IsValidChange, IsOneEdit}

-- ---- texts

text_there : (n : List ℕ) (t : Tree) (s : List ℕ) → text_at n t ≡ Some s → (u : Tree) × (member_at n t ≡ Some u) × (out-Tree u ≡ Tree-F.Words s)
text_there n t s e = go (member_at n t) refl e
  where
    words : (x : Tree-F Tree Member) → text_of x ≡ Some s → x ≡ Tree-F.Words s
    words Tree-F.Null e = cc
    words (Tree-F.Flag b) e = cc
    words (Tree-F.Whole z) e = cc
    words (Tree-F.Words w) e = cc
    words (Tree-F.List items) e = cc
    words (Tree-F.Members ms) e = cc

    go : (o : Option Tree) → member_at n t ≡ o → option_and_then (λ u. text_of (out-Tree u)) o ≡ Some s → (u : Tree) × (member_at n t ≡ Some u) × (out-Tree u ≡ Tree-F.Words s)
    go None at e = cc
    go (Some u) at e = (u, at, words (out-Tree u) e)

text_is : (n : List ℕ) (t u : Tree) (s : List ℕ) → member_at n t ≡ Some u → out-Tree u ≡ Tree-F.Words s → text_at n t ≡ Some s
text_is n t u s at shown = ap (option_and_then (λ x. text_of (out-Tree x))) at ∙ ap text_of shown

no_text : (n : List ℕ) (t : Tree) → member_at n t ≡ None → text_at n t ≡ None
no_text n t at = ap (option_and_then (λ x. text_of (out-Tree x))) at

-- ---- a change without a fault is one

object_there : (x : Tree-F Tree Member) → change_fault x ≡ None → (ms : List Member) × (x ≡ Tree-F.Members ms) × (kind_count x ≡ 1)
object_there (Tree-F.Members ms) e = (ms, refl, one (kind_count (Tree-F.Members ms)) e)
  where
    one : (n : ℕ) → one_kind_fault n ≡ None → n ≡ 1
    one n e = grind (arith, nat_tests)
object_there Tree-F.Null e = cc
object_there (Tree-F.Flag b) e = cc
object_there (Tree-F.Whole z) e = cc
object_there (Tree-F.Words s) e = cc
object_there (Tree-F.List items) e = cc

-- members of a change are read, also where they are `null`
is_read : (n : List ℕ) (u : Tree) → is_include n ≡ false → counts object.Change n (out-Tree u) ≡ true
is_read n u e = ap (λ b. not (is_null (out-Tree u)) || not b) e ∙ either (not (is_null (out-Tree u)))
  where
    either : (b : Bool) → (b || true) ≡ true
    either true = refl
    either false = refl

module _ (t : Tree) (clean : IsFaultless (Object object.Change) t) (ms : List Member) (shown : out-Tree t ≡ Tree-F.Members ms) where
  in_members : (n : List ℕ) (u : Tree) → member_at n t ≡ Some u → member_in n ms ≡ Some u
  in_members n u at = sym (ap (member_of n) shown) ∙ at

  member_clean : (n : List ℕ) (u : Tree) (v : Wanted) → is_include n ≡ false → member_at n t ≡ Some u → member_wanted object.Change n ≡ Some v → IsFaultless v u
  member_clean n u v other at wanted = member_faultless object.Change t ms shown clean n u v (in_members n u at) (is_read n u other) wanted

  put_text : (u : Tree) → member_at (codes "put") t ≡ Some u → (s : List ℕ) × (text_at (codes "put") t ≡ Some s)
  put_text u at =
      let words = is_text (out-Tree u) (member_clean (codes "put") u (Plain plain.Text) refl at refl []) in
      (words.0, text_is (codes "put") t u words.0 at words.1)

  remove_text : (u : Tree) → member_at (codes "remove") t ≡ Some u → (s : List ℕ) × (text_at (codes "remove") t ≡ Some s)
  remove_text u at =
      let words = is_text (out-Tree u) (member_clean (codes "remove") u (Plain plain.Text) refl at refl []) in
      (words.0, text_is (codes "remove") t u words.0 at words.1)

  name_text : (n : List ℕ) → is_include n ≡ false → member_wanted object.Change n ≡ Some (Plain plain.Name) → (u : Tree) → member_at n t ≡ Some u → (s : List ℕ) × IsNameAt n t s
  name_text n other wanted u at =
      let words = is_tested is_name BadName (out-Tree u) (member_clean n u (Plain plain.Name) other at wanted []) in
      (words.0, (text_is n t u words.0 at words.1, words.2))

  body_there : (u : Tree) → member_at (codes "put") t ≡ Some u → (v : Tree) × (member_at (codes "body") t ≡ Some v)
  body_there u at = go (member_at (codes "body") t) refl
    where
      given : member_at (codes "body") t ≡ None → is_given (member_in (codes "body") ms) ≡ true
      given none =
          let absent : member_in (codes "body") ms ≡ None = sym (ap (member_of (codes "body")) shown) ∙ none in
          let needed : change_needed ms ≡ codes "body" ∷ [] = ap₂ (λ p b. cond (is_some p && is_none b) (codes "body" ∷ []) []) (in_members (codes "put") u at) absent in
          needed_given object.Change t ms shown clean (codes "body") (ap (list_any (bytes_eq (codes "body"))) needed)

      go : (o : Option Tree) → member_at (codes "body") t ≡ o → (v : Tree) × (member_at (codes "body") t ≡ Some v)
      go (Some v) e = (v, e)
      go None e =
          let no : is_given None ≡ true = ap is_given (sym (sym (ap (member_of (codes "body")) shown) ∙ e)) ∙ given e in
          cc

  abbrev Made : Type 0
  Made = IsSomeAnd (change_of t) (IsChange t)

  made : (c : Change) → kind_count (out-Tree t) ≡ 1 → SaysChange t c → change_of t ≡ Some c → Made
  made c alone said e = subst (λ o. IsSomeAnd o (IsChange t)) (sym e) (record { alone = alone; said = said })

  -- what it says, by which of the four is there
  kinds : (p r e d : Option Tree) → member_at (codes "put") t ≡ p → member_at (codes "remove") t ≡ r → member_at (codes "enable") t ≡ e → member_at (codes "disable") t ≡ d
      → kind_count (out-Tree t) ≡ 1 → there p + there r + there e + there d ≡ 1 → Made
  kinds (Some u) None None None p r e d alone n =
      let path = put_text u p in
      let body = body_there u p in
      made (change.Put path.0 body.0) alone (path.1, body.1) (ap₂ (λ b x. put_or b x (given_or change.Remove (text_at (codes "remove") t) (given_or change.Enable (text_at (codes "enable") t) (given_or change.Disable (text_at (codes "disable") t) None)))) body.1 path.1)
  kinds None (Some u) None None p r e d alone n =
      let path = remove_text u r in
      made (change.Remove path.0) alone path.1
      (ap₂ (λ x y. put_or (member_at (codes "body") t) x (given_or change.Remove y (given_or change.Enable (text_at (codes "enable") t) (given_or change.Disable (text_at (codes "disable") t) None)))) (no_text (codes "put") t p) path.1)
  kinds None None (Some u) None p r e d alone n =
      let name = name_text (codes "enable") refl refl u e in
      made (change.Enable name.0) alone name.1
      (ap₂ (λ x y. put_or (member_at (codes "body") t) x (given_or change.Remove y (given_or change.Enable (text_at (codes "enable") t) (given_or change.Disable (text_at (codes "disable") t) None)))) (no_text (codes "put") t p) (no_text (codes "remove") t r)
      ∙ ap (λ z. given_or change.Enable z (given_or change.Disable (text_at (codes "disable") t) None)) name.1.0)
  kinds None None None (Some u) p r e d alone n =
      let name = name_text (codes "disable") refl refl u d in
      made (change.Disable name.0) alone name.1
      (ap₂ (λ x y. put_or (member_at (codes "body") t) x (given_or change.Remove y (given_or change.Enable (text_at (codes "enable") t) (given_or change.Disable (text_at (codes "disable") t) None)))) (no_text (codes "put") t p) (no_text (codes "remove") t r)
      ∙ ap₂ (λ y z. given_or change.Enable y (given_or change.Disable z None)) (no_text (codes "enable") t e) name.1.0)
  kinds p r e d _ _ _ _ _ n = absurd (omega arith)

says_change : (t : Tree) → IsFaultless (Object object.Change) t → IsSomeAnd (change_of t) (IsChange t)
says_change t clean =
    let found = object_there (out-Tree t) (clean []) in
    kinds t clean found.0 found.1 (member_at (codes "put") t) (member_at (codes "remove") t) (member_at (codes "enable") t) (member_at (codes "disable") t) refl refl refl refl found.2 found.2

-- ---- and a change has no fault

module _ (t : Tree) (alone : kind_count (out-Tree t) ≡ 1) where
  abbrev Is : List ℕ → Type 0
  Is n = (u : Tree) × (member_at n t ≡ Some u)

  one_there : (n : List ℕ) → Is n → there (member_at n t) ≡ 1
  one_there n h = ap there h.1

  put_remove : Is (codes "put") → Is (codes "remove") → ⊥
  put_remove a b = let x = one_there (codes "put") a in let y = one_there (codes "remove") b in omega arith

  put_enable : Is (codes "put") → Is (codes "enable") → ⊥
  put_enable a b = let x = one_there (codes "put") a in let y = one_there (codes "enable") b in omega arith

  put_disable : Is (codes "put") → Is (codes "disable") → ⊥
  put_disable a b = let x = one_there (codes "put") a in let y = one_there (codes "disable") b in omega arith

  remove_enable : Is (codes "remove") → Is (codes "enable") → ⊥
  remove_enable a b = let x = one_there (codes "remove") a in let y = one_there (codes "enable") b in omega arith

  remove_disable : Is (codes "remove") → Is (codes "disable") → ⊥
  remove_disable a b = let x = one_there (codes "remove") a in let y = one_there (codes "disable") b in omega arith

  enable_disable : Is (codes "enable") → Is (codes "disable") → ⊥
  enable_disable a b = let x = one_there (codes "enable") a in let y = one_there (codes "disable") b in omega arith

  text_is_there : (n s : List ℕ) → text_at n t ≡ Some s → Is n
  text_is_there n s e = let h = text_there n t s e in (h.0, h.1)

  -- two changes that it says are one
  same_change : (c d : Change) → SaysChange t c → SaysChange t d → c ≡ d
  same_change (change.Put p x) (change.Put q y) a b =
      let path : p ≡ q = same_Some p q (sym a.0 ∙ b.0) in
      let tree : x ≡ y = same_Some x y (sym a.1 ∙ b.1) in
      ap₂ change.Put path tree
  same_change (change.Put p x) (change.Remove q) a b = absurd (put_remove (text_is_there (codes "put") p a.0) (text_is_there (codes "remove") q b))
  same_change (change.Put p x) (change.Enable q) a b = absurd (put_enable (text_is_there (codes "put") p a.0) (text_is_there (codes "enable") q b.0))
  same_change (change.Put p x) (change.Disable q) a b = absurd (put_disable (text_is_there (codes "put") p a.0) (text_is_there (codes "disable") q b.0))
  same_change (change.Remove p) (change.Put q x) a b = absurd (put_remove (text_is_there (codes "put") q b.0) (text_is_there (codes "remove") p a))
  same_change (change.Remove p) (change.Remove q) a b = ap change.Remove (same_Some p q (sym a ∙ b))
  same_change (change.Remove p) (change.Enable q) a b = absurd (remove_enable (text_is_there (codes "remove") p a) (text_is_there (codes "enable") q b.0))
  same_change (change.Remove p) (change.Disable q) a b = absurd (remove_disable (text_is_there (codes "remove") p a) (text_is_there (codes "disable") q b.0))
  same_change (change.Enable p) (change.Put q x) a b = absurd (put_enable (text_is_there (codes "put") q b.0) (text_is_there (codes "enable") p a.0))
  same_change (change.Enable p) (change.Remove q) a b = absurd (remove_enable (text_is_there (codes "remove") q b) (text_is_there (codes "enable") p a.0))
  same_change (change.Enable p) (change.Enable q) a b = ap change.Enable (same_Some p q (sym a.0 ∙ b.0))
  same_change (change.Enable p) (change.Disable q) a b = absurd (enable_disable (text_is_there (codes "enable") p a.0) (text_is_there (codes "disable") q b.0))
  same_change (change.Disable p) (change.Put q x) a b = absurd (put_disable (text_is_there (codes "put") q b.0) (text_is_there (codes "disable") p a.0))
  same_change (change.Disable p) (change.Remove q) a b = absurd (remove_disable (text_is_there (codes "remove") q b) (text_is_there (codes "disable") p a.0))
  same_change (change.Disable p) (change.Enable q) a b = absurd (enable_disable (text_is_there (codes "enable") q b.0) (text_is_there (codes "disable") p a.0))
  same_change (change.Disable p) (change.Disable q) a b = ap change.Disable (same_Some p q (sym a.0 ∙ b.0))

  -- each of the four, where it is there, is as it is wanted
  text_clean : (n s : List ℕ) → text_at n t ≡ Some s → (u : Tree) → member_at n t ≡ Some u → IsFaultless (Plain plain.Text) u
  text_clean n s e u at =
      let h = text_there n t s e in
      let same : h.0 ≡ u = same_Some h.0 u (sym h.1 ∙ at) in
      subst (IsFaultless (Plain plain.Text)) same (plain_faultless plain.Text h.0 (ap text_fault h.2))

  name_clean : (n s : List ℕ) → IsNameAt n t s → (u : Tree) → member_at n t ≡ Some u → IsFaultless (Plain plain.Name) u
  name_clean n s e u at =
      let h = text_there n t s e.0 in
      let same : h.0 ≡ u = same_Some h.0 u (sym h.1 ∙ at) in
      subst (IsFaultless (Plain plain.Name)) same (plain_faultless plain.Name h.0 (ap (tested is_name BadName) h.2 ∙ ap (λ b. cond b None (Some BadName)) e.1))

  abbrev Clean : List ℕ → Wanted → Type 0
  Clean n v = (u : Tree) → member_at n t ≡ Some u → IsFaultless v u

  each_clean : (c : Change) → SaysChange t c → EachField Clean change_fields
  each_clean (change.Put p x) a =
      let here = text_is_there (codes "put") p a.0 in (
        λ u at. absurd (put_disable here (u, at)),
        (λ u at. absurd (put_enable here (u, at)), (text_clean (codes "put") p a.0, (λ u at. absurd (put_remove here (u, at)), tt))),
      )
  each_clean (change.Remove p) a =
      let here = text_is_there (codes "remove") p a in (
        λ u at. absurd (remove_disable here (u, at)),
        (λ u at. absurd (remove_enable here (u, at)), (λ u at. absurd (put_remove (u, at) here), (text_clean (codes "remove") p a, tt))),
      )
  each_clean (change.Enable p) a =
      let here = text_is_there (codes "enable") p a.0 in (
        λ u at. absurd (enable_disable here (u, at)),
        (name_clean (codes "enable") p a, (λ u at. absurd (put_enable (u, at) here), (λ u at. absurd (remove_enable (u, at) here), tt))),
      )
  each_clean (change.Disable p) a =
      let here = text_is_there (codes "disable") p a.0 in (
        name_clean (codes "disable") p a,
        (λ u at. absurd (enable_disable (u, at) here), (λ u at. absurd (put_disable (u, at) here), (λ u at. absurd (remove_disable (u, at) here), tt))),
      )

  -- where something is put its body is there
  with_body : (c : Change) → SaysChange t c → Is (codes "put") → Is (codes "body")
  with_body (change.Put p x) a put = (x, a.1)
  with_body (change.Remove p) a put = absurd (put_remove put (text_is_there (codes "remove") p a))
  with_body (change.Enable p) a put = absurd (put_enable put (text_is_there (codes "enable") p a.0))
  with_body (change.Disable p) a put = absurd (put_disable put (text_is_there (codes "disable") p a.0))

  module _ (c : Change) (said : SaysChange t c) (ms : List Member) (shown : out-Tree t ≡ Tree-F.Members ms) where
    at_in : (n : List ℕ) (o : Option Tree) → member_in n ms ≡ o → member_at n t ≡ o
    at_in n o e = ap (member_of n) shown ∙ e

    nothing_needed : change_needed ms ≡ []
    nothing_needed = go (member_in (codes "put") ms) refl
      where
        go : (p : Option Tree) → member_in (codes "put") ms ≡ p → change_needed ms ≡ []
        go None e = ap (λ p. cond (is_some p && is_none (member_in (codes "body") ms)) (codes "body" ∷ []) []) e
        go (Some u) e =
            let body = with_body c said (u, at_in (codes "put") (Some u) e) in
            ap₂ (λ p b. cond (is_some p && is_none b) (codes "body" ∷ []) []) e (sym (ap (member_of (codes "body")) shown) ∙ body.1)

    said_clean : IsFaultless (Object object.Change) t
    said_clean =
        object_faultless object.Change t ms shown
        (ap change_fault shown ∙ ap one_kind_fault (sym (ap kind_count shown) ∙ alone))
        (λ n u v found read wanted. field_each Clean change_fields (each_clean c said) n v wanted u (at_in n (Some u) found))
        (λ n needed. let none : false ≡ true = ap (list_any (bytes_eq n)) (sym nothing_needed) ∙ needed in cc)

change_clean : (t : Tree) (c : Change) → IsChange t c → IsFaultless (Object object.Change) t
change_clean t c is = go (out-Tree t) refl
  where
    none : (x : Tree-F Tree Member) → out-Tree t ≡ x → kind_count x ≡ 0 → IsFaultless (Object object.Change) t
    none x shown zero =
        let count : kind_count (out-Tree t) ≡ 0 = ap kind_count shown ∙ zero in
        absurd (omega (arith, is.alone))

    go : (x : Tree-F Tree Member) → out-Tree t ≡ x → IsFaultless (Object object.Change) t
    go Tree-F.Null shown = none Tree-F.Null shown refl
    go (Tree-F.Flag b) shown = none (Tree-F.Flag b) shown refl
    go (Tree-F.Whole z) shown = none (Tree-F.Whole z) shown refl
    go (Tree-F.Words s) shown = none (Tree-F.Words s) shown refl
    go (Tree-F.List items) shown = none (Tree-F.List items) shown refl
    go (Tree-F.Members ms) shown = said_clean t is.alone c is.said ms shown

-- ---- lists of changes

some_and : {A : Type 0} (o : Option A) (P : A → Type 0) → IsSomeAnd o P → (x : A) × (o ≡ Some x) × P x
some_and None P h = absurd h
some_and (Some x) P h = (x, refl, h)

listed_items : (x : Tree-F Tree Member) (items : List Tree) → items_of x ≡ Some items → x ≡ Tree-F.List items
listed_items Tree-F.Null items e = cc
listed_items (Tree-F.Flag b) items e = cc
listed_items (Tree-F.Whole z) items e = cc
listed_items (Tree-F.Words s) items e = cc
listed_items (Tree-F.List ts) items e = cc
listed_items (Tree-F.Members ms) items e = cc

abbrev CleanChange : Tree → Type 0
CleanChange t = IsFaultless (Object object.Change) t

changes_clean : (ts : List Tree) (cs : List Change) → AllZip IsChange ts cs → AllByRecursion CleanChange ts
changes_clean [] [] h = tt
changes_clean [] (c ∷ cs) h = absurd h
changes_clean (t ∷ ts) [] h = absurd h
changes_clean (t ∷ ts) (c ∷ cs) h = (change_clean t c h.0, changes_clean ts cs h.1)

changes_said : (ts : List Tree) → AllByRecursion CleanChange ts → AllZip IsChange ts (filter_map change_of ts)
changes_said [] h = tt
changes_said (t ∷ ts) h = go (change_of t) (says_change t h.0) (filter_map change_of ts) (changes_said ts h.1)
  where
    go : (o : Option Change) → IsSomeAnd o (IsChange t) → (cs : List Change) → AllZip IsChange ts cs → AllZip IsChange (t ∷ ts) (cons_option o cs)
    go None e cs rest = absurd e
    go (Some c) e cs rest = (e, rest)

same_changes : (ts : List Tree) (cs ds : List Change) → AllZip IsChange ts cs → AllZip IsChange ts ds → cs ≡ ds
same_changes [] [] [] a b = refl
same_changes [] (c ∷ cs) ds a b = absurd a
same_changes [] [] (d ∷ ds) a b = absurd b
same_changes (t ∷ ts) [] ds a b = absurd a
same_changes (t ∷ ts) (c ∷ cs) [] a b = absurd b
same_changes (t ∷ ts) (c ∷ cs) (d ∷ ds) a b = ap₂ (λ x xs. x ∷ xs) (same_change t a.0.alone c d a.0.said b.0.said) (same_changes ts cs ds a.1 b.1)

-- ---- edits

pub edit_clean : (t : Tree) (edit : Edit) → SaysEdit t edit → IsFaultless (Listed listed.Changes) t
edit_clean t edit said =
    let found = some_and (items_of (out-Tree t)) (λ items. AllZip IsChange items edit.changes) said in
    let shown = listed_items (out-Tree t) found.0 found.1 in
    let clean = changes_clean found.0 edit.changes found.2 in
    list_faultless listed.Changes t found.0 shown (ap some_list shown)
    (λ v wanted i u at. let kind : Object object.Change ≡ v = same_Some (Object object.Change) v wanted in subst (λ w. IsFaultless w u) kind (item_each CleanChange found.0 clean i u at))

pub edit_said : (t : Tree) → IsFaultless (Listed listed.Changes) t → SaysEdit t (record { changes = changes_of (out-Tree t) })
edit_said t clean =
    let found = is_list (out-Tree t) (clean []) in
    let each = each_item CleanChange found.0 (item_faultless listed.Changes t found.0 found.1 (Object object.Change) refl clean) in
    subst (λ x. IsSomeAnd (items_of x) (λ items. AllZip IsChange items (changes_of x))) (sym found.1) (changes_said found.0 each)

same_edit : (t : Tree) (a b : Edit) → SaysEdit t a → SaysEdit t b → a ≡ b
same_edit t a b x y = go (items_of (out-Tree t)) x y
  where
    go : (o : Option (List Tree)) → IsSomeAnd o (λ items. AllZip IsChange items a.changes) → IsSomeAnd o (λ items. AllZip IsChange items b.changes) → a ≡ b
    go None x y = absurd x
    go (Some items) x y = λ i. record { changes = same_changes items a.changes b.changes x y i }

pub one_edit : (t : Tree) → IsOneEdit t
one_edit t = (edit_clean t, λ clean. (record { changes = changes_of (out-Tree t) }, edit_said t clean), same_edit t)

-- ---- the trees that are put

put_valid : (path : Option (List ℕ)) (body : Option Tree) (other : Option Change) → IfSome body IsValid → IfSome other IsValidChange → IfSome (put_or body path other) IsValidChange
put_valid None body other v rest = rest
put_valid (Some path) None other v rest = tt
put_valid (Some path) (Some t) other v rest = v

given_valid : (kind : List ℕ → Change) → ((s : List ℕ) → IsValidChange (kind s)) → (text : Option (List ℕ)) (other : Option Change) → IfSome other IsValidChange → IfSome (given_or kind text other) IsValidChange
given_valid kind v None other rest = rest
given_valid kind v (Some s) other rest = v s

change_valid : (t : Tree) → IsValid t → IfSome (change_of t) IsValidChange
change_valid t v =
    put_valid (text_at (codes "put") t) (member_at (codes "body") t) _ (valid_member t v (codes "body"))
    (given_valid change.Remove (λ s. tt) (text_at (codes "remove") t) _
    (given_valid change.Enable (λ s. tt) (text_at (codes "enable") t) _
    (given_valid change.Disable (λ s. tt) (text_at (codes "disable") t) None tt)))

all_valid : (ts : List Tree) → IsValidList ts → All IsValidChange (filter_map change_of ts)
all_valid [] v = All-nil IsValidChange
all_valid (t ∷ ts) v =
    let parts = first_item_valid t ts v in
    go (change_of t) (change_valid t parts.0) (filter_map change_of ts) (all_valid ts parts.1)
  where
    go : (o : Option Change) → IfSome o IsValidChange → (cs : List Change) → All IsValidChange cs → All IsValidChange (cons_option o cs)
    go None h cs rest = rest
    go (Some c) h cs rest = All-cons IsValidChange c cs h rest

pub changes_valid : (t : Tree) → IsValid t → All IsValidChange (changes_of (out-Tree t))
changes_valid t v = go (out-Tree t) (valid_items t v)
  where
    go : (x : Tree-F Tree Member) → IfSome (items_of x) IsValidList → All IsValidChange (changes_of x)
    go (Tree-F.List items) h = all_valid items h
    go Tree-F.Null h = All-nil IsValidChange
    go (Tree-F.Flag b) h = All-nil IsValidChange
    go (Tree-F.Whole z) h = All-nil IsValidChange
    go (Tree-F.Words s) h = All-nil IsValidChange
    go (Tree-F.Members ms) h = All-nil IsValidChange
