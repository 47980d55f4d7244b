-- Changes lead to files and enabled names, or one of them is the first with a fault.
use Rattle.std.proofs.Common.{◌≡◌, ◌≢◌, ℕ, zero, suc, ◌+◌, ◌<◌, ◌≤◌, List, [], ◌∷◌, length, length-drop, get_or, take, drop, drop-drop, Option, Some, None, refl, sym, ap, ◌∙◌, subst, arith, ◌⊎◌, inl, inr}
use Rattle.std.specs.Prelude.{codes, Result, Ok, Err, IsSome, All}
use Rattle.std.proofs.lemmas.Bool.{cases_lt}
use Rattle.std.proofs.lemmas.List.Elements.{All-head, All-tail}
use Rattle.ocsf_tree.specs.declared.tree.Tree.{Tree}
use Rattle.ocsf_tree.specs.declared.fault.Code.TheVariants as code
use Rattle.ocsf_tree.specs.declared.fault.Fault.{Fault}
use Rattle.ocsf_tree.specs.CompactText.{text}
use Rattle.ocsf_tree.specs.Valid.{IsValid}
use Rattle.ocsf_raw.specs.declared.path_form.Form.{Form}
use Rattle.ocsf_raw.specs.declared.least_fault.Found.{Found}
use Rattle.ocsf_raw.specs.declared.file_shape.RawError.{RawError}
use Rattle.ocsf_raw.specs.declared.file_shape.RawError.TheVariants as error
use Rattle.ocsf_raw.specs.Forms.{form_of}
use Rattle.ocsf_raw.specs.Content.{content}
use Rattle.ocsf_raw.specs.Shape.{IsLeast}
use Rattle.ocsf_raw.specs.FileShape.{is_of_core, file_wanted, shape_faults, shape_name, max_file_length, HasShape}
use Rattle.ocsf_bundle.specs.declared.edit.Change.{Change}
use Rattle.ocsf_bundle.specs.declared.edit.Change.TheVariants as change
use Rattle.ocsf_bundle.specs.declared.stored.StoredFile.{StoredFile}
use Rattle.ocsf_bundle.specs.Stored.{Stored}
use Rattle.ocsf_bundle.specs.Edits.{IsValidChange}
use Rattle.ocsf_bundle.specs.After.{file_after, files_after, enabled_after, absent, IsChangeFault, IsChangeFine, AreFine, IsAfter}
use Rattle.ocsf_bundle.proofs.Afters.{fine-more, first-fault}
use Rattle.ocsf_rule_laws.proofs.SomeLeast.{some_least}

-- ---- one change

abbrev Comes : (List ℕ → Option StoredFile) → Change → Type 0
Comes before c = IsChangeFine before c ⊎ ((fault : Fault) × IsChangeFault before c fault)

module _ (before : List ℕ → Option StoredFile) where
  module _ (path : List ℕ) (tree : Tree) (v : IsValid tree) where
    by_length : (form : Form) → HasShape path tree (content form tree) → Comes before (change.Put path tree)
    by_length form shape =
        elim (cases_lt max_file_length (length (text tree))) [
          | inl longer ↦ inr (record { code = code.Limit; subject = path; name = codes "file" }, (refl, (content form tree, shape, longer, refl)))
          | inr short ↦ inl (content form tree, (shape, short))
        ]

    by_shape : (form : Form) → form_of path ≡ Some form → (found : Option Found) → IsLeast (shape_faults path form tree) found → Comes before (change.Put path tree)
    by_shape form e (Some found) least = inr (record { code = code.Shape; subject = path; name = shape_name found }, (refl, (form, found, e, least, refl)))
    by_shape form e None least = by_length form (record { form = form; formed = e; shaped = λ place. least.none_before place tt; said = refl })

    by_form : (form : Option Form) → form_of path ≡ form → Comes before (change.Put path tree)
    by_form None e = inr (record { code = code.PathUnknown; subject = path; name = [] }, (refl, (e, refl)))
    by_form (Some form) e = let least = some_least (file_wanted form (is_of_core path)) tree v in by_shape form e least.0 least.1

  by_file : (path : List ℕ) (file : Option StoredFile) → before path ≡ file → Comes before (change.Remove path)
  by_file path None e = inr (absent path, (e, refl))
  by_file path (Some file) e = inl (subst (λ (o : Option StoredFile). IsSome o) (sym e) refl)

  pub comes : (c : Change) → IsValidChange c → Comes before c
  comes (change.Put path tree) v = by_form path tree v (form_of path) refl
  comes (change.Remove path) v = by_file path (before path) refl
  comes (change.Enable name) v = inl tt
  comes (change.Disable name) v = inl tt

-- ---- the place of a change

module _ {X : Type 0} where
  rest_within : (xs : List X) (i : ℕ) (x : X) (rest : List X) → drop i xs ≡ x ∷ rest → i < length xs
  rest_within [] zero x rest e = cc
  rest_within [] (suc i) x rest e = cc
  rest_within (y ∷ ys) zero x rest e = omega arith
  rest_within (y ∷ ys) (suc i) x rest e = let within = rest_within ys i x rest e in omega arith

  rest_at : (xs : List X) (i : ℕ) (x : X) (rest : List X) → drop i xs ≡ x ∷ rest → x ≡ get_or xs i x
  rest_at [] zero x rest e = cc
  rest_at [] (suc i) x rest e = cc
  rest_at (y ∷ ys) zero x rest e = cc
  rest_at (y ∷ ys) (suc i) x rest e = rest_at ys i x rest e

  rest_after : (xs : List X) (i : ℕ) (x : X) (rest : List X) → drop i xs ≡ x ∷ rest → drop (i + 1) xs ≡ rest
  rest_after xs i x rest e = sym (drop-drop 1 i xs) ∙ ap (drop 1) e

  rest_none : (xs : List X) (i : ℕ) → drop i xs ≡ [] → length xs ≤ i
  rest_none xs i e = let none : length (drop i xs) ≡ 0 = ap length e in omega (arith, length-drop i xs)

-- ---- all changes

module _ (old : Stored) (changes : List Change) where
  abbrev Ends : Type 0
  Ends = (result : Result Stored RawError) × IsAfter old changes result × (result ≢ Err error.Memory)

  ends : (rest : List Change) (i : ℕ) → drop i changes ≡ rest → All IsValidChange rest → AreFine old.files changes i → Ends
  ends [] i split v fine =
      let past = rest_none changes i split in
      (Ok (record { files = files_after old.files changes; enabled = enabled_after old.enabled changes }), (λ k d h. fine k d (omega arith), refl, refl), λ e. cc)
  ends (c ∷ rest) i split v fine =
      let before = file_after old.files (take i changes) in
      let within = rest_within changes i c rest split in
      let at = rest_at changes i c rest split in
      elim (comes before c (All-head IsValidChange c rest v)) [
        | inl here ↦ ends rest (i + 1) (rest_after changes i c rest split) (All-tail IsValidChange c rest v) (fine-more old.files changes i c before within at (λ q. refl) fine here)
        | inr faulty ↦ (Err (error.Fault faulty.0), first-fault old.files changes i c before within at (λ q. refl) faulty.0 fine faulty.1, λ e. cc)
      ]

pub some_after : (old : Stored) (changes : List Change) → All IsValidChange changes → (result : Result Stored RawError) × IsAfter old changes result × (result ≢ Err error.Memory)
some_after old changes v = ends old changes changes 0 refl v (λ k d h. absurd (omega arith))
