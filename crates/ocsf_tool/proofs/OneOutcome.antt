-- A line has one outcome.
use Rattle.std.proofs.Common.{◌≡◌, ℕ, List, length, Option, Some, None, Result, Ok, Err, inl, inr, sym, ◌∙◌, ap, subst}
use Rattle.std.specs.Option.{option_or}
use Rattle.std.proofs.lemmas.Bool.{cases_lt}
use Rattle.ocsf_tree.specs.declared.tree.Tree.{Tree}
use Rattle.ocsf_tree.specs.declared.fault.Fault.{Fault}
use Rattle.ocsf_tree.specs.declared.reader.TreeError.{TreeError}
use Rattle.ocsf_tree.specs.declared.reader.TreeError.TheVariants.{NotJson, NumberNotWhole, Memory}
use Rattle.ocsf_tree.specs.Reading.{IsReading}
use Rattle.ocsf_tree.proofs.Readings.{one_reading}
use Rattle.ocsf_raw.specs.declared.file_shape.RawError.{RawError}
use Rattle.ocsf_raw.specs.declared.file_shape.RawError.TheVariants as error
use Rattle.ocsf_bundle.specs.declared.edit.Edit.{Edit}
use Rattle.ocsf_bundle.specs.Edits.{IsEdit}
use Rattle.ocsf_bundle.specs.After.{IsAfter}
use Rattle.ocsf_bundle.specs.Stored.{Stored}
use Rattle.ocsf_bundle.proofs.OneAfter.{one_edit_or_fault, one_after}
use Rattle.ocsf_rules.specs.Judgement.{IsJudged, IsJudgement, revision_fault}
use Rattle.ocsf_rules.specs.Verdict.{types_of, AreDecided}
use Rattle.ocsf_rule_laws.proofs.OneVerdict.{one_verdict}
use Rattle.ocsf_tool.specs.Edits.{Edited, IsChangesOutcome, IsSaidOutcome, IsTreeOutcome, IsReadOutcome, IsLineOutcome, max_edit}
use Rattle.ocsf_tool.specs.Laws.{LeadsTo, HasOneOutcome}

pub none_or_some : {X : Type 0} (x : X) → None ≡ Some x → ⊥
none_or_some x e = cc

pub inside_some : {X : Type 0} (x y : X) → Some x ≡ Some y → x ≡ y
inside_some x y e = cc

abbrev made_ok : Stored → Result Stored RawError
made_ok new = Ok new

inside_ok : (x y : Stored) → made_ok x ≡ made_ok y → x ≡ y
inside_ok x y e = cc

-- ---- no outcome stands on want of memory

made_not_memory : (x : Stored) → made_ok x ≡ Err error.Memory → ⊥
made_not_memory x e = cc

judged_not_memory : (revision : ℕ) (made : Result Stored RawError) (v : Option Fault) → IsJudged revision made v → made ≡ Err error.Memory → ⊥
judged_not_memory revision (Ok new) v j e = cc
judged_not_memory revision (Err (error.Fault f)) v j e = cc
judged_not_memory revision (Err error.Memory) v j e = j

said_not_memory : (old : Edited) (said : Result Edit RawError) (a : Result Stored Fault) → IsSaidOutcome old said a → said ≡ Err error.Memory → ⊥
said_not_memory old (Ok edit) a p e = cc
said_not_memory old (Err (error.Fault f)) a p e = cc
said_not_memory old (Err error.Memory) a p e = p

reading_not_memory : (old : Edited) (reading : Result Tree TreeError) (a : Result Stored Fault) → IsReadOutcome old reading a → reading ≡ Err Memory → ⊥
reading_not_memory old (Ok tree) a p e = cc
reading_not_memory old (Err NotJson) a p e = cc
reading_not_memory old (Err (NumberNotWhole place)) a p e = cc
reading_not_memory old (Err Memory) a p e = p

module _ (old : Edited) (line : List ℕ) (decided : (new : Stored) → LeadsTo old line new → AreDecided (types_of new)) where
  -- ---- changes

  module _ (tree : Tree) (reads : IsReading line (Ok tree)) (edit : Edit) (says : IsEdit tree (Ok edit)) where
    leads : (new : Stored) → IsAfter old.bundle edit.changes (Ok new) → LeadsTo old line new
    leads new after = record { tree = tree; reads = reads; edit = edit; says = says; after = after }

    one_judged : (made : Result Stored RawError) → IsAfter old.bundle edit.changes made → (v w : Option Fault)
        → IsJudged old.revision made v → IsJudged old.revision made w → v ≡ w
    one_judged (Ok new) after v w (x, is_x, ex) (y, is_y, ey) =
        ex
        ∙ ap (λ (verdict : Option Fault). option_or verdict (revision_fault old.revision)) (one_verdict new x y (decided new (leads new after)) is_x is_y)
        ∙ sym ey
    one_judged (Err (error.Fault own)) after v w a b = a ∙ sym b
    one_judged (Err error.Memory) after v w a b = absurd a

    one_judgement : (v w : Option Fault) → IsJudgement old.bundle old.revision edit.changes v
        → IsJudgement old.bundle old.revision edit.changes w → v ≡ w
    one_judgement v w (made, after, judged) (other, later, found) =
        let same : made ≡ other = one_after old.bundle edit.changes made other after later (judged_not_memory old.revision made v judged) (judged_not_memory old.revision other w found) in
        one_judged made after v w judged (subst (λ (m : Result Stored RawError). IsJudged old.revision m w) (sym same) found)

    same_bundle : (x y : Stored) → IsAfter old.bundle edit.changes (Ok x) → IsAfter old.bundle edit.changes (Ok y) → x ≡ y
    same_bundle x y a b = inside_ok x y (one_after old.bundle edit.changes (Ok x) (Ok y) a b (made_not_memory x) (made_not_memory y))

    of_changes : (a b : Result Stored Fault) → IsChangesOutcome old edit.changes a → IsChangesOutcome old edit.changes b → a ≡ b
    of_changes (Ok x) (Ok y) a b = ap Ok (same_bundle x y a.0 b.0)
    of_changes (Ok x) (Err g) a b = absurd (none_or_some g (one_judgement None (Some g) a.1 b))
    of_changes (Err f) (Ok y) a b = absurd (none_or_some f (one_judgement None (Some f) b.1 a))
    of_changes (Err f) (Err g) a b = ap Err (inside_some f g (one_judgement (Some f) (Some g) a b))

  -- ---- trees, texts, lines

  of_said : (tree : Tree) → IsReading line (Ok tree) → (said : Result Edit RawError) → IsEdit tree said → (a b : Result Stored Fault)
      → IsSaidOutcome old said a → IsSaidOutcome old said b → a ≡ b
  of_said tree reads (Ok edit) says a b p q = of_changes tree reads edit says a b p q
  of_said tree reads (Err (error.Fault f)) says a b p q = p ∙ sym q
  of_said tree reads (Err error.Memory) says a b p q = absurd p

  of_tree : (tree : Tree) → IsReading line (Ok tree) → (a b : Result Stored Fault) → IsTreeOutcome old tree a → IsTreeOutcome old tree b → a ≡ b
  of_tree tree reads a b p q =
      let same : p.said ≡ q.said = one_edit_or_fault tree p.said q.said p.says q.says (said_not_memory old p.said a p.judged) (said_not_memory old q.said b q.judged) in
      of_said tree reads p.said p.says a b p.judged (subst (λ (s : Result Edit RawError). IsSaidOutcome old s b) (sym same) q.judged)

  of_reading : (reading : Result Tree TreeError) → IsReading line reading → (a b : Result Stored Fault) → IsReadOutcome old reading a → IsReadOutcome old reading b → a ≡ b
  of_reading (Ok tree) reads a b p q = of_tree tree reads a b p q
  of_reading (Err NotJson) reads a b p q = p ∙ sym q
  of_reading (Err (NumberNotWhole place)) reads a b p q = p ∙ sym q
  of_reading (Err Memory) reads a b p q = absurd p

  of_line : (a b : Result Stored Fault) → IsLineOutcome old line a → IsLineOutcome old line b → a ≡ b
  of_line a b p q =
      let same : p.reading ≡ q.reading = one_reading line p.reading q.reading p.reads q.reads (reading_not_memory old p.reading a p.judged) (reading_not_memory old q.reading b q.judged) in
      of_reading p.reading p.reads a b p.judged (subst (λ (r : Result Tree TreeError). IsReadOutcome old r b) (sym same) q.judged)

pub one_outcome : HasOneOutcome
one_outcome old line a b decided p q = elim (cases_lt max_edit (length line)) [
  | inl long ↦ p.long long ∙ sym (q.long long)
  | inr short ↦ of_line old line decided a b (p.short short) (q.short short)
]
