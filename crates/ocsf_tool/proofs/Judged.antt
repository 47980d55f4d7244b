-- What is judged of the files after an edit is judged of the edit.
use Rattle.std.proofs.Common.{◌≡◌, ℕ, List, Option, Some, None, Result, Ok, Err, Bool, false, refl, sym, ap, subst}
use Rattle.std.specs.Prelude.{◌==◌, if◌then◌else◌}
use Rattle.std.specs.Option.{option_or}
use Rattle.ocsf_tree.specs.declared.fault.Fault.{Fault}
use Rattle.ocsf_raw.specs.declared.file_shape.RawError.TheVariants as error
use Rattle.ocsf_bundle.specs.declared.edit.Change.{Change}
use Rattle.ocsf_bundle.specs.After.{IsAfter}
use Rattle.ocsf_bundle.specs.Stored.{Stored}
use Rattle.ocsf_rules.specs.Judgement.{last_revision, no_revision_left, revision_fault}
use Rattle.ocsf_rules.specs.Verdict.{IsVerdict}
use Rattle.ocsf_tool.specs.Edits.{Edited, IsChangesOutcome}
use Rattle.ocsf_tool.specs.Judging.{unless_refused, IsBundleOutcome}

module _ (old : Edited) (changes : List Change) where
  by_fault : (new : Stored) → IsAfter old.bundle changes (Ok new) → (v r : Option Fault) → IsVerdict new v → r ≡ revision_fault old.revision
      → IsChangesOutcome old changes (unless_refused (option_or v r) new)
  by_fault new after (Some f) r verdict e = (Ok new, after, (Some f, verdict, refl))
  by_fault new after None (Some f) verdict e = (Ok new, after, (None, verdict, e))
  by_fault new after None None verdict e = (after, (Ok new, after, (None, verdict, e)))

  pub of_bundle : (new : Stored) → IsAfter old.bundle changes (Ok new) → (outcome : Result Stored Fault) → IsBundleOutcome old.revision new outcome → IsChangesOutcome old changes outcome
  of_bundle new after outcome o =
      subst (IsChangesOutcome old changes) (sym o.judged) (by_fault new after o.verdict (revision_fault old.revision) o.is_verdict refl)

  pub of_fault : (f : Fault) → IsAfter old.bundle changes (Err (error.Fault f)) → IsChangesOutcome old changes (Err f)
  of_fault f after = (Err (error.Fault f), after, refl)

-- files without a fault, below the last revision and at it
pub accepted_outcome : (revision : ℕ) (bundle : Stored) → IsVerdict bundle None → (revision == last_revision) ≡ false → IsBundleOutcome revision bundle (Ok bundle)
accepted_outcome revision bundle verdict e =
    record { verdict = None; is_verdict = verdict; judged = sym (ap (λ (b : Bool). unless_refused (if b then Some no_revision_left else None) bundle) e) }

pub last_outcome : (bundle : Stored) → IsVerdict bundle None → IsBundleOutcome last_revision bundle (Err no_revision_left)
last_outcome bundle verdict = record { verdict = None; is_verdict = verdict; judged = refl }

pub refused_outcome : (revision : ℕ) (bundle : Stored) (f : Fault) → IsVerdict bundle (Some f) → IsBundleOutcome revision bundle (Err f)
refused_outcome revision bundle f verdict = record { verdict = Some f; is_verdict = verdict; judged = refl }
