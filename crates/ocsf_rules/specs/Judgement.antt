-- How an edit of a bundle is judged.
use Rattle.std.specs.Prelude.{◌≡◌, ℕ, ◌-◌, ◌^◌, ◌==◌, List, [], codes, Option, Some, None, Result, Ok, Err}
use Rattle.std.specs.Prelude.{if◌then◌else◌}
use Rattle.std.specs.Option.{option_or}
use Rattle.ocsf_tree.specs.declared.fault.Fault.{Fault}
use Rattle.ocsf_tree.specs.declared.fault.Code.TheVariants as code
use Rattle.ocsf_raw.specs.declared.file_shape.RawError.{RawError}
use Rattle.ocsf_raw.specs.declared.file_shape.RawError.TheVariants as error
use Rattle.ocsf_bundle.specs.declared.edit.Change.{Change}
use Rattle.ocsf_bundle.specs.Stored.{Stored}
use Rattle.ocsf_bundle.specs.After.{IsAfter}
use Rattle.ocsf_rules.specs.ItemFaults.{fault}
use Rattle.ocsf_rules.specs.Verdict.{IsVerdict}

abbrev pub last_revision : ℕ
last_revision = 2 ^ 32 - 1

abbrev pub no_revision_left : Fault
no_revision_left = fault code.LastRevision [] (codes "4294967295")

-- after the last revision no edit is accepted
abbrev pub revision_fault : ℕ → Option Fault
revision_fault revision = if revision == last_revision then Some no_revision_left else None

-- of what an edit makes, at that revision: the edit's own fault, else the verdict on the files after it, else that
-- no revision is left
abbrev pub IsJudged : ℕ → Result Stored RawError → Option Fault → Type 0
IsJudged revision (Err (error.Fault own)) judgement = judgement ≡ Some own
IsJudged revision (Err error.Memory) judgement = ⊥
IsJudged revision (Ok after) judgement =
    (verdict : Option Fault) × IsVerdict after verdict × (judgement ≡ option_or verdict (revision_fault revision))

-- the fault for which the edit of the bundle at that revision is refused; none where it is accepted
abbrev pub IsJudgement : Stored → ℕ → List Change → Option Fault → Type 0
IsJudgement bundle revision changes judgement =
    (made : Result Stored RawError) × IsAfter bundle changes made × IsJudged revision made judgement

-- the same of an edit of no files, for which a revision is always left
abbrev pub IsOpening : List Change → Option Fault → Type 0
IsOpening changes judgement = IsJudgement (record { files = []; enabled = [] }) 0 changes judgement
