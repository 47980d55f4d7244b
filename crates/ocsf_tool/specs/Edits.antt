-- The command `edits`: what each line is answered, and what it leaves.
use Rattle.std.specs.Prelude.{
  ◌≡◌,
  ℕ,
  ◌+◌,
  ◌≤◌,
  ◌<◌,
  ◌^◌,
  List,
  [],
  ◌∷◌,
  ◌++◌,
  length,
  Bool,
  codes,
  pos,
  is_err,
  Some,
  None,
  Result,
  Ok,
  Err,
}
use Rattle.ocsf_tree.specs.declared.tree.Tree.{Tree}
use Rattle.ocsf_tree.specs.declared.tree.Tree.TheVariants as tree
use Rattle.ocsf_tree.specs.declared.tree.Member.{Member}
use Rattle.ocsf_tree.specs.declared.fault.Code.{Code}
use Rattle.ocsf_tree.specs.declared.fault.Code.TheVariants as code
use Rattle.ocsf_tree.specs.declared.fault.Fault.{Fault}
use Rattle.ocsf_tree.specs.declared.reader.TreeError.{TreeError}
use Rattle.ocsf_tree.specs.declared.reader.TreeError.TheVariants.{NotJson, NumberNotWhole, Memory}
use Rattle.ocsf_tree.specs.Code.{code_text}
use Rattle.ocsf_tree.specs.CompactText.{text}
use Rattle.ocsf_tree.specs.Place.{pointer_text}
use Rattle.ocsf_tree.specs.Reading.{IsReading}
use Rattle.ocsf_raw.specs.declared.file_shape.RawError.{RawError}
use Rattle.ocsf_raw.specs.declared.file_shape.RawError.TheVariants as error
use Rattle.ocsf_schema.specs.Schema.{schema_text}
use Rattle.ocsf_bundle.specs.declared.edit.Edit.{Edit}
use Rattle.ocsf_bundle.specs.declared.edit.Change.{Change}
use Rattle.ocsf_bundle.specs.Edits.{IsEdit}
use Rattle.ocsf_bundle.specs.After.{IsAfter}
use Rattle.ocsf_bundle.specs.Stored.{Stored}
use Rattle.ocsf_rules.specs.Compilation.{compilation}
use Rattle.ocsf_rules.specs.Judgement.{IsJudgement}
use Rattle.ocsf_compiler.specs.NoFiles.{no_files}
use Rattle.ocsf_lines.specs.Run.{Output, Replies}

-- what stands between two lines: the files with the enabled extensions, and how many edits were accepted
pub record Edited : Type 0 where
  pub bundle : Stored
  pub revision : ℕ

abbrev pub no_edits : Edited
no_edits = record { bundle = no_files; revision = 0 }

-- a fault of a line has no subject
abbrev pub line_fault : Code → List ℕ → Fault
line_fault code name = record { code = code; subject = []; name = name }

-- ---- how a line is judged

-- the changes are accepted, and leave this, exactly where their judgement finds no fault; or they are refused by it
abbrev pub IsChangesOutcome : Edited → List Change → Result Stored Fault → Type 0
IsChangesOutcome old changes (Ok new) =
    IsAfter old.bundle changes (Ok new) × IsJudgement old.bundle old.revision changes None
IsChangesOutcome old changes (Err fault) = IsJudgement old.bundle old.revision changes (Some fault)

-- of what a tree says
abbrev pub IsSaidOutcome : Edited → Result Edit RawError → Result Stored Fault → Type 0
IsSaidOutcome old (Ok edit) outcome = IsChangesOutcome old edit.changes outcome
IsSaidOutcome old (Err (error.Fault fault)) outcome = outcome ≡ Err fault
IsSaidOutcome old (Err error.Memory) outcome = ⊥

pub record IsTreeOutcome (old : Edited) (tree : Tree) (outcome : Result Stored Fault) : Type 0 where
  pub said : Result Edit RawError
  pub says : IsEdit tree said
  pub judged : IsSaidOutcome old said outcome

-- of what a line reads as
abbrev pub IsReadOutcome : Edited → Result Tree TreeError → Result Stored Fault → Type 0
IsReadOutcome old (Ok tree) outcome = IsTreeOutcome old tree outcome
IsReadOutcome old (Err NotJson) outcome = outcome ≡ Err (line_fault code.NotJson [])
IsReadOutcome old (Err (NumberNotWhole place)) outcome =
    outcome ≡ Err (line_fault code.NumberNotWhole (pointer_text place.steps))
IsReadOutcome old (Err Memory) outcome = ⊥

pub record IsLineOutcome (old : Edited) (line : List ℕ) (outcome : Result Stored Fault) : Type 0 where
  pub reading : Result Tree TreeError
  pub reads : IsReading line reading
  pub judged : IsReadOutcome old reading outcome

-- the longest line of an edit: 16 MiB
abbrev pub max_edit : ℕ
max_edit = 2 ^ 24

abbrev pub too_long : Fault
too_long = line_fault code.Limit (codes "edit")

-- a longer line is refused unread
pub record IsLineJudgement (old : Edited) (line : List ℕ) (outcome : Result Stored Fault) : Type 0 where
  pub long : max_edit < length line → outcome ≡ Err too_long
  pub short : length line ≤ max_edit → IsLineOutcome old line outcome

-- ---- the reply, and what is left

abbrev pub member : List ℕ → Tree → Member
member name value = record { name = name; value = value }

abbrev pub accepted_tree : ℕ → Tree
accepted_tree revision = tree.Members (member (codes "revision") (tree.Whole (pos revision)) ∷ [])

abbrev pub fault_tree : Fault → Tree
fault_tree fault =
    tree.Members (
    member (codes "code") (tree.Words (code_text fault.code))
    ∷ member (codes "name") (tree.Words fault.name)
    ∷ member (codes "subject") (tree.Words fault.subject)
    ∷ [])

abbrev pub refused_tree : Fault → Tree
refused_tree fault = tree.Members (member (codes "refused") (fault_tree fault) ∷ [])

abbrev pub reply_tree : ℕ → Result Stored Fault → Tree
reply_tree revision (Ok new) = accepted_tree (revision + 1)
reply_tree revision (Err fault) = refused_tree fault

-- a refused line leaves all as it was
abbrev pub after_line : Edited → Result Stored Fault → Edited
after_line old (Ok new) = record { bundle = new; revision = old.revision + 1 }
after_line old (Err fault) = old

-- A line is judged at the files and the revision before it; the reply says how, and the next line comes after what was
-- accepted.
pub record EditStep (old : Edited) (line reply : List ℕ) (is_refused : Bool) (new : Edited) : Type 0 where
  pub outcome : Result Stored Fault
  pub judged : IsLineJudgement old line outcome
  pub replied : reply ≡ text (reply_tree old.revision outcome) ++ 10 ∷ []
  pub refused : is_refused ≡ is_err outcome
  pub left : new ≡ after_line old outcome

-- the schema that the accepted files are compiled to; no earlier compilation plays a part
abbrev pub edits_print : Edited → List ℕ
edits_print edited = schema_text (compilation edited.bundle)

-- The whole output of `edits` over these bytes: a reply to each line, and then the printed schema. Tells whether a line
-- was refused.
abbrev pub EditsOutput : List ℕ → List ℕ → Bool → Type 0
EditsOutput bytes out is_refused = Output EditStep edits_print no_edits bytes out is_refused

-- the replies to the lines that a line feed ends, and nothing else
abbrev pub EditsReplies : List ℕ → List ℕ → Type 0
EditsReplies bytes out = Replies EditStep no_edits bytes out
