-- What holds of every line, folder and run: the statements of the laws in src/laws.rt.
use Rattle.std.specs.Prelude.{◌≡◌, ℕ, ◌^◌, ◌≤◌, List, length, filter, Option, IfSome, Result, Ok}
use Rattle.ocsf_edge.specs.declared.records.KeptFile.{KeptFile}
use Rattle.ocsf_edge.specs.Folder.{IsListing}
use Rattle.ocsf_tree.specs.declared.tree.Tree.{Tree}
use Rattle.ocsf_tree.specs.declared.fault.Fault.{Fault}
use Rattle.ocsf_tree.specs.Reading.{IsReading}
use Rattle.ocsf_raw.specs.Forms.{has_form}
use Rattle.ocsf_bundle.specs.declared.edit.Edit.{Edit}
use Rattle.ocsf_bundle.specs.declared.stored.StoredFile.{StoredFile}
use Rattle.ocsf_bundle.specs.Edits.{IsEdit}
use Rattle.ocsf_bundle.specs.After.{IsAfter}
use Rattle.ocsf_bundle.specs.Listing.{in_byte_order}
use Rattle.ocsf_bundle.specs.Stored.{Stored}
use Rattle.ocsf_schema.specs.declared.parts.SchemaParts.{SchemaParts}
use Rattle.ocsf_rules.specs.Verdict.{types_of, AreDecided}
use Rattle.ocsf_tool.specs.declared.status.Status.TheVariants.{Limit}
use Rattle.ocsf_tool.specs.Commands.{Command}
use Rattle.ocsf_tool.specs.Edits.{Edited, IsLineJudgement}
use Rattle.ocsf_tool.specs.Folders.{AreFilesAt, all_enabled, IsCompiled}
use Rattle.ocsf_tool.specs.Outputs.{Told, Ran}

-- the line says an edit that leads to this bundle
pub record LeadsTo (old : Edited) (line : List ℕ) (new : Stored) : Type 0 where
  pub tree : Tree
  pub reads : IsReading line (Ok tree)
  pub edit : Edit
  pub says : IsEdit tree (Ok edit)
  pub after : IsAfter old.bundle edit.changes (Ok new)

-- a line is accepted with one bundle or refused by one fault, where each pattern of the bundle that it leads to is good
-- or bad
abbrev pub HasOneOutcome : Type 0
HasOneOutcome = (old : Edited) (line : List ℕ) (a b : Result Stored Fault)
    → ((new : Stored) → LeadsTo old line new → AreDecided (types_of new))
    → IsLineJudgement old line a → IsLineJudgement old line b → a ≡ b

-- the folder has these files, each of them without a fault
abbrev pub AreFilesOf : List ℕ → List KeptFile → List StoredFile → Type 0
AreFilesOf dir lying files =
    (listed : List (List ℕ)) × IsListing dir lying listed
    × AreFilesAt dir lying (in_byte_order (filter has_form listed)) files

-- a folder comes to one schema or to one fault, where each pattern of its files is good or bad
abbrev pub HasOneSchema : Type 0
HasOneSchema = (dir : List ℕ) (lying : List KeptFile) (a b : Result SchemaParts Fault)
    → ((files : List StoredFile) → AreFilesOf dir lying files → AreDecided (types_of (all_enabled files)))
    → IsCompiled dir lying a → IsCompiled dir lying b → a ≡ b

-- a run ends at the limit only over a source that had so many bytes left, where it tells them
abbrev pub LimitTakesItsBytes : Type 0
LimitTakesItsBytes = (command : Command) (told : Told) (left_old left_new written_old written_new : Option (List ℕ))
    → Ran command told Limit left_old left_new written_old written_new
    → IfSome left_old (λ bytes. 2 ^ 40 ≤ length bytes)
