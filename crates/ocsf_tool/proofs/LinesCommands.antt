-- A run over lines is a run of a command over lines.
use Rattle.std.proofs.Common.{◌≡◌, ℕ, List, Bool, true, false, Option, Some, None, Ok, refl, inr}
use Rattle.std.specs.Prelude.{IfSome}
use Rattle.std.specs.Io.KnownBytes.{IsAtEnd}
use Rattle.ocsf_edge.specs.declared.records.KeptFile.{KeptFile}
use Rattle.ocsf_schema.specs.declared.parts.SchemaParts.{SchemaParts}
use Rattle.ocsf_lines.specs.Ends.{IfEnded, ReadsCause, WritesCause}
use Rattle.ocsf_lines.specs.Reading.{LinesRan}
use Rattle.ocsf_lines.specs.Run.{StepOf, Output, OutputFront, Replies}
use Rattle.ocsf_lines.specs.declared.lines_end.LinesEnd.{LinesEnd}
use Rattle.ocsf_lines.specs.declared.lines_end.LinesEnd.TheVariants as lines
use Rattle.ocsf_tool.specs.declared.status.Status.TheVariants.{ReadFault, WriteFault, FolderFault, Limit}
use Rattle.ocsf_tool.specs.Commands.{Command, Edits, Validate, FailedOnlyAt, goes_on_refused, may_end, reads_source}
use Rattle.ocsf_tool.specs.Edits.{EditStep, edits_print, no_edits}
use Rattle.ocsf_tool.specs.Ends.{flawed_or_done, lines_status}
use Rattle.ocsf_tool.specs.Events.{EventStep, events_print, ValidateOutput, ValidateReplies}
use Rattle.ocsf_tool.specs.Folders.{IsCompiled}
use Rattle.ocsf_tool.specs.Outputs.{Told, Whole, Answers, ReadOut, Front, Cut, Ran}

-- ---- what a command tells of the lines that a machine answers

record TellsOfLines {S : Type 0} (command : Command) (told : Told) (Step : StepOf S) (print : S → List ℕ) (start : S) : Type 0 where
  whole : (taken out : List ℕ) (flawed : Bool) → Output Step print start taken out flawed → Whole command told taken out (flawed_or_done flawed)
  answers : (taken out : List ℕ) → Replies Step start taken out → Answers command told taken out
  cut : (taken out : List ℕ) → Front command told taken out → Cut command told taken out
  read_out : (taken : List ℕ) → told.ended ≡ true → IsAtEnd told.left → ReadOut command told taken

module _ {S : Type 0} (command : Command) (told : Told) (Step : StepOf S) (print : S → List ℕ) (start : S) (tells : TellsOfLines command told Step print start) where
  front_of : (taken out : List ℕ) → OutputFront Step print start taken out → Front command told taken out
  front_of taken out front = record {
    more = front.more;
    status = flawed_or_done front.flawed;
    whole = tells.whole taken _ front.flawed front.output;
  }

  lines_ran : (end : LinesEnd) (lo ln wo wn : Option (List ℕ)) → LinesRan Step print start lo ln wo wn end → IfEnded end (λ flawed. told.ended ≡ true) → IfEnded end (λ flawed. IsAtEnd told.left) → Ran command told (lines_status end) lo ln wo wn
  lines_ran (lines.Ended false) lo ln wo wn r ended left =
      record { taken = r.taken; out = r.out; consumes = r.consumes; appends = r.appends; holds = (tells.whole r.taken r.out false r.holds, tells.read_out r.taken ended left) }
  lines_ran (lines.Ended true) lo ln wo wn r ended left =
      record { taken = r.taken; out = r.out; consumes = r.consumes; appends = r.appends; holds = (tells.whole r.taken r.out true r.holds, tells.read_out r.taken ended left) }
  lines_ran lines.ReadFault lo ln wo wn r ended left =
      record { taken = r.taken; out = r.out; consumes = r.consumes; appends = r.appends; holds = tells.answers r.taken r.out r.holds }
  lines_ran lines.WriteFault lo ln wo wn r ended left =
      record { taken = r.taken; out = r.out; consumes = r.consumes; appends = r.appends; holds = front_of r.taken r.out r.holds }
  lines_ran lines.Memory lo ln wo wn r ended left =
      record { taken = r.taken; out = r.out; consumes = r.consumes; appends = r.appends; holds = tells.cut r.taken r.out (front_of r.taken r.out r.holds) }
  lines_ran lines.Limit lo ln wo wn r ended left =
      record { taken = r.taken; out = r.out; consumes = r.consumes; appends = r.appends; holds = (tells.answers r.taken r.out r.holds.0, r.holds.1) }

-- ---- of each command

edits_tell : (told : Told) → TellsOfLines Edits told EditStep edits_print no_edits
edits_tell told = record {
  whole = λ taken out flawed output. by_flag taken out flawed output;
  answers = λ taken out replies. replies;
  cut = λ taken out front. front;
  read_out = λ taken ended left. (ended, left);
}
  where
    by_flag : (taken out : List ℕ) (flawed : Bool) → Output EditStep edits_print no_edits taken out flawed → Whole Edits told taken out (flawed_or_done flawed)
    by_flag taken out true output = output
    by_flag taken out false output = output

pub edits_ran : (told : Told) (end : LinesEnd) (lo ln wo wn : Option (List ℕ)) → LinesRan EditStep edits_print no_edits lo ln wo wn end → IfEnded end (λ flawed. told.ended ≡ true) → IfEnded end (λ flawed. IsAtEnd told.left) → Ran Edits told (lines_status end) lo ln wo wn
edits_ran told end lo ln wo wn r ended left = lines_ran Edits told EditStep edits_print no_edits (edits_tell told) end lo ln wo wn r ended left

module _ (dir : List ℕ) (told : Told) (schema : SchemaParts) (compiled : IfSome told.files (λ lying. IsCompiled dir lying (Ok schema))) where
  tells_of : (P Q : List KeptFile → Type 0) → ((lying : List KeptFile) → P lying → Q lying) → (files : Option (List KeptFile)) → IfSome files P → IfSome files Q
  tells_of P Q by None p = p
  tells_of P Q by (Some lying) p = by lying p

  abbrev Compiles : List KeptFile → Type 0
  Compiles lying = IsCompiled dir lying (Ok schema)

  events_whole : (taken out : List ℕ) (flawed : Bool) → Output EventStep events_print schema taken out flawed → Whole (Validate dir) told taken out (flawed_or_done flawed)
  events_whole taken out true output =
      tells_of Compiles (λ lying. ValidateOutput dir lying taken out true) (λ lying c. record { schema = schema; compiled = c; replies = output }) told.files compiled
  events_whole taken out false output =
      tells_of Compiles (λ lying. ValidateOutput dir lying taken out false) (λ lying c. record { schema = schema; compiled = c; replies = output }) told.files compiled

  events_tell : TellsOfLines (Validate dir) told EventStep events_print schema
  events_tell = record {
    whole = events_whole;
    answers = λ taken out replies. tells_of Compiles (λ lying. ValidateReplies dir lying taken out) (λ lying c. record { schema = schema; compiled = c; replies = replies }) told.files compiled;
    cut = λ taken out front. inr front;
    read_out = λ taken ended left. (ended, left);
  }

  pub events_ran : (end : LinesEnd) (lo ln wo wn : Option (List ℕ)) → LinesRan EventStep events_print schema lo ln wo wn end → IfEnded end (λ flawed. told.ended ≡ true) → IfEnded end (λ flawed. IsAtEnd told.left) → Ran (Validate dir) told (lines_status end) lo ln wo wn
  events_ran end lo ln wo wn r ended left = lines_ran (Validate dir) told EventStep events_print schema events_tell end lo ln wo wn r ended left

-- ---- how it ends

pub lines_end : (command : Command) → goes_on_refused command ≡ true → reads_source command ≡ true → (end : LinesEnd) → may_end command (lines_status end) ≡ true
lines_end command goes reads (lines.Ended true) = goes
lines_end command goes reads (lines.Ended false) = refl
lines_end command goes reads lines.ReadFault = reads
lines_end command goes reads lines.WriteFault = refl
lines_end command goes reads lines.Memory = refl
lines_end command goes reads lines.Limit = reads

-- no run over lines ends by a folder
pub not_at_folder : (end : LinesEnd) → lines_status end ≡ FolderFault → ⊥
not_at_folder (lines.Ended true) e = cc
not_at_folder (lines.Ended false) e = cc
not_at_folder lines.ReadFault e = cc
not_at_folder lines.WriteFault e = cc
not_at_folder lines.Memory e = cc
not_at_folder lines.Limit e = cc

pub at_limit : (end : LinesEnd) → lines_status end ≡ Limit → end ≡ lines.Limit
at_limit (lines.Ended true) e = absurd cc
at_limit (lines.Ended false) e = absurd cc
at_limit lines.ReadFault e = absurd cc
at_limit lines.WriteFault e = absurd cc
at_limit lines.Memory e = absurd cc
at_limit lines.Limit e = refl

-- an object that failed at one end alone failed at the status of that end alone
module _ (before now : ℕ) where
  pub reads_at : (end : LinesEnd) → ReadsCause before now end → FailedOnlyAt ReadFault (lines_status end) before now
  reads_at (lines.Ended true) cause = record { rose = λ e. absurd cc; kept = λ _. cause.kept (λ e. cc) }
  reads_at (lines.Ended false) cause = record { rose = λ e. absurd cc; kept = λ _. cause.kept (λ e. cc) }
  reads_at lines.ReadFault cause = record { rose = λ _. cause.failed refl; kept = λ other. absurd (other refl) }
  reads_at lines.WriteFault cause = record { rose = λ e. absurd cc; kept = λ _. cause.kept (λ e. cc) }
  reads_at lines.Memory cause = record { rose = λ e. absurd cc; kept = λ _. cause.kept (λ e. cc) }
  reads_at lines.Limit cause = record { rose = λ e. absurd cc; kept = λ _. cause.kept (λ e. cc) }

  pub writes_at : (end : LinesEnd) → WritesCause before now end → FailedOnlyAt WriteFault (lines_status end) before now
  writes_at (lines.Ended true) cause = record { rose = λ e. absurd cc; kept = λ _. cause.kept (λ e. cc) }
  writes_at (lines.Ended false) cause = record { rose = λ e. absurd cc; kept = λ _. cause.kept (λ e. cc) }
  writes_at lines.ReadFault cause = record { rose = λ e. absurd cc; kept = λ _. cause.kept (λ e. cc) }
  writes_at lines.WriteFault cause = record { rose = λ _. cause.failed refl; kept = λ other. absurd (other refl) }
  writes_at lines.Memory cause = record { rose = λ e. absurd cc; kept = λ _. cause.kept (λ e. cc) }
  writes_at lines.Limit cause = record { rose = λ e. absurd cc; kept = λ _. cause.kept (λ e. cc) }
