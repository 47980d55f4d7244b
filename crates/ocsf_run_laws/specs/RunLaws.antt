-- What holds of whole outputs: the statements of the laws in src/laws.rt.
use Rattle.std.specs.Prelude.{◌≡◌, ℕ, List, [], ◌∷◌, Bool, ⊤, Result}
use Rattle.ocsf_edge.specs.Folder.{IsListing}
use Rattle.ocsf_edge.specs.declared.records.KeptFile.{KeptFile}
use Rattle.ocsf_lines.specs.Lines.{lines_of}
use Rattle.ocsf_tree.specs.declared.fault.Fault.{Fault}
use Rattle.ocsf_schema.specs.declared.parts.SchemaParts.{SchemaParts}
use Rattle.ocsf_bundle.specs.declared.stored.StoredFile.{StoredFile}
use Rattle.ocsf_bundle.specs.Stored.{Stored}
use Rattle.ocsf_rules.specs.Verdict.{types_of, AreDecided}
use Rattle.ocsf_tool.specs.Edits.{Edited, no_edits, EditStep, EditsOutput}
use Rattle.ocsf_tool.specs.Events.{ValidateOutput}
use Rattle.ocsf_tool.specs.Folders.{all_enabled, IsCompiled, CompileOutput}
use Rattle.ocsf_tool.specs.Laws.{LeadsTo, AreFilesOf}

-- wherever a run over these lines may come, the bundle that a line leads to has patterns that are good or bad
abbrev pub AreLinesDecided : Edited → List (List ℕ) → Type 0
AreLinesDecided old [] = ⊤
AreLinesDecided old (line ∷ lines) =
    ((new : Stored) → LeadsTo old line new → AreDecided (types_of new))
    × ((reply : List ℕ) (is_refused : Bool) (next : Edited) → EditStep old line reply is_refused next
    → AreLinesDecided next lines)

-- two whole outputs of `edits` over the same bytes are one text, and tell the same of whether a line was refused
abbrev pub HasOneOutput : Type 0
HasOneOutput = (bytes one other : List ℕ) (is_refused was_refused : Bool) → AreLinesDecided no_edits (lines_of bytes)
    → EditsOutput bytes one is_refused → EditsOutput bytes other was_refused
    → (one ≡ other) × (is_refused ≡ was_refused)

-- two whole outputs of `compile` over the same folder are one text, and tell the same of whether it was refused
abbrev pub CompileHasOneOutput : Type 0
CompileHasOneOutput = (dir : List ℕ) (lying : List KeptFile) (one other : List ℕ) (is_refused was_refused : Bool)
    → ((files : List StoredFile) → AreFilesOf dir lying files → AreDecided (types_of (all_enabled files)))
    → CompileOutput dir lying one is_refused → CompileOutput dir lying other was_refused
    → (one ≡ other) × (is_refused ≡ was_refused)

-- two whole outputs of `validate` over the same folder and bytes are one text, and tell the same of whether an answer was
-- other than the empty report
abbrev pub ValidateHasOneOutput : Type 0
ValidateHasOneOutput = (dir : List ℕ) (lying : List KeptFile) (bytes one other : List ℕ) (is_flawed was_flawed : Bool)
    → ((files : List StoredFile) → AreFilesOf dir lying files → AreDecided (types_of (all_enabled files)))
    → ValidateOutput dir lying bytes one is_flawed → ValidateOutput dir lying bytes other was_flawed
    → (one ≡ other) × (is_flawed ≡ was_flawed)

-- whatever a folder lists, it comes to a schema or to a fault
abbrev pub HasSomeSchema : Type 0
HasSomeSchema = (dir : List ℕ) (lying : List KeptFile) (listed : List (List ℕ)) → IsListing dir lying listed
    → (made : Result SchemaParts Fault) × IsCompiled dir lying made
