-- What every tree, edit and bundle comes to: the statements of the functions in src/laws.rt.
use Rattle.std.specs.Prelude.{◌≢◌, List, Option, Result, Err, IfOk, All}
use Rattle.ocsf_tree.specs.declared.tree.Tree.{Tree}
use Rattle.ocsf_tree.specs.Valid.{IsValid}
use Rattle.ocsf_tree.specs.declared.fault.Fault.{Fault}
use Rattle.ocsf_raw.specs.declared.wanted.Wanted.{Wanted}
use Rattle.ocsf_raw.specs.declared.least_fault.Found.{Found}
use Rattle.ocsf_raw.specs.declared.file_shape.RawError.{RawError}
use Rattle.ocsf_raw.specs.declared.file_shape.RawError.TheVariants as error
use Rattle.ocsf_raw.specs.Shape.{IsLeast, fault_at}
use Rattle.ocsf_bundle.specs.declared.edit.Change.{Change}
use Rattle.ocsf_bundle.specs.declared.edit.Edit.{Edit}
use Rattle.ocsf_bundle.specs.Stored.{Stored}
use Rattle.ocsf_bundle.specs.Edits.{IsEdit, IsValidChange}
use Rattle.ocsf_bundle.specs.After.{IsAfter}
use Rattle.ocsf_rules.specs.Verdict.{IsVerdict}

-- whatever is wanted of it, a tree has a first fault by place, or none
abbrev pub HasFirstFault : Type 0
HasFirstFault = (wanted : Wanted) (t : Tree) → IsValid t → (found : Option Found) × IsLeast (fault_at wanted t) found

-- a tree says an edit, whose trees are valid, or has a first place at which it is none
abbrev pub SaysOrFails : Type 0
SaysOrFails =
    (t : Tree) → IsValid t
    → (said : Result Edit RawError) × IsEdit t said × (said ≢ Err error.Memory)
    × IfOk said (λ edit. All IsValidChange edit.changes)

-- changes lead to files, or one of them is the first with a fault
abbrev pub LeadsOrFails : Type 0
LeadsOrFails =
    (old : Stored) (changes : List Change) → All IsValidChange changes
    → (result : Result Stored RawError) × IsAfter old changes result × (result ≢ Err error.Memory)

abbrev pub HasVerdict : Type 0
HasVerdict = (bundle : Stored) → (v : Option Fault) × IsVerdict bundle v
