-- A valid tree says an edit, or has a first place at which it is none.
use Rattle.std.proofs.Common.{◌≢◌, [], Option, Some, None, refl}
use Rattle.std.specs.Prelude.{Result, Ok, Err, IfOk, All}
use Rattle.ocsf_tree.specs.declared.tree.Tree.{Tree, out-Tree}
use Rattle.ocsf_tree.specs.declared.fault.Code.TheVariants as code
use Rattle.ocsf_tree.specs.Valid.{IsValid}
use Rattle.ocsf_raw.specs.declared.wanted.Wanted.TheVariants.{Listed}
use Rattle.ocsf_raw.specs.declared.wanted.Listed.TheVariants as listed
use Rattle.ocsf_raw.specs.declared.least_fault.Found.{Found}
use Rattle.ocsf_raw.specs.declared.file_shape.RawError.{RawError}
use Rattle.ocsf_raw.specs.declared.file_shape.RawError.TheVariants as error
use Rattle.ocsf_raw.specs.FileShape.{shape_name}
use Rattle.ocsf_raw.specs.Shape.{IsLeast}
use Rattle.ocsf_raw.specs.EditShape.{edit_faults}
use Rattle.ocsf_bundle.specs.declared.edit.Edit.{Edit}
use Rattle.ocsf_bundle.specs.EditContent.{changes_of}
use Rattle.ocsf_bundle.specs.Edits.{IsEdit, IsValidChange}
use Rattle.ocsf_bundle.proofs.EditsRead.{edit_said, changes_valid}
use Rattle.ocsf_rule_laws.proofs.SomeLeast.{some_least}

module _ (t : Tree) (v : IsValid t) where
  by_fault : (found : Option Found) → IsLeast (edit_faults t) found → (said : Result Edit RawError) × IsEdit t said × (said ≢ Err error.Memory) × IfOk said (λ edit. All IsValidChange edit.changes)
  by_fault (Some found) least =
      (Err (error.Fault (record { code = code.Shape; subject = []; name = shape_name found })), (refl, refl, found, least, refl), λ e. cc, tt)
  by_fault None least =
      (Ok (record { changes = changes_of (out-Tree t) }), edit_said t (λ place. least.none_before place tt), λ e. cc, changes_valid t v)

pub some_edit : (t : Tree) → IsValid t → (said : Result Edit RawError) × IsEdit t said × (said ≢ Err error.Memory) × IfOk said (λ edit. All IsValidChange edit.changes)
some_edit t v = let least = some_least (Listed listed.Changes) t v in by_fault t v least.0 least.1
