use Rattle.std.proofs.Common.{◌≡◌, None, sym, subst, rules}
use Rattle.std.specs.Prelude.{All}
use Rattle.ocsf_raw.specs.EditShape.{IsEditFault}
use Rattle.ocsf_bundle.specs.Edits.{SaysEdit, IsValidChange}
use Rattle.ocsf_bundle.proofs.EditsRead.{edit_said, changes_valid}
use Rattle.ocsf_bundle.proofs.edit.edit_of.Goals as goal

pub returns-clause-edit : goal.returns-clause-edit
returns-clause-edit c =
    let tree = c.args.tree.now in
    let none : c.in_ok-fault.field-0 ≡ None = search rules in
    let clean = subst (IsEditFault tree) none c.in_ok-fault.ensures.least in
    subst (λ cs. SaysEdit tree (record { changes = cs })) (sym c.in_ok-changes_of.ensures) (edit_said tree clean)

pub returns-clause-trees : goal.returns-clause-trees
returns-clause-trees c = subst (All IsValidChange) (sym c.in_ok-changes_of.ensures) (changes_valid c.args.tree.now c.requires.valid)
