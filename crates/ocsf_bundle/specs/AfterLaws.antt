-- What holds of every edit: the statements of laws in src/edit_laws.rt.
use Rattle.std.specs.Prelude.{◌≡◌, ◌≢◌, List, Result, Err}
use Rattle.ocsf_tree.specs.declared.tree.Tree.{Tree}
use Rattle.ocsf_raw.specs.declared.file_shape.RawError.{RawError}
use Rattle.ocsf_raw.specs.declared.file_shape.RawError.TheVariants as error
use Rattle.ocsf_bundle.specs.declared.edit.Edit.{Edit}
use Rattle.ocsf_bundle.specs.declared.edit.Change.{Change}
use Rattle.ocsf_bundle.specs.Edits.{IsEdit}
use Rattle.ocsf_bundle.specs.After.{IsAfter}
use Rattle.ocsf_bundle.specs.Stored.{Stored}

-- a tree has one outcome other than want of memory: the edit that it says, or a fault
abbrev pub HasOneEdit : Type 0
HasOneEdit =
    (tree : Tree) (a b : Result Edit RawError) → IsEdit tree a → IsEdit tree b → a ≢ Err error.Memory
    → b ≢ Err error.Memory → a ≡ b

-- and so have changes of a bundle: the bundle after them, or a fault
abbrev pub HasOneAfter : Type 0
HasOneAfter = (old : Stored) (changes : List Change) (a b : Result Stored RawError)
    → IsAfter old changes a → IsAfter old changes b → a ≢ Err error.Memory → b ≢ Err error.Memory → a ≡ b
