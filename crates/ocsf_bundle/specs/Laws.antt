-- What holds of the keys of all files.
use Rattle.std.specs.Prelude.{◌≡◌, List, Some, None, if◌then◌else◌}
use Rattle.ocsf_tree.specs.declared.key.Key.{Key}
use Rattle.ocsf_lists.specs.ByName.{IsByName, at_name}
use Rattle.ocsf_tree.specs.Key.{key_text}
use Rattle.ocsf_bundle.specs.declared.stored.ActiveFile.{ActiveFile}
use Rattle.ocsf_bundle.specs.Active.{in_layers}
use Rattle.ocsf_bundle.specs.Keys.{active_keys}
use Rattle.ocsf_bundle.specs.Looks.{is_there}
use Rattle.ocsf_bundle.specs.FilesLook.{looks_of}

-- the active keys stand strictly by their texts, and are just those of which there is an item
pub record AreKeysOfItems (files : List ActiveFile) : Type 0 where
  pub ordered : IsByName key_text (active_keys files)
  pub present : (key : Key)
      → at_name key_text (key_text key) (active_keys files)
      ≡ (if is_there ((looks_of files (in_layers files)).items key) then Some key else None)
