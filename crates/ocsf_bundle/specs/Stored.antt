-- The files of a bundle.
use Rattle.std.specs.Prelude.{ℕ, List, All, IfSome}
use Rattle.std.specs.BTreeMap.{BTreeMap, get}
use Rattle.ocsf_lists.specs.ByName.{text_cmp}
use Rattle.ocsf_raw.specs.Ordered.{IsFileOrdered, AreFileNumbersInRange}
use Rattle.ocsf_bundle.specs.declared.stored.StoredFile.{StoredFile}
use Rattle.ocsf_bundle.specs.declared.stored.ActiveFile.{ActiveFile}

abbrev pub stored_path : StoredFile → List ℕ
stored_path file = file.path

-- what contracts see of a bundle: its files by path, and the names of the enabled extensions by their bytes
pub record Stored : Type 0 where
  pub files : List StoredFile
  pub enabled : List (List ℕ)

-- what the file says stands in order, and its numbers are in their ranges
abbrev pub IsStoredSound : StoredFile → Type 0
IsStoredSound file = IsFileOrdered file.raw × AreFileNumbersInRange file.raw

-- the same of an active file, and of its extension's
abbrev pub IsActiveSound : ActiveFile → Type 0
IsActiveSound active = IsStoredSound active.file × IfSome active.ext IsStoredSound

abbrev pub AreFilesSound : List StoredFile → Type 0
AreFilesSound files = All IsStoredSound files

-- the same of the files of a map by their paths
abbrev pub AreValuesSound : BTreeMap (List ℕ) StoredFile → Type 0
AreValuesSound files = (path : List ℕ) → IfSome (get text_cmp files path) IsStoredSound
