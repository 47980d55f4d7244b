-- What a part of a cell shows, as plain content.
use Rattle.std.specs.Prelude.{ℕ, ◌≤◌, List, IfSome, ⊤}
use Rattle.ocsf_raw.specs.declared.attribute.RawAttr.{RawAttr}
use Rattle.ocsf_raw.specs.declared.dictionary.DictEntry.{DictEntry}
use Rattle.ocsf_raw.specs.declared.dictionary.TypeEntry.{TypeEntry}
use Rattle.ocsf_raw.specs.declared.files.CategoryEntry.{CategoryEntry}
use Rattle.ocsf_raw.specs.declared.files.ExtFile.{ExtFile}
use Rattle.ocsf_raw.specs.declared.files.ItemFile.{ItemFile}
use Rattle.ocsf_raw.specs.declared.files.ProfileFile.{ProfileFile}
use Rattle.ocsf_raw.specs.Ordered.{IsByKey, AreEntriesOrdered, IsTypeValid}
use Rattle.ocsf_bundle.specs.declared.cells.Part.{Part}
use Rattle.ocsf_bundle.specs.declared.cells.Part.TheVariants as part

pub data Shown : Type 0 where
  There : Shown
  Item : ItemFile → Shown
  Patch : ExtFile → ItemFile → Shown
  Profile : ProfileFile → Shown
  Include : List RawAttr → Shown
  Dict : List ℕ → DictEntry → Shown
  Kind : TypeEntry → Shown
  Category : ℕ → CategoryEntry → Shown
  Other : Shown
  Ext : ExtFile → Shown

-- what a part refers to
abbrev pub shown : Part → Shown
shown part.There = There
shown (part.Item file) = Item file.now
shown (part.Patch ext file) = Patch ext.now file.now
shown (part.Profile file) = Profile file.now
shown (part.Include entries) = Include entries.now
shown (part.Dict ext entry) = Dict ext.now entry.now
shown (part.Kind entry) = Kind entry.now
shown (part.Category uid entry) = Category uid entry.now
shown part.Other = Other
shown (part.Ext file) = Ext file.now

-- the entries that a part shows stand strictly by name, and their members by key; what a type allows is valid
abbrev pub IsShownOrdered : Shown → Type 0
IsShownOrdered (Item file) = AreEntriesOrdered file.attributes
IsShownOrdered (Patch ext file) = AreEntriesOrdered file.attributes
IsShownOrdered (Profile file) = AreEntriesOrdered file.attributes
IsShownOrdered (Include entries) = AreEntriesOrdered entries
IsShownOrdered (Dict ext entry) = IsByKey entry.members
IsShownOrdered There = ⊤
IsShownOrdered (Kind entry) = IsTypeValid entry
IsShownOrdered (Category uid entry) = ⊤
IsShownOrdered Other = ⊤
IsShownOrdered (Ext file) = ⊤

-- the numbers that a part shows are in their ranges
abbrev pub AreNumbersInRange : Shown → Type 0
AreNumbersInRange (Item file) = IfSome file.uid (λ uid. uid ≤ 999)
AreNumbersInRange (Category uid entry) = (uid ≤ 999) × (entry.uid ≤ 99)
AreNumbersInRange (Ext file) = file.uid ≤ 999
AreNumbersInRange There = ⊤
AreNumbersInRange (Patch ext file) = ⊤
AreNumbersInRange (Profile file) = ⊤
AreNumbersInRange (Include entries) = ⊤
AreNumbersInRange (Dict ext entry) = ⊤
AreNumbersInRange (Kind entry) = ⊤
AreNumbersInRange Other = ⊤
