-- What every cell shows, as one value. Whatever is compiled speaks of this value, and not of files.
use Rattle.std.specs.Prelude.{ℕ, List, [], ◌∷◌, map, Bool, true, false, if◌then◌else◌}
use Rattle.ocsf_tree.specs.declared.key.Key.{Key}
use Rattle.ocsf_raw.specs.declared.attribute.RawAttr.{RawAttr}
use Rattle.ocsf_raw.specs.declared.dictionary.DictEntry.{DictEntry}
use Rattle.ocsf_raw.specs.declared.dictionary.TypeEntry.{TypeEntry}
use Rattle.ocsf_raw.specs.declared.files.CategoryEntry.{CategoryEntry}
use Rattle.ocsf_raw.specs.declared.files.ExtFile.{ExtFile}
use Rattle.ocsf_raw.specs.declared.files.ItemFile.{ItemFile}
use Rattle.ocsf_raw.specs.declared.files.ProfileFile.{ProfileFile}
use Rattle.ocsf_bundle.specs.Shown.{Shown, There, Item, Patch, Profile, Include, Dict, Kind, Category, Other, Ext}
use Rattle.ocsf_bundle.specs.declared.cells.Cell.{Cell}
use Rattle.ocsf_bundle.specs.declared.cells.Cell.TheVariants as cell

-- a patch of a core item, with the extension that gives it
pub record PatchOf : Type 0 where
  pub ext : ExtFile
  pub file : ItemFile

-- an included file: a profile file, or the entries of an include file
pub data Included : Type 0 where
  AsProfile : ProfileFile → Included
  AsInclude : List RawAttr → Included

-- an entry of a dictionary, with the name of its extension, empty for core
pub record DictOf : Type 0 where
  pub ext : List ℕ
  pub entry : DictEntry

-- a category: the built-in one, or an entry with its extension's uid, 0 for core
pub data CategoryOf : Type 0 where
  BuiltIn : CategoryOf
  Listed : ℕ → CategoryEntry → CategoryOf

pub record Looks : Type 0 where
  -- the item files of a full key, by path
  pub items : Key → List ItemFile
  -- the patches of a core item, by the extension's uid, then by path
  pub patches : Key → List PatchOf
  -- the profile files of a key, by path
  pub profiles : List ℕ → List ProfileFile
  -- the include and profile files of the extension of that name, empty for core, at a path
  pub includes : List ℕ → List ℕ → List Included
  -- the dictionary entries of an attribute, by layer
  pub dict : List ℕ → List DictOf
  -- the dictionary entries of a type, by layer
  pub kinds : List ℕ → List TypeEntry
  -- the categories of a key
  pub categories : List ℕ → List CategoryOf
  -- the extension files of a name
  pub exts : List ℕ → List ExtFile

-- whether a list has an item
abbrev pub is_there : {X : Type 0} → List X → Bool
is_there [] = false
is_there (x ∷ xs) = true

abbrev pub show_patch : PatchOf → Shown
show_patch patch = Patch patch.ext patch.file

abbrev pub show_included : Included → Shown
show_included (AsProfile file) = Profile file
show_included (AsInclude entries) = Include entries

abbrev pub show_entry : DictOf → Shown
show_entry of = Dict of.ext of.entry

abbrev pub show_category : CategoryOf → Shown
show_category BuiltIn = Other
show_category (Listed uid entry) = Category uid entry

-- the parts of a cell
abbrev pub look : Looks → Cell → List Shown
look b (cell.Item key) = map Item (b.items key)
look b (cell.Exists key) = if is_there (b.items key) then There ∷ [] else []
look b (cell.Patches key) = map show_patch (b.patches key)
look b (cell.Profile key) = map Profile (b.profiles key)
look b (cell.Include from path) = map show_included (b.includes from path)
look b (cell.Dict name) = map show_entry (b.dict name)
look b (cell.Kind name) = map Kind (b.kinds name)
look b (cell.Category key) = map show_category (b.categories key)
look b (cell.Ext name) = map Ext (b.exts name)
