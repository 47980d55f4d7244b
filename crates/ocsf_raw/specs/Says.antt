-- What the tree of a file says, field by field: a field is the listed member, read as its sort, or nothing
-- where that member is absent or `null`. A member of another sort has no reading.
use Rattle.std.specs.Prelude.{◌≡◌, ℕ, ◌≤◌, pos, Bool, true, false, not, ◌&&◌, List, [], ◌∷◌, length, codes, Option}
use Rattle.std.specs.Prelude.{Some, None, IsSome, IsSomeAnd, filter, unwrap_or, ◌⊎◌, ⊤}
use Rattle.std.specs.List.{AllZip}
use Rattle.ocsf_tree.specs.declared.tree.Tree.{Tree, out-Tree}
use Rattle.ocsf_tree.specs.declared.tree.Tree.TheOpen.{Tree-F}
use Rattle.ocsf_tree.specs.declared.tree.Member.{Member}
use Rattle.ocsf_tree.specs.declared.attribute.EnumMember.{EnumMember}
use Rattle.ocsf_tree.specs.declared.attribute.Requirement.{Requirement}
use Rattle.ocsf_tree.specs.declared.attribute.Span.{Span}
use Rattle.ocsf_tree.specs.declared.key.Side.{Side}
use Rattle.ocsf_tree.specs.declared.key.Side.TheVariants as side
use Rattle.ocsf_tree.specs.Requirement.{requirement_text}
use Rattle.ocsf_tree.specs.Lookup.{member_at, is_null}
use Rattle.ocsf_raw.specs.declared.attribute.Mark.{Mark}
use Rattle.ocsf_raw.specs.declared.attribute.Mark.TheVariants.{Unsaid, Cleared, Named}
use Rattle.ocsf_raw.specs.declared.attribute.RawAttr.{RawAttr}
use Rattle.ocsf_raw.specs.declared.dictionary.DictFile.{DictFile}
use Rattle.ocsf_raw.specs.declared.dictionary.DictEntry.{DictEntry}
use Rattle.ocsf_raw.specs.declared.dictionary.TypeEntry.{TypeEntry}
use Rattle.ocsf_raw.specs.declared.files.RawFile.{RawFile}
use Rattle.ocsf_raw.specs.declared.files.RawFile.TheVariants as raw
use Rattle.ocsf_raw.specs.declared.files.CategoryEntry.{CategoryEntry}
use Rattle.ocsf_raw.specs.declared.files.ItemFile.{ItemFile}
use Rattle.ocsf_raw.specs.declared.files.ProfileFile.{ProfileFile}
use Rattle.ocsf_raw.specs.declared.files.ExtFile.{ExtFile}
use Rattle.ocsf_raw.specs.declared.path_form.Form.{Form}
use Rattle.ocsf_raw.specs.declared.path_form.Form.TheVariants as form
use Rattle.ocsf_raw.specs.Names.{is_name, is_reference}
use Rattle.ocsf_raw.specs.Forms.{is_include_path}
use Rattle.ocsf_raw.specs.Wanted.{is_include}

-- ---- sorts: the tree is of that sort, and says that value

abbrev pub IsText : Tree → List ℕ → Type 0
IsText t text = out-Tree t ≡ Tree-F.Words text

-- a text that passes the test
abbrev pub IsTextThat : (List ℕ → Bool) → Tree → List ℕ → Type 0
IsTextThat test t text = IsText t text × (test text ≡ true)

abbrev pub IsName : Tree → List ℕ → Type 0
IsName = IsTextThat is_name

abbrev pub IsReference : Tree → List ℕ → Type 0
IsReference = IsTextThat is_reference

abbrev pub IsIncludePath : Tree → List ℕ → Type 0
IsIncludePath = IsTextThat is_include_path

-- the text of a pattern
abbrev pub IsPattern : Tree → List ℕ → Type 0
IsPattern t text = IsText t text × (length text ≤ 8192)

abbrev pub IsRequirement : Tree → Requirement → Type 0
IsRequirement t requirement = IsText t (requirement_text requirement)

abbrev pub IsFlag : Tree → Bool → Type 0
IsFlag t flag = out-Tree t ≡ Tree-F.Flag flag

-- a whole number from `low` to `high`
abbrev pub IsWholeIn : ℕ → ℕ → Tree → ℕ → Type 0
IsWholeIn low high t n = (out-Tree t ≡ Tree-F.Whole (pos n)) × (low ≤ n) × (n ≤ high)

abbrev pub IsListOfAny : Tree → List Tree → Type 0
IsListOfAny t items = out-Tree t ≡ Tree-F.List items

abbrev pub IsListOf : {A : Type 0} → (Tree → A → Type 0) → Tree → List A → Type 0
IsListOf R t xs = (items : List Tree) × IsListOfAny t items × AllZip R items xs

-- two whole numbers
abbrev pub IsRange : Tree → Span → Type 0
IsRange t span = (low : Tree) × (high : Tree) × IsListOfAny t (low ∷ high ∷ [])
    × (out-Tree low ≡ Tree-F.Whole span.low) × (out-Tree high ≡ Tree-F.Whole span.high)

-- one path, or a list of them
abbrev pub IsIncludes : Tree → List (List ℕ) → Type 0
IsIncludes t paths =
    ((path : List ℕ) × IsIncludePath t path × (paths ≡ path ∷ [])) ⊎ IsListOf IsIncludePath t paths

abbrev pub IsObject : Tree → Type 0
IsObject t = (members : List Member) × (out-Tree t ≡ Tree-F.Members members)

-- each member that counts says one of these
abbrev pub IsObjectOf : {B : Type 0} → (Member → Bool) → (Member → B → Type 0) → Tree → List B → Type 0
IsObjectOf counting R t ys = (members : List Member) × (out-Tree t ≡ Tree-F.Members members)
    × AllZip R (filter counting members) ys

-- ---- members: what is said where one is, or isn't

abbrev pub IsAbsent : Option Tree → Type 0
IsAbsent None = ⊤
IsAbsent (Some t) = out-Tree t ≡ Tree-F.Null

-- what the member says, and nothing where it is absent
abbrev pub IsGiven : {A : Type 0} → (Tree → A → Type 0) → Option Tree → Option A → Type 0
IsGiven R o None = IsAbsent o
IsGiven R o (Some x) = IsSomeAnd o (λ t. R t x)

-- what the member says, and the empty list where it is absent
abbrev pub IsGivenList : {A : Type 0} → (Tree → List A → Type 0) → Option Tree → List A → Type 0
IsGivenList R o xs = (IsAbsent o × (xs ≡ [])) ⊎ IsSomeAnd o (λ t. R t xs)

-- what the member of that name says in the object, and nothing where there is no object
abbrev pub IsGivenIn : {A : Type 0} → List ℕ → (Tree → A → Type 0) → Option Tree → Option A → Type 0
IsGivenIn name R o x = (IsAbsent o × (x ≡ None)) ⊎ IsSomeAnd o (λ t. IsObject t × IsGiven R (member_at name t) x)

-- ---- entries

-- a member that is `null` is passed by
abbrev pub is_entry : Member → Bool
is_entry m = not (is_null (out-Tree m.value))

-- and so is `$include` in an enumeration
abbrev pub is_enum_entry : Member → Bool
is_enum_entry m = not (is_include m.name) && not (is_null (out-Tree m.value))

-- an entry of an item, profile or include file may be `null`
abbrev pub is_layer_entry : Member → Bool
is_layer_entry m = not (is_include m.name)

-- the key is the caption where none is given
pub record SaysEnumMember (m : Member) (e : EnumMember) : Type 0 where
  pub object : IsObject m.value
  pub key : e.key ≡ m.name
  pub caption : (given : Option (List ℕ)) × IsGiven IsText (member_at (codes "caption") m.value) given
      × (e.caption ≡ unwrap_or given m.name)
  pub description : IsGiven IsText (member_at (codes "description") m.value) e.description

abbrev pub IsEnum : Tree → List EnumMember → Type 0
IsEnum = IsObjectOf is_enum_entry SaysEnumMember

-- a reference, or `null`
abbrev pub IsMark : Option Tree → Mark → Type 0
IsMark None Unsaid = ⊤
IsMark (Some t) Cleared = out-Tree t ≡ Tree-F.Null
IsMark (Some t) (Named name) = IsReference t name
IsMark _ _ = ⊥

abbrev pub removal : List ℕ → RawAttr
removal name = record {
  name = name;
  removed = true;
  caption = None;
  description = None;
  type_name = None;
  is_array = None;
  members = [];
  sibling = None;
  requirement = None;
  mark = Unsaid;
  group = None;
}

pub record SaysAttribute (t : Tree) (e : RawAttr) : Type 0 where
  pub object : IsObject t
  pub removed : e.removed ≡ false
  pub caption : IsGiven IsText (member_at (codes "caption") t) e.caption
  pub description : IsGiven IsText (member_at (codes "description") t) e.description
  pub type_name : IsGiven IsReference (member_at (codes "type") t) e.type_name
  pub is_array : IsGiven IsFlag (member_at (codes "is_array") t) e.is_array
  pub members : IsGivenList IsEnum (member_at (codes "enum") t) e.members
  pub sibling : IsGiven IsName (member_at (codes "sibling") t) e.sibling
  pub requirement : IsGiven IsRequirement (member_at (codes "requirement") t) e.requirement
  pub mark : IsMark (member_at (codes "profile") t) e.mark
  pub group : IsGiven IsText (member_at (codes "group") t) e.group

-- `null` removes
pub record SaysEntry (m : Member) (e : RawAttr) : Type 0 where
  pub named : is_name m.name ≡ true
  pub name : e.name ≡ m.name
  pub said : ((out-Tree m.value ≡ Tree-F.Null) × (e ≡ removal m.name)) ⊎ SaysAttribute m.value e

pub record SaysDictEntry (m : Member) (e : DictEntry) : Type 0 where
  pub named : is_name m.name ≡ true
  pub object : IsObject m.value
  pub name : e.name ≡ m.name
  pub caption : IsGiven IsText (member_at (codes "caption") m.value) e.caption
  pub description : IsGiven IsText (member_at (codes "description") m.value) e.description
  pub type_name : IsGiven IsReference (member_at (codes "type") m.value) e.type_name
  pub is_array : IsGiven IsFlag (member_at (codes "is_array") m.value) e.is_array
  pub members : IsGivenList IsEnum (member_at (codes "enum") m.value) e.members
  pub sibling : IsGiven IsName (member_at (codes "sibling") m.value) e.sibling

pub record SaysType (m : Member) (e : TypeEntry) : Type 0 where
  pub named : is_name m.name ≡ true
  pub object : IsObject m.value
  pub name : e.name ≡ m.name
  pub caption : IsGiven IsText (member_at (codes "caption") m.value) e.caption
  pub description : IsGiven IsText (member_at (codes "description") m.value) e.description
  pub parent : IsGiven IsName (member_at (codes "type") m.value) e.parent
  pub pattern : IsGiven IsPattern (member_at (codes "regex") m.value) e.pattern
  pub range : IsGiven IsRange (member_at (codes "range") m.value) e.range
  pub max_len : IsGiven (IsWholeIn 0 9223372036854775807) (member_at (codes "max_len") m.value) e.max_len
  pub values : IsGiven IsListOfAny (member_at (codes "values") m.value) e.values

pub record SaysCategory (m : Member) (e : CategoryEntry) : Type 0 where
  pub named : is_name m.name ≡ true
  pub object : IsObject m.value
  pub name : e.name ≡ m.name
  pub caption : IsGiven IsText (member_at (codes "caption") m.value) e.caption
  pub description : IsGiven IsText (member_at (codes "description") m.value) e.description
  pub uid : IsGiven (IsWholeIn 0 99) (member_at (codes "uid") m.value) (Some e.uid)

-- ---- files

abbrev pub SaysVersion : Tree → List ℕ → Type 0
SaysVersion t version = IsObject t × IsGiven IsText (member_at (codes "version") t) (Some version)

abbrev pub SaysCategories : Tree → List CategoryEntry → Type 0
SaysCategories t entries = IsObject t
    × IsSomeAnd (member_at (codes "attributes") t) (λ u. IsObjectOf is_entry SaysCategory u entries)

-- the types stand one object further down
abbrev pub IsTypeTable : Tree → List TypeEntry → Type 0
IsTypeTable t types = IsObject t × IsGivenList (IsObjectOf is_entry SaysType) (member_at (codes "attributes") t) types

pub record SaysDictionary (t : Tree) (file : DictFile) : Type 0 where
  pub object : IsObject t
  pub attributes : IsGivenList (IsObjectOf is_entry SaysDictEntry) (member_at (codes "attributes") t) file.attributes
  pub types : IsGivenList IsTypeTable (member_at (codes "types") t) file.types

-- `$include` may stand among the entries
abbrev pub IsItemEntries : Tree → List (List ℕ) → List RawAttr → Type 0
IsItemEntries t includes entries = IsGivenList IsIncludes (member_at (codes "$include") t) includes
    × IsObjectOf is_layer_entry SaysEntry t entries

-- the entries, and nothing to include
abbrev pub IsLayerEntries : Tree → List RawAttr → Type 0
IsLayerEntries t entries = IsAbsent (member_at (codes "$include") t) × IsObjectOf is_layer_entry SaysEntry t entries

-- the number of a class; an object has none
abbrev pub IsItemUid : Side → Option Tree → Option ℕ → Type 0
IsItemUid side.Class o uid = IsGiven (IsWholeIn 0 999) o uid
IsItemUid side.Object o uid = uid ≡ None

-- an item of core has a name, and so has one that extends nothing
pub record SaysItem (core : Bool) (t : Tree) (file : ItemFile) : Type 0 where
  pub object : IsObject t
  pub name : IsGiven IsName (member_at (codes "name") t) file.name
  pub named : (core ≡ true) ⊎ (file.parent ≡ None) → IsSome file.name
  pub caption : IsGiven IsText (member_at (codes "caption") t) file.caption
  pub description : IsGiven IsText (member_at (codes "description") t) file.description
  pub parent : IsGiven IsReference (member_at (codes "extends") t) file.parent
  pub category : IsGiven IsReference (member_at (codes "category") t) file.category
  pub uid : IsItemUid file.side (member_at (codes "uid") t) file.uid
  pub profiles : IsGivenList (IsListOf IsReference) (member_at (codes "profiles") t) file.profiles
  pub attributes : (IsAbsent (member_at (codes "attributes") t) × (file.includes ≡ []) × (file.attributes ≡ []))
      ⊎ IsSomeAnd (member_at (codes "attributes") t) (λ u. IsItemEntries u file.includes file.attributes)
  pub at_least_one :
      IsGivenIn (codes "at_least_one") (IsListOf IsName) (member_at (codes "constraints") t) file.at_least_one
  pub just_one : IsGivenIn (codes "just_one") (IsListOf IsName) (member_at (codes "constraints") t) file.just_one

pub record SaysProfile (t : Tree) (file : ProfileFile) : Type 0 where
  pub object : IsObject t
  pub name : IsGiven IsName (member_at (codes "name") t) (Some file.name)
  pub caption : IsGiven IsText (member_at (codes "caption") t) file.caption
  pub description : IsGiven IsText (member_at (codes "description") t) file.description
  pub group : IsGivenIn (codes "group") IsText (member_at (codes "annotations") t) file.group
  pub requirement : IsGivenIn (codes "requirement") IsRequirement (member_at (codes "annotations") t) file.requirement
  pub attributes : IsGivenList IsLayerEntries (member_at (codes "attributes") t) file.attributes

abbrev pub SaysInclude : Tree → List RawAttr → Type 0
SaysInclude t entries = IsObject t × IsGivenList IsLayerEntries (member_at (codes "attributes") t) entries

pub record SaysExtension (t : Tree) (file : ExtFile) : Type 0 where
  pub object : IsObject t
  pub name : IsGiven IsName (member_at (codes "name") t) (Some file.name)
  pub uid : IsGiven (IsWholeIn 1 999) (member_at (codes "uid") t) (Some file.uid)
  pub caption : IsGiven IsText (member_at (codes "caption") t) file.caption
  pub version : IsGiven IsText (member_at (codes "version") t) file.version

-- the tree of a file of that form, of core or not, says what the record holds
abbrev pub Says : Form → Bool → Tree → RawFile → Type 0
Says form.Version core t (raw.Version version) = SaysVersion t version
Says form.Categories core t (raw.Categories entries) = SaysCategories t entries
Says form.Dictionary core t (raw.Dictionary file) = SaysDictionary t file
Says (form.Item side) core t (raw.Item file) = (file.side ≡ side) × SaysItem core t file
Says form.Profile core t (raw.Profile file) = SaysProfile t file
Says form.Include core t (raw.Include entries) = SaysInclude t entries
Says form.Extension core t (raw.Extension file) = SaysExtension t file
Says _ core t _ = ⊥
