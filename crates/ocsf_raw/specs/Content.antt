-- What the record of a file says: each field is the listed member of the tree, and nothing where that
-- is absent or `null`.
use Rattle.std.specs.Prelude.{ℕ, ℤ, pos, negsuc, Bool, ◌||◌, ◌^◌, nat_lt, List, [], ◌∷◌, if◌then◌else◌, codes, Option}
use Rattle.std.specs.Prelude.{Some, None, map, unwrap_or, option_map, option_and_then}
use Rattle.std.specs.List.{filter_map}
use Rattle.ocsf_tree.specs.declared.tree.Tree.{Tree, out-Tree}
use Rattle.ocsf_tree.specs.declared.tree.Tree.TheOpen.{Tree-F}
use Rattle.ocsf_tree.specs.declared.tree.Member.{Member}
use Rattle.ocsf_tree.specs.declared.attribute.EnumMember.{EnumMember}
use Rattle.ocsf_tree.specs.declared.attribute.Requirement.{Requirement}
use Rattle.ocsf_tree.specs.declared.attribute.Span.{Span}
use Rattle.ocsf_tree.specs.declared.key.Side.{Side}
use Rattle.ocsf_tree.specs.declared.key.Side.TheVariants as side
use Rattle.ocsf_tree.specs.Lookup.{member_at, items_of, members_of, text_of, text_at, is_null}
use Rattle.ocsf_raw.specs.declared.attribute.Mark.{Mark}
use Rattle.ocsf_raw.specs.declared.attribute.Mark.TheVariants.{Unsaid, Cleared, Named}
use Rattle.ocsf_raw.specs.declared.attribute.RawAttr.{RawAttr}
use Rattle.ocsf_raw.specs.declared.dictionary.DictFile.{DictFile}
use Rattle.ocsf_raw.specs.declared.dictionary.DictEntry.{DictEntry}
use Rattle.ocsf_raw.specs.declared.dictionary.TypeEntry.{TypeEntry}
use Rattle.ocsf_raw.specs.declared.files.RawFile.{RawFile}
use Rattle.ocsf_raw.specs.declared.files.RawFile.TheVariants as raw
use Rattle.ocsf_raw.specs.declared.files.CategoryEntry.{CategoryEntry}
use Rattle.ocsf_raw.specs.declared.files.ItemFile.{ItemFile}
use Rattle.ocsf_raw.specs.declared.files.ProfileFile.{ProfileFile}
use Rattle.ocsf_raw.specs.declared.files.ExtFile.{ExtFile}
use Rattle.ocsf_raw.specs.declared.path_form.Form.{Form}
use Rattle.ocsf_raw.specs.declared.path_form.Form.TheVariants as form
use Rattle.ocsf_tree.specs.Requirement.{requirement_named}
use Rattle.ocsf_raw.specs.Wanted.{include_key, is_include}

-- ---- members by their kind

abbrev pub flag_of : Tree-F Tree Member → Option Bool
flag_of (Tree-F.Flag b) = Some b
flag_of _ = None

abbrev pub flag_at : List ℕ → Tree → Option Bool
flag_at name t = option_and_then (λ u. flag_of (out-Tree u)) (member_at name t)

abbrev pub natural_below : ℕ → ℤ → Option ℕ
natural_below limit (pos n) = if nat_lt n limit then Some n else None
natural_below limit (negsuc n) = None

abbrev pub natural_of : ℕ → Tree-F Tree Member → Option ℕ
natural_of limit (Tree-F.Whole z) = natural_below limit z
natural_of limit _ = None

abbrev pub natural_at : ℕ → List ℕ → Tree → Option ℕ
natural_at limit name t = option_and_then (λ u. natural_of limit (out-Tree u)) (member_at name t)

abbrev pub requirement_at : List ℕ → Tree → Option Requirement
requirement_at name t = option_and_then requirement_named (text_at name t)

abbrev pub list_at : List ℕ → Tree → Option (List Tree)
list_at name t = option_and_then (λ u. items_of (out-Tree u)) (member_at name t)

abbrev pub texts_in : List Tree → List (List ℕ)
texts_in items = filter_map (λ t. text_of (out-Tree t)) items

abbrev pub texts_at : List ℕ → Tree → Option (List (List ℕ))
texts_at name t = option_map texts_in (list_at name t)

abbrev pub object_at : List ℕ → Tree → Option (List Member)
object_at name t = option_and_then (λ u. members_of (out-Tree u)) (member_at name t)

abbrev pub members_at : List ℕ → Tree → List Member
members_at name t = unwrap_or (object_at name t) []

abbrev pub whole_pair : List (Tree-F Tree Member) → Option Span
whole_pair (Tree-F.Whole low ∷ Tree-F.Whole high ∷ []) = Some (record { low = low; high = high })
whole_pair _ = None

-- ---- entries

-- the key is the caption where none is given
abbrev pub enum_member : Member → Option EnumMember
enum_member m =
    if is_include m.name || is_null (out-Tree m.value) then None
    else Some (record {
      key = m.name;
      caption = unwrap_or (text_at (codes "caption") m.value) m.name;
      description = text_at (codes "description") m.value;
    })

abbrev pub enum_members : Tree → List EnumMember
enum_members t = filter_map enum_member (members_at (codes "enum") t)

abbrev pub mark_of : Tree-F Tree Member → Mark
mark_of Tree-F.Null = Cleared
mark_of (Tree-F.Words s) = Named s
mark_of _ = Unsaid

-- what `profile` says; `null` clears
abbrev pub mark_in : Option Tree → Mark
mark_in None = Unsaid
mark_in (Some t) = mark_of (out-Tree t)

-- an entry of an item, profile or include file; a `null` one removes
abbrev pub entry_named : List ℕ → Tree → RawAttr
entry_named name t = record {
  name = name;
  removed = is_null (out-Tree t);
  caption = text_at (codes "caption") t;
  description = text_at (codes "description") t;
  type_name = text_at (codes "type") t;
  is_array = flag_at (codes "is_array") t;
  members = enum_members t;
  sibling = text_at (codes "sibling") t;
  requirement = requirement_at (codes "requirement") t;
  mark = mark_in (member_at (codes "profile") t);
  group = text_at (codes "group") t;
}

abbrev pub entry : Member → Option RawAttr
entry m = if is_include m.name then None else Some (entry_named m.name m.value)

abbrev pub entries : Tree → List RawAttr
entries t = filter_map entry (members_at (codes "attributes") t)

-- ---- dictionaries and categories

-- what is made of a member that is there and isn't `null`
abbrev pub unless_null : {A : Type 0} → Tree → A → Option A
unless_null t x = if is_null (out-Tree t) then None else Some x

abbrev pub dictionary_entry_named : List ℕ → Tree → DictEntry
dictionary_entry_named name t = record {
  name = name;
  caption = text_at (codes "caption") t;
  description = text_at (codes "description") t;
  type_name = text_at (codes "type") t;
  is_array = flag_at (codes "is_array") t;
  members = enum_members t;
  sibling = text_at (codes "sibling") t;
}

abbrev pub listed_attribute : Member → Option DictEntry
listed_attribute m = unless_null m.value (dictionary_entry_named m.name m.value)

abbrev pub span_at : List ℕ → Tree → Option Span
span_at name t = option_and_then (λ items. whole_pair (map out-Tree items)) (list_at name t)

abbrev pub type_named : List ℕ → Tree → TypeEntry
type_named name t = record {
  name = name;
  caption = text_at (codes "caption") t;
  description = text_at (codes "description") t;
  parent = text_at (codes "type") t;
  pattern = text_at (codes "regex") t;
  range = span_at (codes "range") t;
  max_len = natural_at (2 ^ 64) (codes "max_len") t;
  values = list_at (codes "values") t;
}

abbrev pub listed_type : Member → Option TypeEntry
listed_type m = unless_null m.value (type_named m.name m.value)

-- the types stand one object further down
abbrev pub type_members : Option Tree → List Member
type_members None = []
type_members (Some t) = members_at (codes "attributes") t

abbrev pub dictionary_file : Tree → DictFile
dictionary_file t = record {
  attributes = filter_map listed_attribute (members_at (codes "attributes") t);
  types = filter_map listed_type (type_members (member_at (codes "types") t));
}

abbrev pub category_named : List ℕ → Tree → CategoryEntry
category_named name t = record {
  name = name;
  caption = text_at (codes "caption") t;
  description = text_at (codes "description") t;
  uid = unwrap_or (natural_at (2 ^ 32) (codes "uid") t) 0;
}

abbrev pub listed_category : Member → Option CategoryEntry
listed_category m = unless_null m.value (category_named m.name m.value)

-- ---- files

-- one path, or a list of them
abbrev pub includes_of : Tree-F Tree Member → List (List ℕ)
includes_of (Tree-F.Words path) = path ∷ []
includes_of (Tree-F.List items) = texts_in items
includes_of _ = []

abbrev pub includes_in : Option Tree → List (List ℕ)
includes_in None = []
includes_in (Some t) = includes_of (out-Tree t)

abbrev pub includes : Tree → List (List ℕ)
includes t = includes_in (option_and_then (member_at include_key) (member_at (codes "attributes") t))

abbrev pub constraint_at : List ℕ → Tree → Option (List (List ℕ))
constraint_at name t = option_and_then (texts_at name) (member_at (codes "constraints") t)

-- `uid` is read for classes alone
abbrev pub item_uid : Side → Tree → Option ℕ
item_uid side.Class t = natural_at (2 ^ 32) (codes "uid") t
item_uid side.Object t = None

abbrev pub item_file : Side → Tree → ItemFile
item_file side t = record {
  side = side;
  name = text_at (codes "name") t;
  caption = text_at (codes "caption") t;
  description = text_at (codes "description") t;
  parent = text_at (codes "extends") t;
  category = text_at (codes "category") t;
  uid = item_uid side t;
  profiles = unwrap_or (texts_at (codes "profiles") t) [];
  includes = includes t;
  attributes = entries t;
  at_least_one = constraint_at (codes "at_least_one") t;
  just_one = constraint_at (codes "just_one") t;
}

abbrev pub annotation_text : List ℕ → Tree → Option (List ℕ)
annotation_text name t = option_and_then (text_at name) (member_at (codes "annotations") t)

abbrev pub text_or_empty : List ℕ → Tree → List ℕ
text_or_empty name t = unwrap_or (text_at name t) []

abbrev pub profile_file : Tree → ProfileFile
profile_file t = record {
  name = text_or_empty (codes "name") t;
  caption = text_at (codes "caption") t;
  description = text_at (codes "description") t;
  group = annotation_text (codes "group") t;
  requirement = option_and_then requirement_named (annotation_text (codes "requirement") t);
  attributes = entries t;
}

abbrev pub extension_file : Tree → ExtFile
extension_file t = record {
  name = text_or_empty (codes "name") t;
  uid = unwrap_or (natural_at (2 ^ 32) (codes "uid") t) 0;
  caption = text_at (codes "caption") t;
  version = text_at (codes "version") t;
}

-- the record of a file of that form
abbrev pub content : Form → Tree → RawFile
content form.Version t = raw.Version (text_or_empty (codes "version") t)
content form.Categories t = raw.Categories (filter_map listed_category (members_at (codes "attributes") t))
content form.Dictionary t = raw.Dictionary (dictionary_file t)
content (form.Item side) t = raw.Item (item_file side t)
content form.Profile t = raw.Profile (profile_file t)
content form.Include t = raw.Include (entries t)
content form.Extension t = raw.Extension (extension_file t)
