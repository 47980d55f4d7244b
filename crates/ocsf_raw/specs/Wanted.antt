-- What is wanted of a file or an edit: at the place of a tree, of the items of a list and of the members
-- of an object.
use Rattle.std.specs.Prelude.{ℕ, ℤ, ◌+◌, pos, Bool, true, false, not, ◌&&◌, ◌||◌, ◌==◌, nat_le, int_le, List, [], ◌∷◌}
use Rattle.std.specs.Prelude.{length, if◌then◌else◌, codes, Option, Some, None, is_some}
use Rattle.std.specs.Str.{bytes_eq}
use Rattle.ocsf_tree.specs.declared.tree.Tree.{Tree}
use Rattle.ocsf_tree.specs.declared.tree.Tree.TheOpen.{Tree-F}
use Rattle.ocsf_tree.specs.declared.tree.Member.{Member}
use Rattle.ocsf_tree.specs.declared.attribute.Span.{Span}
use Rattle.ocsf_tree.specs.Lookup.{is_null, member_of}
use Rattle.ocsf_tree.specs.Requirement.{requirement_named}
use Rattle.ocsf_tree.specs.declared.key.Side.{Side}
use Rattle.ocsf_tree.specs.declared.key.Side.TheVariants as side
use Rattle.ocsf_raw.specs.declared.what.What.{What}
use Rattle.ocsf_raw.specs.declared.what.What.TheVariants.{NotAnObject, NotAList, NotAText, NotAWhole, NotAFlag, BadName}
use Rattle.ocsf_raw.specs.declared.what.What.TheVariants.{BadPath, NotARequirement, NestedInclude, NotTwo, OutOfRange}
use Rattle.ocsf_raw.specs.declared.what.What.TheVariants.{TooLong, NotOne}
use Rattle.ocsf_raw.specs.declared.wanted.Wanted.{Wanted}
use Rattle.ocsf_raw.specs.declared.wanted.Wanted.TheVariants.{Plain, Listed, Object, Refused}
use Rattle.ocsf_raw.specs.declared.wanted.Plain.{Plain as Plains}
use Rattle.ocsf_raw.specs.declared.wanted.Plain.TheVariants as plain
use Rattle.ocsf_raw.specs.declared.wanted.Listed.{Listed as Lists}
use Rattle.ocsf_raw.specs.declared.wanted.Listed.TheVariants as listed
use Rattle.ocsf_raw.specs.declared.wanted.Object.{Object as Objects}
use Rattle.ocsf_raw.specs.declared.wanted.Object.TheVariants as object
use Rattle.ocsf_raw.specs.Names.{is_name, is_reference}
use Rattle.ocsf_raw.specs.Forms.{is_include_path}

-- ---- at the place itself

-- a text that passes the test
abbrev pub tested : (List ℕ → Bool) → What → Tree-F Tree Member → Option What
tested test what (Tree-F.Words s) = if test s then None else Some what
tested test what _ = Some NotAText

abbrev pub text_fault : Tree-F Tree Member → Option What
text_fault (Tree-F.Words s) = None
text_fault _ = Some NotAText

abbrev pub flag_fault : Tree-F Tree Member → Option What
flag_fault (Tree-F.Flag b) = None
flag_fault _ = Some NotAFlag

abbrev pub whole_fault : Tree-F Tree Member → Option What
whole_fault (Tree-F.Whole z) = None
whole_fault _ = Some NotAWhole

abbrev pub is_in : Span → ℤ → Bool
is_in span z = int_le span.low z && int_le z span.high

abbrev pub span_fault : Span → Tree-F Tree Member → Option What
span_fault span (Tree-F.Whole z) = if is_in span z then None else Some OutOfRange
span_fault span _ = Some NotAWhole

abbrev pub mark_fault : Tree-F Tree Member → Option What
mark_fault Tree-F.Null = None
mark_fault t = tested is_reference BadName t

abbrev pub is_requirement : List ℕ → Bool
is_requirement s = is_some (requirement_named s)

-- at most 8,192 bytes
abbrev pub is_short : List ℕ → Bool
is_short s = nat_le (length s) 8192

abbrev pub plain_fault : Plains → Tree-F Tree Member → Option What
plain_fault plain.Text t = text_fault t
plain_fault plain.Flag t = flag_fault t
plain_fault plain.Whole t = whole_fault t
plain_fault (plain.WholeIn span) t = span_fault span t
plain_fault plain.Name t = tested is_name BadName t
plain_fault plain.Reference t = tested is_reference BadName t
plain_fault plain.Mark t = mark_fault t
plain_fault plain.Requirement t = tested is_requirement NotARequirement t
plain_fault plain.Pattern t = tested is_short TooLong t
plain_fault plain.IncludePath t = tested is_include_path BadPath t

abbrev pub some_list : Tree-F Tree Member → Option What
some_list (Tree-F.List items) = None
some_list _ = Some NotAList

abbrev pub range_fault : Tree-F Tree Member → Option What
range_fault (Tree-F.List items) = if length items == 2 then None else Some NotTwo
range_fault _ = Some NotAList

-- one path, or a list
abbrev pub includes_fault : Tree-F Tree Member → Option What
includes_fault (Tree-F.Words s) = if is_include_path s then None else Some BadPath
includes_fault (Tree-F.List items) = None
includes_fault _ = Some NotAList

abbrev pub list_fault : Lists → Tree-F Tree Member → Option What
list_fault listed.Names t = some_list t
list_fault listed.References t = some_list t
list_fault listed.Range t = range_fault t
list_fault listed.Values t = some_list t
list_fault listed.Includes t = includes_fault t
list_fault listed.Changes t = some_list t

abbrev pub some_object : Tree-F Tree Member → Option What
some_object (Tree-F.Members members) = None
some_object _ = Some NotAnObject

abbrev pub entry_fault : Tree-F Tree Member → Option What
entry_fault Tree-F.Null = None
entry_fault t = some_object t

-- one where the member is there
abbrev pub there : Option Tree → ℕ
there None = 0
there (Some t) = 1

-- how many of the four kinds of change the members of an object give
abbrev pub kind_count : Tree-F Tree Member → ℕ
kind_count t =
    there (member_of (codes "put") t) + there (member_of (codes "remove") t)
    + there (member_of (codes "enable") t) + there (member_of (codes "disable") t)

abbrev pub one_kind_fault : ℕ → Option What
one_kind_fault count = if count == 1 then None else Some NotOne

abbrev pub change_fault : Tree-F Tree Member → Option What
change_fault (Tree-F.Members members) = one_kind_fault (kind_count (Tree-F.Members members))
change_fault _ = Some NotAnObject

abbrev pub object_fault : Objects → Tree-F Tree Member → Option What
object_fault object.Entry t = entry_fault t
object_fault object.Change t = change_fault t
object_fault _ t = some_object t

abbrev pub fault_here : Wanted → Tree-F Tree Member → Option What
fault_here (Plain wanted) t = plain_fault wanted t
fault_here (Listed wanted) t = list_fault wanted t
fault_here (Object wanted) t = object_fault wanted t
fault_here (Refused what) t = Some what

-- ---- of the items of a list

abbrev pub item_of_list : Lists → Option Wanted
item_of_list listed.Names = Some (Plain plain.Name)
item_of_list listed.References = Some (Plain plain.Reference)
item_of_list listed.Range = Some (Plain plain.Whole)
item_of_list listed.Values = None
item_of_list listed.Includes = Some (Plain plain.IncludePath)
item_of_list listed.Changes = Some (Object object.Change)

abbrev pub item_wanted : Wanted → Option Wanted
item_wanted (Listed wanted) = item_of_list wanted
item_wanted _ = None

-- ---- of the members of an object

abbrev pub Fields : Type 0
Fields = List (List ℕ × Wanted)

abbrev pub field_of : Fields → List ℕ → Option Wanted
field_of [] name = None
field_of (f ∷ fs) name = if bytes_eq name f.0 then Some f.1 else field_of fs name

abbrev pub text : Wanted
text = Plain plain.Text

abbrev pub whole_in : ℕ → ℕ → Wanted
whole_in low high = Plain (plain.WholeIn (record { low = pos low; high = pos high }))

abbrev pub version_fields : Fields
version_fields = (codes "version", text) ∷ []

abbrev pub categories_fields : Fields
categories_fields = (codes "attributes", Object object.Categories) ∷ []

abbrev pub category_fields : Fields
category_fields =
    (codes "caption", text)
    ∷ (codes "description", text)
    ∷ (codes "uid", whole_in 0 99)
    ∷ []

abbrev pub dictionary_fields : Fields
dictionary_fields =
    (codes "attributes", Object object.DictionaryEntries)
    ∷ (codes "types", Object object.TypeTable)
    ∷ []

abbrev pub dictionary_entry_fields : Fields
dictionary_entry_fields =
    (codes "caption", text)
    ∷ (codes "description", text)
    ∷ (codes "enum", Object object.EnumMembers)
    ∷ (codes "is_array", Plain plain.Flag)
    ∷ (codes "sibling", Plain plain.Name)
    ∷ (codes "type", Plain plain.Reference)
    ∷ []

abbrev pub type_table_fields : Fields
type_table_fields = (codes "attributes", Object object.Types) ∷ []

abbrev pub type_fields : Fields
type_fields =
    (codes "caption", text)
    ∷ (codes "description", text)
    ∷ (codes "max_len", whole_in 0 9223372036854775807)
    ∷ (codes "range", Listed listed.Range)
    ∷ (codes "regex", Plain plain.Pattern)
    ∷ (codes "type", Plain plain.Name)
    ∷ (codes "values", Listed listed.Values)
    ∷ []

abbrev pub object_item_fields : Fields
object_item_fields =
    (codes "attributes", Object object.ItemEntries)
    ∷ (codes "caption", text)
    ∷ (codes "category", Plain plain.Reference)
    ∷ (codes "constraints", Object object.Constraints)
    ∷ (codes "description", text)
    ∷ (codes "extends", Plain plain.Reference)
    ∷ (codes "name", Plain plain.Name)
    ∷ (codes "profiles", Listed listed.References)
    ∷ []

-- `uid` is read for classes alone
abbrev pub item_fields : Side → Fields
item_fields side.Class = (codes "uid", whole_in 0 999) ∷ object_item_fields
item_fields side.Object = object_item_fields

abbrev pub constraints_fields : Fields
constraints_fields =
    (codes "at_least_one", Listed listed.Names)
    ∷ (codes "just_one", Listed listed.Names)
    ∷ []

abbrev pub profile_fields : Fields
profile_fields =
    (codes "annotations", Object object.Annotations)
    ∷ (codes "attributes", Object object.LayerEntries)
    ∷ (codes "caption", text)
    ∷ (codes "description", text)
    ∷ (codes "name", Plain plain.Name)
    ∷ []

abbrev pub annotations_fields : Fields
annotations_fields = (codes "group", text) ∷ (codes "requirement", Plain plain.Requirement) ∷ []

abbrev pub include_fields : Fields
include_fields = (codes "attributes", Object object.LayerEntries) ∷ []

abbrev pub entry_fields : Fields
entry_fields =
    (codes "caption", text)
    ∷ (codes "description", text)
    ∷ (codes "enum", Object object.EnumMembers)
    ∷ (codes "group", text)
    ∷ (codes "is_array", Plain plain.Flag)
    ∷ (codes "profile", Plain plain.Mark)
    ∷ (codes "requirement", Plain plain.Requirement)
    ∷ (codes "sibling", Plain plain.Name)
    ∷ (codes "type", Plain plain.Reference)
    ∷ []

abbrev pub enum_member_fields : Fields
enum_member_fields = (codes "caption", text) ∷ (codes "description", text) ∷ []

abbrev pub extension_fields : Fields
extension_fields =
    (codes "caption", text)
    ∷ (codes "name", Plain plain.Name)
    ∷ (codes "uid", whole_in 1 999)
    ∷ (codes "version", text)
    ∷ []

-- `body` may be any tree
abbrev pub change_fields : Fields
change_fields =
    (codes "disable", Plain plain.Name)
    ∷ (codes "enable", Plain plain.Name)
    ∷ (codes "put", text)
    ∷ (codes "remove", text)
    ∷ []

-- from names to objects of that kind
abbrev pub named_entry : Objects → List ℕ → Option Wanted
named_entry kind name = if is_name name then Some (Object kind) else Some (Refused BadName)

-- the member that names the files to include, where entries stand
abbrev pub include_key : List ℕ
include_key = codes "$include"

abbrev pub is_include : List ℕ → Bool
is_include name = bytes_eq name include_key

abbrev pub item_entry_at : List ℕ → Option Wanted
item_entry_at name = if is_include name then Some (Listed listed.Includes) else named_entry object.Entry name

abbrev pub layer_entry_at : List ℕ → Option Wanted
layer_entry_at name = if is_include name then Some (Refused NestedInclude) else named_entry object.Entry name

-- any text is the key of a member
abbrev pub enum_member_at : List ℕ → Option Wanted
enum_member_at name = if is_include name then None else Some (Object object.EnumMember)

-- the members that an object of that kind may have by name
abbrev pub fields_listed : Objects → Fields
fields_listed object.VersionFile = version_fields
fields_listed object.CategoriesFile = categories_fields
fields_listed object.Category = category_fields
fields_listed object.DictionaryFile = dictionary_fields
fields_listed object.DictionaryEntry = dictionary_entry_fields
fields_listed object.TypeTable = type_table_fields
fields_listed object.Type = type_fields
fields_listed (object.ItemFile side core) = object_item_fields
fields_listed object.Constraints = constraints_fields
fields_listed object.ProfileFile = profile_fields
fields_listed object.Annotations = annotations_fields
fields_listed object.IncludeFile = include_fields
fields_listed object.Entry = entry_fields
fields_listed object.EnumMember = enum_member_fields
fields_listed object.ExtensionFile = extension_fields
fields_listed object.Change = change_fields
fields_listed _ = []

-- of the member of that name
abbrev pub member_wanted : Objects → List ℕ → Option Wanted
member_wanted object.Categories = named_entry object.Category
member_wanted object.DictionaryEntries = named_entry object.DictionaryEntry
member_wanted object.Types = named_entry object.Type
member_wanted object.ItemEntries = item_entry_at
member_wanted object.LayerEntries = layer_entry_at
member_wanted object.EnumMembers = enum_member_at
member_wanted (object.ItemFile side core) = field_of (item_fields side)
member_wanted wanted = field_of (fields_listed wanted)

-- `null` counts as absent, except as an entry and in a change
abbrev pub has_null_entries : Objects → Bool
has_null_entries object.ItemEntries = true
has_null_entries object.LayerEntries = true
has_null_entries object.Change = true
has_null_entries _ = false

abbrev pub counts : Objects → List ℕ → Tree-F Tree Member → Bool
counts wanted name t = not (is_null t) || (has_null_entries wanted && not (is_include name))

-- the names of the members that may not be absent, but for an item's and a change's
abbrev pub needed : Objects → List (List ℕ)
needed object.VersionFile = codes "version" ∷ []
needed object.CategoriesFile = codes "attributes" ∷ []
needed object.Category = codes "uid" ∷ []
needed object.ProfileFile = codes "name" ∷ []
needed object.ExtensionFile = codes "name" ∷ codes "uid" ∷ []
needed _ = []
