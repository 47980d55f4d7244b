-- What a tree is, and its members by name.
use Rattle.std.specs.Prelude.{ℕ, Bool, true, false, List, [], ◌∷◌, if◌then◌else◌, Option, Some, None, unwrap_or}
use Rattle.std.specs.Prelude.{option_and_then}
use Rattle.std.specs.Str.{bytes_eq}
use Rattle.ocsf_tree.specs.declared.tree.Tree.{Tree, out-Tree}
use Rattle.ocsf_tree.specs.declared.tree.Tree.TheOpen.{Tree-F}
use Rattle.ocsf_tree.specs.declared.tree.Member.{Member}

-- ---- what a tree is

abbrev pub is_null : Tree-F Tree Member → Bool
is_null Tree-F.Null = true
is_null _ = false

abbrev pub text_of : Tree-F Tree Member → Option (List ℕ)
text_of (Tree-F.Words text) = Some text
text_of _ = None

abbrev pub items_of : Tree-F Tree Member → Option (List Tree)
items_of (Tree-F.List items) = Some items
items_of _ = None

abbrev pub members_of : Tree-F Tree Member → Option (List Member)
members_of (Tree-F.Members members) = Some members
members_of _ = None

-- the members of an object, and none of another tree
abbrev pub members_in : Tree → List Member
members_in t = unwrap_or (members_of (out-Tree t)) []

-- ---- the member of a name

abbrev pub member_in : List ℕ → List Member → Option Tree
member_in name [] = None
member_in name (m ∷ ms) = if bytes_eq m.name name then Some m.value else member_in name ms

abbrev pub member_of : List ℕ → Tree-F Tree Member → Option Tree
member_of name (Tree-F.Members ms) = member_in name ms
member_of name _ = None

abbrev pub member_at : List ℕ → Tree → Option Tree
member_at name t = member_of name (out-Tree t)

-- a member that is a text
abbrev pub text_at : List ℕ → Tree → Option (List ℕ)
text_at name tree = option_and_then (λ t. text_of (out-Tree t)) (member_at name tree)
