-- The compact text of a tree: no blank, no line feed, and the shortest escapes.
use Rattle.std.specs.Prelude.{ℕ, List, ◌++◌, map, codes}
use Rattle.std.specs.List.{join_with_byte}
use Rattle.json.specs.Print.{quoted}
use Rattle.serde_json.specs.Written.{compact_text}
use Rattle.ocsf_tree.specs.declared.tree.Tree.{Tree}
use Rattle.ocsf_tree.specs.Data.{data_of}

abbrev pub text : Tree → List ℕ
text tree = compact_text (data_of tree)

-- a text in quotation marks
abbrev pub quoted_text : List ℕ → List ℕ
quoted_text = quoted

abbrev comma : ℕ
comma = 44

-- a list, of the texts of its items
abbrev pub array_text : List (List ℕ) → List ℕ
array_text items = codes "[" ++ join_with_byte comma items ++ codes "]"

-- a member, of its name and the text of its value
abbrev pub member_text : List ℕ × List ℕ → List ℕ
member_text member = quoted_text member.0 ++ codes ":" ++ member.1

-- an object, of the names of its members and the texts of their values
abbrev pub object_text : List (List ℕ × List ℕ) → List ℕ
object_text members = codes "{" ++ join_with_byte comma (map member_text members) ++ codes "}"
