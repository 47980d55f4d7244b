-- What a tree is as the data of `serde_json`.
use Rattle.std.specs.Prelude.{ℕ, List, [], ◌∷◌, map}
use Rattle.serde_json.specs.Data.{Data, null, boolean, number, string, array, object, Items, Members as DataMembers}
use Rattle.serde_json.specs.Data.{no_members, member}
use Rattle.serde_json.specs.View.{items_of}
use Rattle.serde_json.specs.Find.{of_integer}
use Rattle.ocsf_tree.specs.declared.tree.Tree.{Tree, fold-Tree}
use Rattle.ocsf_tree.specs.declared.tree.Tree.TheOpen.{Tree-F, Member-F}
use Rattle.ocsf_tree.specs.declared.tree.Member.{Member}

abbrev pub Named : Type 0
Named = List ℕ × Data

abbrev pub members_of : List Named → DataMembers
members_of [] = no_members
members_of (m ∷ ms) = member m.0 m.1 (members_of ms)

-- one level, with each tree inside already seen as its data
abbrev pub tree_step : Tree-F Data Named → Data
tree_step Tree-F.Null = null
tree_step (Tree-F.Flag b) = boolean b
tree_step (Tree-F.Whole z) = number (of_integer z)
tree_step (Tree-F.Words s) = string s
tree_step (Tree-F.List ds) = array (items_of ds)
tree_step (Tree-F.Members ms) = object (members_of ms)

abbrev pub member_step : Member-F Data Named → Named
member_step m = (m.name, m.value)

abbrev pub data_of : Tree → Data
data_of = fold-Tree Data Named tree_step member_step

abbrev pub list_data : List Tree → Items
list_data ts = items_of (map data_of ts)

abbrev pub named : Member → Named
named m = (m.name, data_of m.value)

abbrev pub members_data : List Member → DataMembers
members_data ms = members_of (map named ms)
