-- Valid trees: at every depth whole numbers are signed or unsigned 64-bit ones, and the members of an
-- object stand strictly in the order of their names' bytes.
use Rattle.std.specs.Prelude.{◌≡◌, ℕ, ◌^◌, ◌&&◌, List, Bool, true, false, nat_lt, pos, negsuc}
use Rattle.std.specs.Cmp.Lexicographic.{slice_cmp}
use Rattle.std.specs.Ordering.{nat_cmp, match_ordering}
use Rattle.serde_json.specs.Data.{Num, unsigned, negative, float, Data, null, boolean, number, string, array, object}
use Rattle.serde_json.specs.Data.{Items, no_items, item, Members, no_members, member}
use Rattle.ocsf_tree.specs.declared.tree.Tree.{Tree}
use Rattle.ocsf_tree.specs.declared.tree.Member.{Member}
use Rattle.ocsf_tree.specs.Data.{data_of, list_data, members_data}

abbrev pub is_whole : Num → Bool
is_whole (unsigned n) = nat_lt n (2 ^ 64)
is_whole (negative (pos n)) = false
is_whole (negative (negsuc n)) = nat_lt n (2 ^ 63)
is_whole (float x) = false

-- the name stands before the first of these members
abbrev pub is_before : List ℕ → Members → Bool
is_before k no_members = true
is_before k (member l d ms) = match_ordering (slice_cmp nat_cmp k l) true false false

abbrev mutual
  pub is_valid : Data → Bool
  is_valid null = true
  is_valid (boolean b) = true
  is_valid (number n) = is_whole n
  is_valid (string s) = true
  is_valid (array ds) = are_valid ds
  is_valid (object ms) = members_valid ms

  pub are_valid : Items → Bool
  are_valid no_items = true
  are_valid (item d ds) = is_valid d && are_valid ds

  pub members_valid : Members → Bool
  members_valid no_members = true
  members_valid (member k d ms) = is_before k ms && (is_valid d && members_valid ms)

-- a tree is valid
abbrev pub IsValid : Tree → Type 0
IsValid tree = is_valid (data_of tree) ≡ true

-- each of these is valid
abbrev pub IsValidList : List Tree → Type 0
IsValidList items = are_valid (list_data items) ≡ true

-- the names stand strictly in the order of their bytes, and each value is valid
abbrev pub IsValidMembers : List Member → Type 0
IsValidMembers members = members_valid (members_data members) ≡ true
