-- The members of an object that were written so far.
use Rattle.std.specs.Prelude.{◌≡◌, ℕ, List, [], ◌∷◌, ◌++◌, Bool, true, false, filter, map, codes}
use Rattle.std.specs.List.{join_with_byte, list_any}
use Rattle.ocsf_tree.specs.declared.key.Side.{Side}
use Rattle.ocsf_tree.specs.CompactText.{quoted_text, member_text}
use Rattle.ocsf_schema.specs.declared.records.Item.{Item}
use Rattle.ocsf_schema.specs.Print.{fragment}
use Rattle.ocsf_tree.specs.Key.{same_side}

abbrev pub separator : Bool → List ℕ
separator true = 44 ∷ []
separator false = []

-- the name of a member, behind a comma for a later one
abbrev pub label : Bool → List ℕ → List ℕ
label is_later name = separator is_later ++ (quoted_text name ++ codes ":")

abbrev pub is_of : Side → Item → Bool
is_of side item = same_side item.key.side side

abbrev pub item_text : Item → List ℕ
item_text item = member_text (item.key.name, fragment item)

abbrev pub joined_items : Side → List Item → List ℕ
joined_items side items = join_with_byte 44 (map item_text (filter (is_of side) items))

-- behind these bytes, the bracket and the fragments of these items are written
pub record HoldsItems (side : Side) (items : List Item) (before out : List ℕ) (is_later : Bool) : Type 0 where
  pub written : out ≡ before ++ 123 ∷ joined_items side items
  pub later : is_later ≡ list_any (is_of side) items
