-- What is found in a schema.
use Rattle.std.specs.Prelude.{ℕ, List, Bool, false, ◌&&◌, not, if◌then◌else◌, eqb, All, Option, Some, None}
use Rattle.std.specs.List.{find}
use Rattle.ocsf_tree.specs.declared.key.Key.{Key}
use Rattle.ocsf_tree.specs.declared.key.Side.TheVariants.{Class}
use Rattle.ocsf_lists.specs.ByName.{IsByName, at_name}
use Rattle.ocsf_tree.specs.Key.{key_text, same_side}
use Rattle.ocsf_schema.specs.declared.records.Item.{Item}

-- strictly by full key
abbrev pub IsByKey : List Item → Type 0
IsByKey items = IsByName (λ item. key_text item.key) items

-- the item of that key
abbrev pub item_at : Key → List Item → Option Item
item_at key items = at_name (λ item. key_text item.key) (key_text key) items

-- the number by which an item is found: only a class that isn't hidden has one
abbrev pub class_number : Item → Option ℕ
class_number item = if same_side item.key.side Class && not item.hidden then item.class_uid else None

abbrev pub is_number : ℕ → Option ℕ → Bool
is_number uid None = false
is_number uid (Some number) = eqb number uid

-- the first class of that number
abbrev pub class_at : ℕ → List Item → Option Item
class_at uid items = find (λ item. is_number uid (class_number item)) items

-- its attributes stand strictly by name, and the members of each enumeration strictly by key
pub record IsInOrder (item : Item) : Type 0 where
  pub attributes : IsByName (λ attr. attr.name) item.attrs
  pub members : All (λ attr. IsByName (λ member. member.key) attr.members) item.attrs
