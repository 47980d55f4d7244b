-- How names resolve: the cells that a name leads to, tried in order.
use Rattle.std.specs.Prelude.{ℕ, Bool, List, [], ◌∷◌, ◌++◌, map, find, codes, Option, Some, None, if◌then◌else◌}
use Rattle.std.specs.List.{before_first}
use Rattle.std.specs.Option.{option_and_then}
use Rattle.ocsf_tree.specs.declared.key.Side.{Side}
use Rattle.ocsf_tree.specs.declared.key.Key.{Key}
use Rattle.ocsf_raw.specs.Names.{is_slash}
pub use Rattle.ocsf_raw.specs.Names.{has_slash}
use Rattle.ocsf_bundle.specs.Looks.{Looks, look, is_there}
use Rattle.ocsf_bundle.specs.declared.cells.Cell.{Cell}
use Rattle.ocsf_bundle.specs.declared.cells.Cell.TheVariants as cell

-- the first of a list, where it has one
abbrev pub first_of : {X : Type 0} → List X → Option X
first_of [] = None
first_of (x ∷ xs) = Some x

-- ---- keys

-- the extension of a key, empty for core
abbrev pub ext_of : List ℕ → List ℕ
ext_of key = if has_slash key then before_first is_slash key else []

abbrev pub in_extension : List ℕ → List ℕ → List ℕ
in_extension ext name = ext ++ codes "/" ++ name

-- the key of what a file of that extension, empty for core, names
abbrev pub key_in : List ℕ → List ℕ → List ℕ
key_in [] name = name
key_in (c ∷ ext) name = in_extension (c ∷ ext) name

-- the keys that a name may mean in a file of that extension: one with a slash is a key as it stands
abbrev pub candidates : List ℕ → List ℕ → List (List ℕ)
candidates [] name = name ∷ []
candidates (c ∷ ext) name = if has_slash name then name ∷ [] else in_extension (c ∷ ext) name ∷ name ∷ []

abbrev pub key : Side → List ℕ → Key
key side name = record { side = side; name = name }

-- ---- cells

-- whether the cell shows something
abbrev pub is_shown : Looks → Cell → Bool
is_shown b x = is_there (look b x)

-- the first of these cells that shows something
abbrev pub found : Looks → List Cell → Option Cell
found b cells = find (is_shown b) cells

-- the cells tried until one shows something, that one included
abbrev pub tried : Looks → List Cell → List Cell
tried b [] = []
tried b (x ∷ cells) = if is_shown b x then x ∷ [] else x ∷ tried b cells

abbrev pub exists_cell : Side → List ℕ → Cell
exists_cell side name = cell.Exists (key side name)

abbrev pub item_cells : Side → List ℕ → List ℕ → List Cell
item_cells side ext name = map (exists_cell side) (candidates ext name)

abbrev pub profile_cells : List ℕ → List ℕ → List Cell
profile_cells ext name = map cell.Profile (candidates ext name)

abbrev pub category_cells : List ℕ → List ℕ → List Cell
category_cells ext name = map cell.Category (candidates ext name)

-- a path means a file of the extension, or else one of core
abbrev pub include_cells : List ℕ → List ℕ → List Cell
include_cells [] path = cell.Include [] path ∷ []
include_cells (c ∷ ext) path = cell.Include (c ∷ ext) path ∷ cell.Include [] path ∷ []

-- ---- what was found

abbrev pub item_at : Cell → Option Key
item_at (cell.Exists k) = Some k
item_at _ = None

abbrev pub profile_at : Cell → Option (List ℕ)
profile_at (cell.Profile p) = Some p
profile_at _ = None

-- the item that a name means
abbrev pub item_named : Looks → Side → List ℕ → List ℕ → Option Key
item_named b side ext name = option_and_then item_at (found b (item_cells side ext name))

-- the key of the profile that a name means
abbrev pub profile_named : Looks → List ℕ → List ℕ → Option (List ℕ)
profile_named b ext name = option_and_then profile_at (found b (profile_cells ext name))
