-- What a text reads as.
use Rattle.std.specs.Prelude.{◌≡◌, ◌≢◌, ℕ, List, [], ◌∷◌, ⊤, Float, IsUtf8, Option, Some, option_and_then, Result, Ok}
use Rattle.std.specs.Prelude.{Err}
use Rattle.std.specs.declared.cmp.Ordering.TheVariants.{Greater}
use Rattle.serde_json.specs.Data.{Data, number, float, depth}
use Rattle.serde_json.specs.Find.{get, at}
use Rattle.serde_json.specs.Read.{read}
use Rattle.ocsf_tree.specs.declared.tree.Tree.{Tree}
use Rattle.ocsf_tree.specs.declared.place.Step.{Step}
use Rattle.ocsf_tree.specs.declared.place.Step.TheVariants.{At, Name}
use Rattle.ocsf_tree.specs.declared.reader.TreeError.{TreeError}
use Rattle.ocsf_tree.specs.declared.reader.TreeError.TheVariants.{NotJson, NumberNotWhole, Memory}
use Rattle.ocsf_tree.specs.Data.{data_of}
use Rattle.ocsf_tree.specs.Valid.{IsValid}
use Rattle.ocsf_tree.specs.Place.{place_cmp}

-- The text is the UTF-8 of this value, by the grammar of RFC 8259 and with brackets at most 127 deep. The
-- members of an object are in byte order, and of those with one name the last counts.
abbrev pub IsJson : List ℕ → Data → Type 0
IsJson bytes value = IsUtf8 bytes × (read bytes ≡ Some value)

-- ---- numbers that are no signed or unsigned 64-bit whole numbers, which are data's floats

abbrev pub step_to : Step → Data → Option Data
step_to (At position) value = at position value
step_to (Name name) value = get name value

-- what stands at a place
abbrev pub value_at : List Step → Data → Option Data
value_at [] value = Some value
value_at (step ∷ steps) value = option_and_then (value_at steps) (step_to step value)

-- such a number stands there
abbrev pub IsInexactAt : Data → List Step → Type 0
IsInexactAt value place = (x : Float) × (value_at place value ≡ Some (number (float x)))

-- and none at an earlier place
abbrev pub IsFirstInexact : Data → List Step → Type 0
IsFirstInexact value place =
    IsInexactAt value place × ((other : List Step) → IsInexactAt value other → place_cmp place other ≢ Greater)

-- ---- the outcome

-- The text's tree, no JSON, or the first number that a tree can't hold. A text has exactly one of these, and
-- want of memory may be told of any.
abbrev pub IsReading : List ℕ → Result Tree TreeError → Type 0
IsReading bytes (Ok tree) = IsJson bytes (data_of tree) × IsValid tree
IsReading bytes (Err NotJson) = (value : Data) → ¬ IsJson bytes value
IsReading bytes (Err (NumberNotWhole place)) = (value : Data) × IsJson bytes value × IsFirstInexact value place.steps
IsReading bytes (Err Memory) = ⊤

-- how deep the brackets of the tree's text nest
abbrev pub nesting : Tree → ℕ
nesting tree = depth (data_of tree)
