-- The printed form of keys, and their sides.
use Rattle.std.specs.Prelude.{ℕ, Bool, true, false, List, ◌++◌, codes}
use Rattle.ocsf_tree.specs.declared.key.Side.{Side}
use Rattle.ocsf_tree.specs.declared.key.Side.TheVariants.{Class, Object}
use Rattle.ocsf_tree.specs.declared.key.Key.{Key}

abbrev pub side_text : Side → List ℕ
side_text Class = codes "class"
side_text Object = codes "object"

abbrev pub key_text : Key → List ℕ
key_text key = side_text key.side ++ codes ":" ++ key.name

abbrev pub same_side : Side → Side → Bool
same_side Class Class = true
same_side Object Object = true
same_side Class Object = false
same_side Object Class = false
