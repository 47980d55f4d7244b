-- Maps by names.
use Rattle.std.specs.Prelude.{ℕ, List, map, Option, if◌then◌else◌}
use Rattle.std.specs.BTreeMap.{BTreeMap, get}
use Rattle.std.specs.Str.{bytes_eq}
use Rattle.ocsf_lists.specs.ByName.{text_cmp}

abbrev pub values_in : {X : Type 0} → BTreeMap (List ℕ) X → List X
values_in m = map (λ e. e.1) m.entries

-- the map with that item at the name
abbrev pub with_item : {X : Type 0} → List ℕ → Option X → BTreeMap (List ℕ) X → List ℕ → Option X
with_item name item m q = if bytes_eq name q then item else get text_cmp m q
