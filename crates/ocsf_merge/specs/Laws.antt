-- What holds of the table of every list of layers.
use Rattle.std.specs.Prelude.{◌≡◌, ℕ, List}
use Rattle.ocsf_lists.specs.ByName.{IsByName, at_name}
use Rattle.ocsf_merge.specs.Layers.{Layer}
use Rattle.ocsf_merge.specs.Table.{spoken, table_of}

-- its rows stand strictly in byte order of the attributes
abbrev pub AreRowsByName : Type 0
AreRowsByName = (layers : List Layer) → IsByName (λ row. row.attr.name) (table_of layers)

-- it has a row of just the attributes that are present
abbrev pub HasRowOfEachPresent : Type 0
HasRowOfEachPresent =
    (layers : List Layer) (attribute : List ℕ)
    → at_name (λ row. row.attr.name) attribute (table_of layers) ≡ spoken attribute layers
