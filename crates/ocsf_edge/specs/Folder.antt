-- The files of a folder, and the paths below a base.
use Rattle.std.specs.Prelude.{◌≢◌, ℕ, List, [], length, drop, nat_eq, if◌then◌else◌, ◌&&◌, Option, Some, None}
use Rattle.std.specs.Prelude.{filter_map, IsSorted, IsPermutation, AllPairs, Bool, false, bytes_eq, codes}
use Rattle.std.specs.Option.{option_map_or}
use Rattle.std.specs.Cmp.Lexicographic.{slice_cmp}
use Rattle.std.specs.List.{find, starts_with}
use Rattle.std.specs.Ordering.{nat_cmp}
use Rattle.ocsf_edge.specs.declared.records.KeptFile.{KeptFile}

-- no path stands twice
abbrev pub HasNoRepeatedPath : List KeptFile → Type 0
HasNoRepeatedPath files = AllPairs (λ a b. a.path ≢ b.path) files

-- the path without the base and a slash, if it begins so
abbrev pub path_below : List ℕ → List ℕ → Option (List ℕ)
path_below base path =
    if starts_with nat_eq path base && starts_with nat_eq (drop (length base) path) (codes "/")
    then Some (drop 1 (drop (length base) path)) else None

-- the paths below the base, in the order of the files
abbrev pub paths_below : List ℕ → List KeptFile → List (List ℕ)
paths_below base files = filter_map (λ file. path_below base file.path) files

-- just the paths below the base, in byte order
pub record IsListing (base : List ℕ) (files : List KeptFile) (paths : List (List ℕ)) : Type 0 where
  pub all : IsPermutation (paths_below base files) paths
  pub sorted : IsSorted (slice_cmp nat_cmp) paths

-- whether the file stands at the path below the base
abbrev pub is_at : List ℕ → List ℕ → KeptFile → Bool
is_at base path file = option_map_or (λ below. bytes_eq below path) (path_below base file.path) false

-- the file at the path below the base
abbrev pub file_at : List ℕ → List ℕ → List KeptFile → Option KeptFile
file_at base path files = find (is_at base path) files

-- its body, or no bytes
abbrev pub body_at : List ℕ → List ℕ → List KeptFile → List ℕ
body_at base path files = option_map_or (λ file. file.body) (file_at base path files) []
