-- Stored tables, and what moves do to them.
use Rattle.std.specs.Prelude.{◌≢◌, ℕ, List, [], ◌∷◌, ◌++◌, not, if◌then◌else◌, filter, AllPairs, bytes_eq}
use Rattle.std.specs.List.{list_any}
use Rattle.ocsf_edge.specs.declared.records.KeptFile.{KeptFile}
use Rattle.ocsf_edge.specs.declared.records.Kept.{Kept}
use Rattle.ocsf_edge.specs.declared.records.Move.{Move}
use Rattle.ocsf_edge.specs.declared.records.Move.TheVariants.{Put, Remove, Enable, Disable}

-- no path and no enabled name stands twice
pub record HasNoRepeats (kept : Kept) : Type 0 where
  pub paths : AllPairs (λ a b. a.path ≢ b.path) kept.files
  pub names : AllPairs (λ a b. a ≢ b) kept.enabled

abbrev pub without_path : List ℕ → List KeptFile → List KeptFile
without_path path files = filter (λ file. not (bytes_eq file.path path)) files

abbrev pub without_name : List ℕ → List (List ℕ) → List (List ℕ)
without_name name names = filter (λ other. not (bytes_eq other name)) names

abbrev pub with_name : List ℕ → List (List ℕ) → List (List ℕ)
with_name name names = if list_any (λ other. bytes_eq other name) names then names else names ++ name ∷ []

-- the files after one move
abbrev pub files_after : Move → List KeptFile → List KeptFile
files_after (Put file) files = without_path file.path files ++ file ∷ []
files_after (Remove path) files = without_path path files
files_after (Enable name) files = files
files_after (Disable name) files = files

-- the enabled names after one move
abbrev pub names_after : Move → List (List ℕ) → List (List ℕ)
names_after (Put file) names = names
names_after (Remove path) names = names
names_after (Enable name) names = with_name name names
names_after (Disable name) names = without_name name names

-- the tables after the moves, in order
abbrev pub moved : List Move → Kept → Kept
moved [] kept = kept
moved (move ∷ moves) kept =
    moved moves (record kept { files = files_after move kept.files; enabled = names_after move kept.enabled })

-- the tables after a commit
abbrev pub committed : List Move → ℕ → Kept → Kept
committed moves revision kept = record (moved moves kept) { revision = revision }
