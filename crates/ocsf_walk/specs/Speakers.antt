-- The files that speak as the code lends them.
use Rattle.std.specs.Prelude.{◌≡◌, ℕ, List, ◌++◌, map, All}
use Rattle.ocsf_tree.specs.declared.key.Key.{Key}
use Rattle.ocsf_raw.specs.declared.files.ItemFile.{ItemFile}
use Rattle.ocsf_raw.specs.Ordered.{AreEntriesOrdered}
use Rattle.ocsf_bundle.specs.Looks.{PatchOf}
use Rattle.ocsf_bundle.specs.declared.cells.Cell.{Cell}
use Rattle.ocsf_bundle.specs.declared.cells.Cell.TheVariants as cell
use Rattle.ocsf_walk.specs.declared.speakers.Patch.{Patch}
use Rattle.ocsf_walk.specs.declared.speakers.Speaker.{Speaker as Lent}
use Rattle.ocsf_rules.specs.Chain.{Speaker}

abbrev pub patch_of : Patch → PatchOf
patch_of p = record { ext = p.ext.now; file = p.file.now }

abbrev pub patches_cell : Key → Cell
patches_cell k = cell.Patches k

-- a file that speaks for a key, and its extension
abbrev pub speaks_for : Key → List ℕ → ItemFile → Speaker
speaks_for k ext file = record { by = k; ext = ext; file = file }

abbrev pub speaker_of : Lent → Speaker
speaker_of s = record { by = s.by; ext = s.ext; file = s.file.now }

-- the entries of each file stand by name
abbrev pub AreSpeakersOrdered : List Lent → Type 0
AreSpeakersOrdered ss = All (λ s. AreEntriesOrdered s.file.now.attributes) ss

-- the new list has those files more, last
pub record Speaks (old new : List Lent) (more : List Speaker) : Type 0 where
  pub speakers : map speaker_of new ≡ map speaker_of old ++ more
  pub ordered : AreSpeakersOrdered old → AreSpeakersOrdered new
