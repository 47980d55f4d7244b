-- What a bundle keeps to: its files stand by path, its extensions by name, what the files say is in order, and its
-- index is that of
-- the files that count.
use Rattle.std.specs.Prelude.{◌≡◌, ℕ, List}
use Rattle.ocsf_lists.specs.ByName.{IsByName}
use Rattle.ocsf_bundle.specs.declared.bundle.Bundle.TheInside.{Inside}
use Rattle.ocsf_bundle.specs.Stored.{Stored, stored_path, AreFilesSound}
use Rattle.ocsf_bundle.specs.Active.{active_files}
use Rattle.ocsf_bundle.specs.Index.{index_of}

abbrev pub stored : Inside → Stored
stored bundle = record { files = bundle.files; enabled = bundle.enabled }

pub record IsIndexed (bundle : Inside) : Type 0 where
  pub by_path : IsByName stored_path bundle.files
  pub by_name : IsByName (λ (name : List ℕ). name) bundle.enabled
  pub ordered : AreFilesSound bundle.files
  pub indexed : bundle.index ≡ index_of (active_files bundle.files bundle.enabled)
