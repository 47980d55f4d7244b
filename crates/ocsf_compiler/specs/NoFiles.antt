-- The bundle without files.
use Rattle.std.specs.Prelude.{[]}
use Rattle.ocsf_bundle.specs.Stored.{Stored}

-- no extension is enabled in it
abbrev pub no_files : Stored
no_files = record { files = []; enabled = [] }
