use Rattle.ocsf_tool.proofs.FolderReads.{by_path}
use Rattle.std.proofs.Common.{◌≡◌, map, rules}
use Rattle.ocsf_bundle.specs.Stored.{stored_path}
use Rattle.ocsf_tool.proofs.folder.bundle_of.Goals as goal

pub of-requires-clause-by_path : goal.of-requires-clause-by_path
of-requires-clause-by_path g c =
    let paths = c.in_ok-paths.paths in
    let same : map stored_path c.in_ok-files.files ≡ paths = search rules in
    by_path c.in_ok-files.files paths same c.in_ok-paths.ensures.by_name
