use Rattle.std.proofs.Common.{◌≡◌, ℕ, List, take}
use Rattle.std.specs.List.{filter_map}
use Rattle.ocsf_lists.specs.ByName.{IsByName}
use Rattle.ocsf_bundle.specs.Listing.{in_byte_order}
use Rattle.ocsf_tool.specs.FolderParts.{if_formed}
use Rattle.ocsf_tool.proofs.folder.formed_paths.Given as goal

abbrev pub invariant-loop-path : goal.invariant-loop-path
invariant-loop-path l = record {
  paths : l.paths ≡ in_byte_order (filter_map if_formed (take l.path-index l.listed));
  by_name : IsByName (λ (path : List ℕ). path) l.paths;
}
