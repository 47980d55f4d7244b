use Rattle.std.proofs.Common.{◌≡◌, ℕ, List, take}
use Rattle.std.specs.List.{filter_map}
use Rattle.ocsf_lists.specs.ByName.{IsByName}
use Rattle.ocsf_bundle.specs.Listing.{in_byte_order}
use Rattle.ocsf_tool.specs.Folders.{extension_name}
use Rattle.ocsf_tool.proofs.folder.extensions_of.Given as goal

abbrev pub invariant-loop-file : goal.invariant-loop-file
invariant-loop-file l = record {
  names : l.names ≡ in_byte_order (filter_map extension_name (take l.file-index l.files));
  by_name : IsByName (λ (name : List ℕ). name) l.names;
}
