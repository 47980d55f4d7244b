use Rattle.std.proofs.Common.{◌≡◌, None, ◌∙◌, rules}
use Rattle.std.specs.List.{filter_map}
use Rattle.ocsf_tree.specs.LeastFault.{least_fault}
use Rattle.ocsf_bundle.specs.FilesLook.{looks}
use Rattle.ocsf_bundle.specs.Listing.{listing}
use Rattle.ocsf_rules.specs.ItemFaults.{item_fault}
use Rattle.ocsf_compiler.proofs.SoundItems.{sound_items}
use Rattle.ocsf_compiler.proofs.items.items_of.Goals as goal

pub returns-in-None-clause-items : goal.returns-in-None-clause-items
returns-in-None-clause-items g c =
    let bundle = c.args.bundle.now in
    let b = looks bundle.files bundle.enabled in
    let keys = (listing bundle).items in
    let none : least_fault (filter_map (item_fault b) keys) ≡ None = search rules in
    c.in_ok-pieces.ensures.pieces ∙ sound_items b keys none
