use Rattle.ocsf_schema.proofs.ValidFragments.{fragment_valid}
use Rattle.ocsf_schema.proofs.piece.printed.Goals as goal

pub print-requires : goal.print-requires
print-requires c =
    let made = c.in_ok-tree.ensures in
    rw made.tree (fragment_valid c.args.item.now c.requires.attributes c.requires.members made.category_fits made.class_fits)
