use Rattle.std.proofs.Common.{codes}
use Rattle.ocsf_tree.specs.Key.{side_text}
use Rattle.ocsf_tree.specs.declared.key.Side.TheVariants as side
use Rattle.ocsf_bundle.specs.OwnFaults.{clashes_in}
use Rattle.ocsf_bundle.proofs.Noted.{noted_in_turn}
use Rattle.ocsf_bundle.proofs.key_faults.key_clash.Goals as goal

pub returns : goal.returns
returns c =
    let index = c.args.index.now in
    let all = noted_in_turn (clashes_in (side_text side.Class) index.items.classes) (clashes_in (side_text side.Object) index.items.objects)
    (clashes_in (codes "profile") index.profiles) (clashes_in (codes "extension") index.extensions) in
    cc (all, c.in_ok-least.ensures, c.in_ok-least-2.ensures, c.in_ok-least-3.ensures, c.in_ok-least-4.ensures)
