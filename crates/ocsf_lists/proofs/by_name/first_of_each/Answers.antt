use Rattle.std.proofs.Common.{List, drop, sym, subst}
use Rattle.ocsf_lists.specs.ByName.{IsByName}
use Rattle.ocsf_lists.proofs.FirstOfEach.{IsByName-first_of_each}
use Rattle.ocsf_lists.proofs.by_name.first_of_each.Goals as goal

pub put-requires : goal.put-requires
put-requires g c =
    subst (λ (xs : List g.row.T.Denot). IsByName g.T.Named.name_of xs) (sym c.loop-left.invariant.made) (IsByName-first_of_each g.T.Named.name_of (drop c.loop-left.left c.args.items.now))
