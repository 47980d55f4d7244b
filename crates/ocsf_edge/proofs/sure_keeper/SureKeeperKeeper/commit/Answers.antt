use Rattle.std.proofs.Common.{sym, subst}
use Rattle.ocsf_edge.specs.Tables.{HasNoRepeats}
use Rattle.ocsf_edge.proofs.TableLemmas.{HasNoRepeats-moved}
use Rattle.ocsf_edge.proofs.sure_keeper.SureKeeperKeeper.commit.Goals as goal

pub invariant_of-self : goal.invariant_of-self
invariant_of-self c =
    let copied = subst HasNoRepeats (sym c.in_ok-copy.ensures) c.args.self.now.no_repeats in
    let next = subst HasNoRepeats (sym c.in_ok-next.ensures) (HasNoRepeats-moved c.args.moves.now c.in_ok-copy.copy copied) in
    record { no_repeats = record { paths = next.paths; names = next.names } }
