use Rattle.std.proofs.Common.{◌∙◌, rules}
use Rattle.std.proofs.lemmas.List.{take_rest}
use Rattle.ocsf_edge.proofs.Known.{Appends-take}
use Rattle.ocsf_edge.proofs.write.write_all.Goals as goal

pub loop-at-preserved : goal.loop-at-preserved
loop-at-preserved g c =
    let before = c.loop-at.invariant in
    let wrote = c.in_ok-at.ensures in
    record {
      within = search rules;
      front = Appends-take _ _ _ c.args.bytes.now c.loop-at.at c.in_ok-at.field-0 before.front (rw take_rest at wrote.bytes);
      count = wrote.cause.kept ∙ before.count;
      rest = wrote.rest ∙ before.rest;
    }
