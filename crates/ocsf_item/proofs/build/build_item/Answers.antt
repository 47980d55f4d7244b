use Rattle.std.proofs.Common.{ap}
use Rattle.ocsf_item.proofs.AttrsByName.{attrs_by_name, members_by_keys}
use Rattle.ocsf_item.proofs.build.build_item.Goals as goal

pub with_fragment-requires-clause-attributes : goal.with_fragment-requires-clause-attributes
with_fragment-requires-clause-attributes g c = attrs_by_name (g.B.Shows.looks c.args.bundle.now) c.args.key.now _ (ap (λ i. i.attrs) c.in-Ok.ensures.item)

pub with_fragment-requires-clause-members : goal.with_fragment-requires-clause-members
with_fragment-requires-clause-members g c = members_by_keys (g.B.Shows.looks c.args.bundle.now) c.args.key.now _ (ap (λ i. i.attrs) c.in-Ok.ensures.item)
