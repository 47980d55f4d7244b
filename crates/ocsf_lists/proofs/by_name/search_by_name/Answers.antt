use Rattle.std.proofs.Common.{rules}
use Rattle.std.proofs.lemmas.Fn.{always_returns_same}
use Rattle.ocsf_lists.specs.ByName.{text_cmp}
use Rattle.ocsf_lists.proofs.NameLists.{searched}
use Rattle.ocsf_lists.proofs.by_name.search_by_name.Goals as goal

pub returns-clause-found : goal.returns-clause-found
returns-clause-found g c =
    (searched g.T.Named.name_of c.args.name.now c.args.items.now c.binary_search_by.result c.requires
    (c.binary_search_by.ensures.position (λ x. text_cmp (g.T.Named.name_of x) c.args.name.now) (always_returns_same _ _ _ (λ a r f' called. search rules)))).0

pub returns-clause-absent : goal.returns-clause-absent
returns-clause-absent g c =
    (searched g.T.Named.name_of c.args.name.now c.args.items.now c.binary_search_by.result c.requires
    (c.binary_search_by.ensures.position (λ x. text_cmp (g.T.Named.name_of x) c.args.name.now) (always_returns_same _ _ _ (λ a r f' called. search rules)))).1
