use Rattle.std.proofs.Common.{rules}
use Rattle.std.proofs.lemmas.Fn.{always_returns_same}
use Rattle.ocsf_lists.specs.ByName.{text_cmp}
use Rattle.ocsf_tree.specs.Key.{key_text}
use Rattle.ocsf_lists.proofs.NameLists.{searched}
use Rattle.ocsf_schema.proofs.lookup.search_by_key.Goals as goal

pub returns-clause-found : goal.returns-clause-found
returns-clause-found c =
    (searched (λ item. key_text item.key) (key_text c.args.key.now) c.args.pieces.now c.binary_search_by.result c.requires
    (c.binary_search_by.ensures.position (λ item. text_cmp (key_text item.key) (key_text c.args.key.now)) (always_returns_same _ _ _ (λ a r f' called. search rules)))).0

pub returns-clause-absent : goal.returns-clause-absent
returns-clause-absent c =
    (searched (λ item. key_text item.key) (key_text c.args.key.now) c.args.pieces.now c.binary_search_by.result c.requires
    (c.binary_search_by.ensures.position (λ item. text_cmp (key_text item.key) (key_text c.args.key.now)) (always_returns_same _ _ _ (λ a r f' called. search rules)))).1
