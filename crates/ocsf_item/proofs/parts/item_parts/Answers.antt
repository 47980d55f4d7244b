use Rattle.std.proofs.Common.{map, refl, sym, ◌∙◌, subst}
use Rattle.ocsf_lists.specs.ByName.{IsByName}
use Rattle.ocsf_merge.proofs.TablesByName.{IsByName-table_of}
use Rattle.ocsf_rules.specs.Names.{ext_of}
use Rattle.ocsf_rules.specs.Chain.{layers}
use Rattle.ocsf_rules.specs.Attribute.{attr_of}
use Rattle.ocsf_rules.specs.Compiled.{computed}
use Rattle.ocsf_item.proofs.Leasts.{own_least}
use Rattle.ocsf_item.proofs.parts.item_parts.Goals as goal

pub joined_of-requires-clause-by_name : goal.joined_of-requires-clause-by_name
joined_of-requires-clause-by_name g c =
    subst (λ rows. IsByName (λ row. row.attr.name) rows) (sym c.requires.rows) (IsByName-table_of (layers (g.B.Shows.looks c.args.site.now.bundle.now) c.args.site.now.key.now))

pub returns-clause-attrs : goal.returns-clause-attrs
returns-clause-attrs g c none =
    let b = g.B.Shows.looks c.args.site.now.bundle.now in
    c.in_ok-joined.ensures.attrs
    ∙ (λ i. map (λ s. attr_of b (ext_of c.args.site.now.key.now.name) (computed (c.in_ok-whole.ensures.numbered none i) s.attr.name) s) (c.requires.rows i))

pub returns-clause-least : goal.returns-clause-least
returns-clause-least g c =
    let b = g.B.Shows.looks c.args.site.now.bundle.now in
    let whole = c.in_ok-whole.ensures in
    own_least b c.args.site.now.key.now c.args.rows.now _ _ _ _ _ c.requires.rows whole.at_least_one whole.just_one whole.least refl c.in_ok-joined.ensures.least
