use Rattle.std.proofs.Common.{[], unwrap_or, sym, ◌∙◌, ap, subst}
use Rattle.std.specs.Prelude.{codes}
use Rattle.std.specs.Option.{option_map_or}
use Rattle.ocsf_lists.specs.ByName.{IsByName, at_name}
use Rattle.ocsf_merge.proofs.TablesByName.{IsByName-table_of}
use Rattle.ocsf_rules.specs.Names.{ext_of}
use Rattle.ocsf_rules.specs.Chain.{layers}
use Rattle.ocsf_rules.specs.Compiled.{enumeration, ext_uid}
use Rattle.ocsf_item.proofs.class.counts_of.Goals as goal

pub activities-requires : goal.activities-requires
activities-requires g c =
    subst (λ rows. IsByName (λ row. row.attr.name) rows) (sym c.requires.rows) (IsByName-table_of (layers (g.B.Shows.looks c.args.bundle.now) c.args.key.now))

pub returns-clause-ext : goal.returns-clause-ext
returns-clause-ext g c = c.in_ok-ext.ensures.uid ∙ ap (ext_uid (g.B.Shows.looks c.args.bundle.now)) (c.ext_of.ensures ∙ ap ext_of c.as_str.ensures)

pub returns-clause-caption : goal.returns-clause-caption
returns-clause-caption g c = c.in_ok-caption.ensures ∙ ap (λ o. unwrap_or o c.args.key.now.name) c.requires.caption

pub returns-clause-activities : goal.returns-clause-activities
returns-clause-activities g c =
    c.in_ok-activities.ensures
    ∙ ap (λ rows. option_map_or (enumeration (g.B.Shows.looks c.args.bundle.now)) (at_name (λ row. row.attr.name) (codes "activity_id") rows) []) c.requires.rows
