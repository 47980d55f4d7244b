use Rattle.std.proofs.Common.{◌≡◌, map, take, refl, sym, ap, subst, ◌∙◌, List, arith}
use Rattle.std.proofs.lemmas.List.{take_all}
use Rattle.ocsf_lists.specs.ByName.{IsByName}
use Rattle.ocsf_tree.specs.declared.tree.Member.{Member}
use Rattle.ocsf_raw.specs.declared.dictionary.TypeEntry.{TypeEntry}
use Rattle.ocsf_rules.specs.PrintedSchema.{member, type_tree}
use Rattle.ocsf_compiler.proofs.ByNames.{IsByName-map, members_valid}
use Rattle.ocsf_compiler.proofs.tables.types_tree.Goals as goal

abbrev printed : TypeEntry → Member
printed entry = member entry.name (type_tree entry)

pub returns-clause-valid : goal.returns-clause-valid
returns-clause-valid c =
    let entries = c.args.entries.now in
    let all : take c.loop-entry.entry-index entries ≡ entries = take_all c.loop-entry.entry-index entries (omega arith) in
    let made : c.loop-entry.members ≡ map printed entries = c.loop-entry.invariant.made ∙ ap (map printed) all in
    let P : List Member → Type 0 = λ l. IsByName (λ m. m.name) l in
    members_valid c.loop-entry.members (subst P (sym made) (IsByName-map printed (λ e. e.name) (λ m. m.name) (λ e. refl) entries c.requires.by_name)) c.loop-entry.invariant.valid
