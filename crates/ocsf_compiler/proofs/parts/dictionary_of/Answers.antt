use Rattle.std.proofs.Common.{◌≡◌, List, IfOk, map, sym, ap, subst, ◌∙◌, rules}
use Rattle.std.specs.Prelude.{All}
use Rattle.ocsf_lists.specs.ByName.{IsByName}
use Rattle.ocsf_tree.specs.declared.tree.Tree.TheVariants as tree
use Rattle.ocsf_raw.specs.declared.dictionary.DictEntry.{DictEntry}
use Rattle.ocsf_raw.specs.Ordered.{IsByKey}
use Rattle.ocsf_bundle.specs.FilesLook.{looks}
use Rattle.ocsf_bundle.specs.Listing.{listing}
use Rattle.ocsf_rules.specs.MergedDictionary.{merged_entry}
use Rattle.ocsf_rules.specs.Compilation.{compilation}
use Rattle.ocsf_rules.specs.PrintedSchema.{schema_parts, member, entry_tree}
use Rattle.ocsf_compiler.proofs.Listed.{attributes_by_name, entries_by_name, entries_by_key}
use Rattle.ocsf_compiler.proofs.parts.dictionary_of.Goals as goal

pub dictionary_tree-requires-clause-by_name : goal.dictionary_tree-requires-clause-by_name
dictionary_tree-requires-clause-by_name c =
    let bundle = c.args.bundle.now in
    let b = looks bundle.files bundle.enabled in
    let names : c.as_slice.result.now ≡ (listing bundle).attributes = search rules in
    let entries : c.as_slice-2.result.now ≡ map (merged_entry b) c.as_slice.result.now = search rules in
    let P : List DictEntry → Type 0 = λ l. IsByName (λ e. e.name) l in
    subst P (sym (entries ∙ ap (map (merged_entry b)) names)) (entries_by_name b (listing bundle).attributes (attributes_by_name bundle))

pub dictionary_tree-requires-clause-by_key : goal.dictionary_tree-requires-clause-by_key
dictionary_tree-requires-clause-by_key c =
    let bundle = c.args.bundle.now in
    let b = looks bundle.files bundle.enabled in
    let entries : c.as_slice-2.result.now ≡ map (merged_entry b) c.as_slice.result.now = search rules in
    let P : List DictEntry → Type 0 = λ l. All (λ e. IsByKey e.members) l in
    subst P (sym entries) (entries_by_key b c.as_slice.result.now)

pub returns-clause-tree : goal.returns-clause-tree
unfolding compilation schema_parts
returns-clause-tree c =
    let bundle = c.args.bundle.now in
    let b = looks bundle.files bundle.enabled in
    let names : c.as_slice.result.now ≡ (listing bundle).attributes = search rules in
    let entries : c.as_slice-2.result.now ≡ map (merged_entry b) c.as_slice.result.now = search rules in
    let P : List DictEntry → Type 0 = λ l. IfOk c.dictionary_tree.result (λ made. made ≡ tree.Members (map (λ entry. member entry.name (entry_tree entry)) l)) in
    subst P (entries ∙ ap (map (merged_entry b)) names) c.dictionary_tree.ensures.tree
