use Rattle.std.proofs.Common.{◌≡◌, ℕ, List, map, sym, subst, rules}
use Rattle.ocsf_lists.specs.ByName.{IsByName}
use Rattle.ocsf_raw.specs.declared.dictionary.TypeEntry.{TypeEntry}
use Rattle.ocsf_bundle.specs.FilesLook.{looks}
use Rattle.ocsf_bundle.specs.Listing.{listing}
use Rattle.ocsf_rules.specs.MergedDictionary.{merged_type}
use Rattle.ocsf_compiler.proofs.Listed.{types_by_name, merged_types_by_name, carried}
use Rattle.ocsf_compiler.proofs.parts.types_of.Goals as goal

pub returns-clause-by_name : goal.returns-clause-by_name
returns-clause-by_name c =
    let bundle = c.args.bundle.now in
    let b = looks bundle.files bundle.enabled in
    let names : c.as_slice.result.now ≡ (listing bundle).types = search rules in
    let P : List (List ℕ) → Type 0 = λ l. IsByName (λ n. n) l in
    let Q : List TypeEntry → Type 0 = λ l. IsByName (λ t. t.name) l in
    carried Q c.merged_types.result (map (merged_type b) c.as_slice.result.now) c.merged_types.ensures.entries
    (merged_types_by_name b c.as_slice.result.now (subst P (sym names) (types_by_name bundle)))
