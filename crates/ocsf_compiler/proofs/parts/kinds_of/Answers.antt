use Rattle.std.proofs.Common.{◌≡◌, ℕ, List, ◌++◌, IfOk, sym, ap, subst, ◌∙◌, rules}
use Rattle.std.specs.Prelude.{filter_map}
use Rattle.std.specs.Result.{result_ok}
use Rattle.ocsf_lists.specs.ByName.{IsByName}
use Rattle.ocsf_raw.specs.declared.dictionary.TypeEntry.{TypeEntry}
use Rattle.ocsf_schema.specs.declared.records.Kind.{Kind}
use Rattle.ocsf_kind.specs.Kinds.{kind_of}
use Rattle.ocsf_bundle.specs.Listing.{in_byte_order}
use Rattle.ocsf_rules.specs.MergedDictionary.{base_types}
use Rattle.ocsf_rules.specs.Compilation.{compilation}
use Rattle.ocsf_rules.specs.PrintedSchema.{schema_parts}
use Rattle.ocsf_rules.specs.Verdict.{types_of}
use Rattle.ocsf_compiler.proofs.Listed.{types_by_name, in_order, kinds_by_name, carried}
use Rattle.ocsf_compiler.proofs.parts.kinds_of.Goals as goal

pub data_types-requires : goal.data_types-requires
data_types-requires c =
    let P : List (List ℕ) → Type 0 = λ l. IsByName (λ n. n) l in
    subst P (sym c.in_ok-listed.ensures) (types_by_name c.args.bundle.now)

pub returns-clause-kinds : goal.returns-clause-kinds
unfolding compilation schema_parts
returns-clause-kinds c =
    let names : c.as_slice.result.now ≡ in_byte_order (base_types ++ c.in_ok-listed.listed) = search rules in
    let P : List TypeEntry → List (List ℕ) → Type 0 = λ ts l. IfOk c.kinds.result (λ made. made ≡ filter_map (λ name. result_ok (kind_of ts name)) l) in
    subst (P (types_of c.args.bundle.now)) (names ∙ ap (λ l. in_byte_order (base_types ++ l)) c.in_ok-listed.ensures)
    (subst (λ (ts : List TypeEntry). P ts c.as_slice.result.now) c.requires.types c.kinds.ensures)

pub returns-clause-by_name : goal.returns-clause-by_name
returns-clause-by_name c =
    let names : c.as_slice.result.now ≡ in_byte_order (base_types ++ c.in_ok-listed.listed) = search rules in
    let P : List (List ℕ) → Type 0 = λ l. IsByName (λ n. n) l in
    let Q : List Kind → Type 0 = λ l. IsByName (λ k. k.name) l in
    carried Q c.kinds.result (filter_map (λ name. result_ok (kind_of c.args.types.now name)) c.as_slice.result.now) c.kinds.ensures
    (kinds_by_name c.args.types.now c.as_slice.result.now (subst P (sym names) (in_order (base_types ++ c.in_ok-listed.listed))))
