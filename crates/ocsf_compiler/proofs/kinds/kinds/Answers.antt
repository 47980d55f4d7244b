use Rattle.std.proofs.Common.{◌≡◌, ℕ, List, [], ◌∷◌, ◌++◌, Option, Some, None, sym, ap, ◌∙◌, rules}
use Rattle.std.specs.Result.{result_ok}
use Rattle.ocsf_kind.specs.Kinds.{kind_of}
use Rattle.ocsf_schema.specs.declared.records.Kind.{Kind}
use Rattle.ocsf_raw.specs.declared.dictionary.TypeEntry.{TypeEntry}
use Rattle.ocsf_raw.proofs.FilterMaps.{filter_map-kept, filter_map-passed}
use Rattle.ocsf_compiler.proofs.kinds.kinds.Goals as goal

abbrev led : List TypeEntry → List ℕ → Option Kind
led types name = result_ok (kind_of types name)

pub loop-name-preserved-in_default : goal.loop-name-preserved-in_default
loop-name-preserved-in_default c =
    let none : led c.args.types.now c.name-item.result ≡ None = search rules in
    c.loop-name.invariant
    ∙ sym (filter_map-passed (led c.args.types.now) c.args.names.now c.loop-name.name-index c.name-item.result c.loop-name-test.true c.name-item.is none)

pub loop-name-preserved : goal.loop-name-preserved
loop-name-preserved c =
    let some : led c.args.types.now c.name-item.result ≡ Some c.in-Some.kind = search rules in
    let pushed : c.push.new.self ≡ c.loop-name.made ++ c.in-Some.kind ∷ [] = search rules in
    pushed
    ∙ ap (λ l. l ++ c.in-Some.kind ∷ []) c.loop-name.invariant
    ∙ sym (filter_map-kept (led c.args.types.now) c.args.names.now c.loop-name.name-index c.name-item.result c.loop-name-test.true c.name-item.is c.in-Some.kind some)
