use Rattle.std.proofs.Common.{◌≡◌, ◌≤◌, length, map, None, Some, sym, ap, subst, ◌∙◌, arith, rules}
use Rattle.std.specs.Prelude.{slice_get}
use Rattle.std.specs.Option.{option_and_then, option_copied}
use Rattle.std.proofs.lemmas.List.{take_all, length-map}
use Rattle.ocsf_raw.specs.Ordered.{IsTypeValid}
use Rattle.ocsf_bundle.specs.declared.cells.Cell.TheVariants as cell
use Rattle.ocsf_bundle.specs.Shown.{Kind}
use Rattle.ocsf_bundle.specs.Looks.{look}
use Rattle.ocsf_rules.specs.MergedDictionary.{merged_layers}
use Rattle.ocsf_compiler.specs.Layers.{as_type, type_over}
use Rattle.ocsf_compiler.proofs.Layered.{type-more, types_taken, over_valid}
use Rattle.ocsf_compiler.proofs.types.merged_type.Goals as goal

pub returns-in_default-clause-entry : goal.returns-in_default-clause-entry
returns-in_default-clause-entry g c =
    let b = g.B.Shows.looks c.args.bundle.now in
    let ls = b.kinds c.args.name.now in
    let k = c.loop-k.k in
    let nowhere : option_copied c.type_at.result ≡ None = search rules in
    let none : option_and_then as_type (slice_get (map Kind ls) k) ≡ None =
    sym (c.type_at.ensures.entry ∙ ap (λ x. option_and_then as_type (slice_get (look b x) k)) c.loop-k.invariant.cell) ∙ nowhere in
    c.loop-k.invariant.entry ∙ ap (merged_layers c.args.name.now) (types_taken ls k none)

pub loop-k-preserved : goal.loop-k-preserved
loop-k-preserved g c =
    let b = g.B.Shows.looks c.args.bundle.now in
    let ls = b.kinds c.args.name.now in
    let k = c.loop-k.k in
    let there : option_copied c.type_at.result ≡ Some c.in-Some.layer.now = search rules in
    let some : option_and_then as_type (slice_get (map Kind ls) k) ≡ Some c.in-Some.layer.now =
    sym (c.type_at.ensures.entry ∙ ap (λ x. option_and_then as_type (slice_get (look b x) k)) c.loop-k.invariant.cell) ∙ there in
    let over : c.in_ok-entry-2.entry ≡ type_over c.in-Some.layer.now c.loop-k.entry = search rules in
    let valid : IsTypeValid c.in-Some.layer.now = c.in-Some.ensures.valid in
    record {
      cell = c.loop-k.invariant.cell;
      entry =
          over
          ∙ ap (type_over c.in-Some.layer.now) c.loop-k.invariant.entry
          ∙ sym (type-more c.args.name.now ls k c.in-Some.layer.now some);
      valid = subst IsTypeValid (sym over) (over_valid c.in-Some.layer.now c.loop-k.entry valid c.loop-k.invariant.valid);
    }

pub returns-clause-entry : goal.returns-clause-entry
returns-clause-entry g c =
    let b = g.B.Shows.looks c.args.bundle.now in
    let ls = b.kinds c.args.name.now in
    let bound = c.most-k-end.ensures (cell.Kind c.args.name.now) in
    let many : length (map Kind ls) ≡ length ls = length-map ls Kind in
    let all : length ls ≤ c.loop-k.k = omega arith in
    c.loop-k.invariant.entry ∙ ap (merged_layers c.args.name.now) (take_all c.loop-k.k ls all)
