use Rattle.std.proofs.Common.{◌≡◌, ◌≤◌, length, take, map, None, Some, sym, ap, subst, ◌∙◌, arith, rules}
use Rattle.std.specs.Prelude.{slice_get}
use Rattle.std.specs.Option.{option_and_then, option_copied}
use Rattle.std.proofs.lemmas.List.{take_all, length-map}
use Rattle.ocsf_raw.specs.declared.dictionary.DictEntry.{DictEntry}
use Rattle.ocsf_raw.specs.Ordered.{IsByKey}
use Rattle.ocsf_bundle.specs.declared.cells.Cell.TheVariants.{Dict}
use Rattle.ocsf_bundle.specs.Looks.{look, show_entry}
use Rattle.ocsf_rules.specs.Attribute.{dict_said}
use Rattle.ocsf_rules.specs.MergedDictionary.{entry_said}
use Rattle.ocsf_compiler.specs.Layers.{as_entry, entry_over}
use Rattle.ocsf_compiler.proofs.Layered.{entry-more, entries_taken, said_by_key}
use Rattle.ocsf_compiler.proofs.attributes.merged_entry.Goals as goal

pub returns-in_default : goal.returns-in_default
returns-in_default g c =
    let b = g.B.Shows.looks c.args.bundle.now in
    let ds = b.dict c.args.name.now in
    let k = c.loop-k.k in
    let nowhere : option_copied c.entry_at.result ≡ None = search rules in
    let none : option_and_then as_entry (slice_get (map show_entry ds) k) ≡ None =
    sym (c.entry_at.ensures.entry ∙ ap (λ cell. option_and_then as_entry (slice_get (look b cell) k)) c.loop-k.invariant.cell) ∙ nowhere in
    c.loop-k.invariant.entry ∙ ap (λ l. entry_said c.args.name.now (dict_said l)) (entries_taken ds k none)

pub entry_over-requires-clause-old : goal.entry_over-requires-clause-old
entry_over-requires-clause-old g c =
    let P : DictEntry → Type 0 = λ entry. IsByKey entry.members in
    subst P (sym c.loop-k.invariant.entry) (said_by_key c.args.name.now (take c.loop-k.k ((g.B.Shows.looks c.args.bundle.now).dict c.args.name.now)))

pub loop-k-preserved : goal.loop-k-preserved
loop-k-preserved g c =
    let b = g.B.Shows.looks c.args.bundle.now in
    let ds = b.dict c.args.name.now in
    let k = c.loop-k.k in
    let there : option_copied c.entry_at.result ≡ Some c.in-Some.layer.now = search rules in
    let some : option_and_then as_entry (slice_get (map show_entry ds) k) ≡ Some c.in-Some.layer.now =
    sym (c.entry_at.ensures.entry ∙ ap (λ cell. option_and_then as_entry (slice_get (look b cell) k)) c.loop-k.invariant.cell) ∙ there in
    let over : c.in_ok-entry-2.entry ≡ entry_over c.in-Some.layer.now c.loop-k.entry = search rules in
    record {
      cell = c.loop-k.invariant.cell;
      entry =
          over
          ∙ ap (entry_over c.in-Some.layer.now) c.loop-k.invariant.entry
          ∙ sym (entry-more c.args.name.now ds k c.in-Some.layer.now some);
    }

pub returns : goal.returns
returns g c =
    let b = g.B.Shows.looks c.args.bundle.now in
    let ds = b.dict c.args.name.now in
    let bound = c.most-k-end.ensures (Dict c.args.name.now) in
    let many : length (map show_entry ds) ≡ length ds = length-map ds show_entry in
    let all : length ds ≤ c.loop-k.k = omega arith in
    c.loop-k.invariant.entry ∙ ap (λ l. entry_said c.args.name.now (dict_said l)) (take_all c.loop-k.k ds all)
