use Rattle.std.proofs.Common.{◌≡◌, None, IfErr, sym, subst, ap, ◌∙◌, rules}
use Rattle.ocsf_schema.specs.Lookups.{IsByKey}
use Rattle.ocsf_bundle.specs.FilesLook.{looks}
use Rattle.ocsf_bundle.specs.Listing.{listing}
use Rattle.ocsf_bundle.specs.BundleFaults.{own_fault}
use Rattle.ocsf_rules.specs.Compilation.{compilation}
use Rattle.ocsf_rules.specs.PrintedSchema.{items}
use Rattle.ocsf_rules.specs.Verdict.{bundle_fault}
use Rattle.ocsf_compiler.specs.Building.{IsLeast, fault_in}
use Rattle.ocsf_compiler.proofs.BundleFaults.{of_schema, items_least, least_of_files, least_of_items, by_key, whole, of_compilation, carried, passed_on, least_of}
use Rattle.ocsf_compiler.proofs.compiling.schema_of.Goals as goal

pub returns-in_err-sound_files-clause-fault : goal.returns-in_err-sound_files-clause-fault
returns-in_err-sound_files-clause-fault g c =
    let bundle = c.args.bundle.now in
    let own = own_fault bundle.files bundle.enabled in
    let least : IfErr c.from_residual.result (IsLeast own) = search rules in
    carried (IsLeast own) (IsLeast (bundle_fault bundle)) (least_of_files bundle) c.from_residual.result least

pub returns-in_err-pieces-clause-fault : goal.returns-in_err-pieces-clause-fault
returns-in_err-pieces-clause-fault g c =
    let bundle = c.args.bundle.now in
    let none : own_fault bundle.files bundle.enabled ≡ None = search rules in
    let least : IfErr c.from_residual-in_err-pieces.result (IsLeast (items_least bundle)) = search rules in
    carried (IsLeast (items_least bundle)) (IsLeast (bundle_fault bundle)) (least_of_items bundle none) c.from_residual-in_err-pieces.result least

pub of-requires-clause-pieces : goal.of-requires-clause-pieces
of-requires-clause-pieces g c =
    let bundle = c.args.bundle.now in
    let is : c.in_ok-parts.parts.pieces ≡ items (looks bundle.files bundle.enabled) (listing bundle) =
    ap (λ p. p.pieces) c.in_ok-parts.ensures.parts ∙ c.in_ok-pieces.ensures.items in
    subst IsByKey (sym is) (by_key bundle)

pub returns-in_err-sound_schema-clause-fault : goal.returns-in_err-sound_schema-clause-fault
returns-in_err-sound_schema-clause-fault g c =
    let bundle = c.args.bundle.now in
    let none : own_fault bundle.files bundle.enabled ≡ None = search rules in
    let is : c.in_ok-schema.schema ≡ compilation bundle =
    c.in_ok-schema.ensures ∙ c.in_ok-parts.ensures.parts ∙ whole bundle c.in_ok-pieces.pieces c.in_ok-pieces.ensures.items in
    let copied : c.as_slice.result.now ≡ c.in_ok-pieces.pieces = search rules in
    let here = fault_in c.in_ok-schema.schema c.as_slice.result.now in
    let least : IfErr c.from_residual-in_err-sound_schema.result (IsLeast here) =
    passed_on (IsLeast here) c.from_residual-in_err-sound_schema.result _ c.from_residual-in_err-sound_schema.ensures.1 c.in_err-sound_schema.ensures.fault in
    let same : bundle_fault bundle ≡ here =
    of_schema bundle none c.in_ok-pieces.ensures.sound
    ∙ sym (of_compilation bundle c.in_ok-schema.schema c.as_slice.result.now is (copied ∙ c.in_ok-pieces.ensures.items)) in
    least_of here (bundle_fault bundle) same c.from_residual-in_err-sound_schema.result least

pub returns-clause-schema : goal.returns-clause-schema
returns-clause-schema g c =
    c.in_ok-schema.ensures ∙ c.in_ok-parts.ensures.parts ∙ whole c.args.bundle.now c.in_ok-pieces.pieces c.in_ok-pieces.ensures.items

pub returns-clause-faultless : goal.returns-clause-faultless
returns-clause-faultless g c =
    let bundle = c.args.bundle.now in
    let none : own_fault bundle.files bundle.enabled ≡ None = search rules in
    let is : c.in_ok-schema.schema ≡ compilation bundle =
    c.in_ok-schema.ensures ∙ c.in_ok-parts.ensures.parts ∙ whole bundle c.in_ok-pieces.pieces c.in_ok-pieces.ensures.items in
    let copied : c.as_slice.result.now ≡ c.in_ok-pieces.pieces = search rules in
    of_schema bundle none c.in_ok-pieces.ensures.sound
    ∙ sym (of_compilation bundle c.in_ok-schema.schema c.as_slice.result.now is (copied ∙ c.in_ok-pieces.ensures.items))
    ∙ c.in_ok-sound_schema.ensures.sound
