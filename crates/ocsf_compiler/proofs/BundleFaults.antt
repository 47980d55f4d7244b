-- The least fault of a bundle, group by group.
use Rattle.std.proofs.Common.{◌≡◌, List, length, Option, Some, None, Result, Ok, Err, sym, ◌∙◌, ap, subst}
use Rattle.std.specs.Prelude.{IfErr, IsErrAnd}
use Rattle.std.specs.Option.{option_or}
use Rattle.std.specs.List.{filter_map}
use Rattle.ocsf_tree.specs.declared.fault.Fault.{Fault}
use Rattle.ocsf_tree.specs.LeastFault.{least_fault}
use Rattle.ocsf_schema.specs.declared.records.Item.{Item}
use Rattle.ocsf_schema.specs.declared.parts.SchemaParts.{SchemaParts}
use Rattle.ocsf_schema.specs.Schema.{schema_text}
use Rattle.ocsf_schema.specs.Lookups.{IsByKey}
use Rattle.ocsf_bundle.specs.Stored.{Stored}
use Rattle.ocsf_bundle.specs.Active.{active_files}
use Rattle.ocsf_bundle.specs.Looks.{Looks}
use Rattle.ocsf_bundle.specs.FilesLook.{looks}
use Rattle.ocsf_bundle.specs.Listing.{Listing, listing}
use Rattle.ocsf_bundle.specs.BundleFaults.{own_fault}
use Rattle.ocsf_bundle.proofs.KeysInOrder.{ordered}
use Rattle.ocsf_rules.specs.Compilation.{compilation}
use Rattle.ocsf_rules.specs.ItemFaults.{item_fault}
use Rattle.ocsf_rules.specs.PrintedSchema.{schema_parts, items, printed_schema}
use Rattle.ocsf_rules.specs.SchemaFaults.{schema_faults}
use Rattle.ocsf_rules.specs.Verdict.{least_of_groups, fault_groups, bundle_fault}
use Rattle.ocsf_rule_laws.proofs.LeastOfItems.{least_is_of_items}
use Rattle.ocsf_compiler.specs.declared.compile_error.CompileError.{CompileError}
use Rattle.ocsf_compiler.specs.declared.compile_error.CompileError.TheVariants as error
use Rattle.ocsf_compiler.specs.Building.{IsLeast, clash_in, large_fault, fault_in}
use Rattle.ocsf_compiler.proofs.SoundItems.{items_by_key}
use Rattle.ocsf_compiler.proofs.Clashes.{schema_least}

module _ (bundle : Stored) where
  abbrev b : Looks
  b = looks bundle.files bundle.enabled

  abbrev l : Listing
  l = listing bundle

  abbrev HasOwn : Option Fault → Type 0
  HasOwn o = own_fault bundle.files bundle.enabled ≡ o

  abbrev pub items_least : Option Fault
  items_least = least_fault (filter_map (item_fault b) l.items)

  of_files : (f : Fault) → HasOwn (Some f) → bundle_fault bundle ≡ Some f
  unfolding bundle_fault
  of_files f is = ap (λ o. option_or o (least_of_groups (fault_groups b l))) is

  pub least_of_files : (e : CompileError) → IsLeast (own_fault bundle.files bundle.enabled) e → IsLeast (bundle_fault bundle) e
  least_of_files (error.Fault f) is = of_files f is
  least_of_files error.Memory is = tt

  of_rest : HasOwn None → bundle_fault bundle ≡ option_or items_least (least_fault (schema_faults b l))
  unfolding bundle_fault
  of_rest none = ap (λ o. option_or o (least_of_groups (fault_groups b l))) none ∙ least_is_of_items b l

  of_items : (f : Fault) → HasOwn None → items_least ≡ Some f → bundle_fault bundle ≡ Some f
  of_items f none is = of_rest none ∙ ap (λ o. option_or o (least_fault (schema_faults b l))) is

  pub of_schema : HasOwn None → items_least ≡ None → bundle_fault bundle ≡ least_fault (schema_faults b l)
  of_schema none sound = of_rest none ∙ ap (λ o. option_or o (least_fault (schema_faults b l))) sound

  pub least_of_items : HasOwn None → (e : CompileError) → IsLeast items_least e → IsLeast (bundle_fault bundle) e
  least_of_items none (error.Fault f) is = of_items f none is
  least_of_items none error.Memory is = tt

  pub by_key : IsByKey (items b l)
  by_key = items_by_key b l.items (ordered (active_files bundle.files bundle.enabled))

  -- with its items the compilation is whole
  pub whole : (pieces : List Item) → pieces ≡ items b l → record (compilation bundle) { pieces = pieces } ≡ compilation bundle
  unfolding compilation schema_parts
  whole pieces e = ap (λ ps. record (schema_parts b l) { pieces = ps }) e

  -- what the code asks of the schema is what is wrong with it
  pub of_compilation : (schema : SchemaParts) (pieces : List Item) → schema ≡ compilation bundle → pieces ≡ items b l
      → fault_in schema pieces ≡ least_fault (schema_faults b l)
  unfolding compilation schema_parts schema_faults
  of_compilation schema pieces is same =
      (λ i. option_or (least_fault (filter_map (clash_in (is i).pieces) (same i))) (large_fault (length (schema_text (is i)))))
      ∙ schema_least b l.items (printed_schema b l) (ordered (active_files bundle.files bundle.enabled))

pub carried : {A E : Type 0} (P Q : E → Type 0) → ((e : E) → P e → Q e) → (r : Result A E) → IfErr r P → IfErr r Q
carried P Q f (Ok x) h = tt
carried P Q f (Err e) h = f e h

-- an error that is passed on keeps what is known of it
pub passed_on : {A E : Type 0} (P : E → Type 0) (r : Result A E) (e : E) → IsErrAnd r (λ made. made ≡ e) → P e → IfErr r P
passed_on P (Ok x) e same h = absurd same
passed_on P (Err made) e same h = subst P (sym same) h

same_least : (least other : Option Fault) → other ≡ least → (e : CompileError) → IsLeast least e → IsLeast other e
same_least least other same (error.Fault f) is = same ∙ is
same_least least other same error.Memory is = tt

-- where the least fault is another's, so is that of a refusal
pub least_of : {A : Type 0} (least other : Option Fault) → other ≡ least → (r : Result A CompileError) → IfErr r (IsLeast least) → IfErr r (IsLeast other)
least_of least other same r h = carried (IsLeast least) (IsLeast other) (same_least least other same) r h
