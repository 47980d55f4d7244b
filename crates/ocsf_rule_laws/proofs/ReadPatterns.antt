-- A clean bundle is compiled to a schema whose patterns `regex` reads: each is one of a listed type.
use Rattle.std.proofs.Common.{ℕ, List, Bool, true, false, Option, Some, None, Err, is_some, if◌then◌else◌}
use Rattle.std.specs.Prelude.{⊤, All, IfSome, filter_map}
use Rattle.std.specs.Option.{option_map}
use Rattle.std.specs.Result.{result_ok}
use Rattle.ocsf_tree.specs.declared.fault.Fault.{Fault}
use Rattle.ocsf_raw.specs.declared.dictionary.TypeEntry.{TypeEntry}
use Rattle.ocsf_schema.specs.Bases.{base_of}
use Rattle.ocsf_schema.specs.declared.records.Base.{Base}
use Rattle.ocsf_schema.specs.declared.records.Kind.{Kind}
use Rattle.ocsf_schema.specs.declared.records.Limit.{Limit}
use Rattle.ocsf_kind.specs.declared.kinds.KindError.TheVariants as error
use Rattle.ocsf_kind.specs.Kinds.{listed, way, last_name, limit_of, limits_of, kind_at, kind_of}
use Rattle.ocsf_bundle.specs.Listing.{listing}
use Rattle.ocsf_bundle.proofs.Ordered.{at_name-holds, filter_map-all}
use Rattle.ocsf_rules.specs.Compilation.{compilation}
use Rattle.ocsf_rules.specs.MergedDictionary.{data_types}
use Rattle.ocsf_pattern.specs.Readings.{IsRead}
use Rattle.ocsf_rules.specs.PrintedSchema.{schema_parts}
use Rattle.ocsf_rules.specs.Verdict.{bundle_fault, types_of, HasReadPattern, IsVerdictAfter}
use Rattle.ocsf_rule_laws.specs.PatternLaws.{ReadsEveryPattern}
use Rattle.ocsf_rule_laws.proofs.Closed.{all_of}

-- ---- the patterns of a kind are those of listed types

abbrev IsReadLimit : Limit → Type 0
IsReadLimit limit = IfSome limit.pattern IsRead

abbrev IsReadKind : Kind → Type 0
IsReadKind kind = All IsReadLimit kind.limits

-- what is given by each of some names has it
each_given : {X : Type 0} (P : X → Type 0) (f : List ℕ → Option X) → ((name : List ℕ) → IfSome (f name) P)
    → (names : List (List ℕ)) → All P (filter_map f names)
each_given P f each names =
    filter_map-all (λ name. ⊤) P f (λ name h. each name) names (all_of (λ name. ⊤) (λ name. tt) names)

module _ (types : List TypeEntry) (clean : All HasReadPattern types) where
  of_entry : (entry : Option TypeEntry) → IfSome entry HasReadPattern → IfSome (option_map limit_of entry) IsReadLimit
  of_entry None h = tt
  of_entry (Some entry) h = h

  limits_read : (names : List (List ℕ)) → All IsReadLimit (limits_of types names)
  limits_read names =
      each_given IsReadLimit (λ name. option_map limit_of (listed types name))
      (λ name. of_entry (listed types name) (at_name-holds HasReadPattern (λ entry. entry.name) name types clean)) names

  kind_read : (name last : List ℕ) (limits : List Limit) (base : Option Base) → All IsReadLimit limits
      → IfSome (result_ok (kind_at types name last limits base)) IsReadKind
  kind_read name last limits (Some base) all = all
  kind_read name last limits None all =
      elim (is_some (listed types last)) as (λ (there : Bool).
      IfSome (result_ok (if there then Err error.Cycle else Err (error.Unknown last))) IsReadKind) [
        | true ↦ tt
        | false ↦ tt
      ]

  kinds_read : (names : List (List ℕ)) → All IsReadKind (filter_map (λ name. result_ok (kind_of types name)) names)
  kinds_read names =
      each_given IsReadKind (λ name. result_ok (kind_of types name)) (λ name.
      let names = way 32 types name in
      kind_read name (last_name names) (limits_of types names) (base_of (last_name names)) (limits_read names)) names

-- ---- those of a clean bundle are read

types_read : (least : Option Fault) (types : List TypeEntry) → IsVerdictAfter least types None
    → All HasReadPattern types
types_read None types clean = clean
types_read (Some least) types clean = cc

pub reads_every_pattern : ReadsEveryPattern
unfolding compilation schema_parts
reads_every_pattern bundle clean =
    let types = types_of bundle in
    kinds_read types (types_read (bundle_fault bundle) types clean) (data_types (listing bundle))
