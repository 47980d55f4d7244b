-- What is wrong with a bundle: the least fault, and else a pattern that `regex` doesn't take.
use Rattle.std.specs.Prelude.{◌≡◌, List, [], ◌∷◌, ◌++◌, flat_map, codes, Option, Some, None, All, IfSome, IsSomeAnd}
use Rattle.std.specs.Prelude.{◌⊎◌}
use Rattle.std.specs.Option.{option_or}
use Rattle.ocsf_tree.specs.LeastFault.{least_fault}
use Rattle.ocsf_tree.specs.declared.fault.Fault.{Fault}
use Rattle.ocsf_tree.specs.declared.fault.Code.TheVariants as code
use Rattle.ocsf_raw.specs.declared.dictionary.TypeEntry.{TypeEntry}
use Rattle.ocsf_bundle.specs.Stored.{Stored}
use Rattle.ocsf_bundle.specs.Looks.{Looks}
use Rattle.ocsf_bundle.specs.FilesLook.{looks}
use Rattle.ocsf_bundle.specs.BundleFaults.{own_fault}
use Rattle.ocsf_rules.specs.ItemFaults.{fault, chain_faults, layers_faults, own_faults}
use Rattle.ocsf_bundle.specs.Listing.{Listing, listing}
use Rattle.ocsf_rules.specs.MergedDictionary.{merged_types}
use Rattle.ocsf_rules.specs.SchemaFaults.{schema_faults}
use Rattle.ocsf_pattern.specs.Readings.{IsRead, IsGood, IsBad}

-- ---- the least fault

-- the least of the first of these groups that has any
abbrev pub least_of_groups : List (List Fault) → Option Fault
least_of_groups [] = None
least_of_groups (group ∷ groups) = option_or (least_fault group) (least_of_groups groups)

-- of the chains of all items, of their layers, of the items, and of the schema
abbrev pub fault_groups : Looks → Listing → List (List Fault)
fault_groups b l =
    flat_map (chain_faults b) l.items
    ∷ flat_map (layers_faults b) l.items
    ∷ flat_map (own_faults b) l.items
    ∷ schema_faults b l
    ∷ []

-- the least fault of a bundle: of its files and types, and only where these have none of what is compiled
unfoldable pub bundle_fault : Stored → Option Fault
bundle_fault bundle =
    option_or (own_fault bundle.files bundle.enabled)
    (least_of_groups (fault_groups (looks bundle.files bundle.enabled) (listing bundle)))

-- nothing is wrong with the bundle but, maybe, patterns
abbrev pub IsFaultless : Stored → Type 0
IsFaultless bundle = bundle_fault bundle ≡ None

-- ---- patterns

abbrev pub types_of : Stored → List TypeEntry
types_of bundle = merged_types (looks bundle.files bundle.enabled) (listing bundle)

-- `regex` reads the pattern of the type, where it has one
abbrev pub HasReadPattern : TypeEntry → Type 0
HasReadPattern entry = IfSome entry.pattern IsRead

abbrev pub pattern_refused : TypeEntry → Fault
pattern_refused entry = fault code.PatternRefused (codes "type:" ++ entry.name) []

-- a type whose pattern isn't good is refused, where those of all types before it are read
pub record IsRefusal (types : List TypeEntry) (refused : Fault) : Type 0 where
  pub before : List TypeEntry
  pub entry : TypeEntry
  pub after : List TypeEntry
  pub listed : types ≡ before ++ entry ∷ after
  pub read : All HasReadPattern before
  pub pattern : IsSomeAnd entry.pattern (λ text. IsGood text → ⊥)
  pub named : refused ≡ pattern_refused entry

-- of the patterns of these types: clean where each is read; one that is read and nests too deep may be refused
abbrev pub IsPatternVerdict : List TypeEntry → Option Fault → Type 0
IsPatternVerdict types None = All HasReadPattern types
IsPatternVerdict types (Some refused) = IsRefusal types refused

-- each pattern is good or bad
abbrev pub AreDecided : List TypeEntry → Type 0
AreDecided types = All (λ entry. IfSome entry.pattern (λ text. IsGood text ⊎ IsBad text)) types

-- ---- the verdict

abbrev pub IsVerdictAfter : Option Fault → List TypeEntry → Option Fault → Type 0
IsVerdictAfter (Some least) types verdict = verdict ≡ Some least
IsVerdictAfter None types verdict = IsPatternVerdict types verdict

-- a bundle's verdict, which is none where it is clean: its least fault, and without one what its patterns come to
abbrev pub IsVerdict : Stored → Option Fault → Type 0
IsVerdict bundle verdict = IsVerdictAfter (bundle_fault bundle) (types_of bundle) verdict
