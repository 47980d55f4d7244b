-- A compilation is closed: what an item of it names is in it. The statements of the laws in src/closed_laws.rt,
-- each of all bundles.
use Rattle.std.specs.Prelude.{◌≡◌, ◌≢◌, ℕ, true, List, [], map, Option, Some, None, Result, Ok, Err, All, IfSome}
use Rattle.std.specs.Prelude.{is_some, ⊤}
use Rattle.ocsf_lists.specs.ByName.{at_name}
use Rattle.ocsf_tree.specs.declared.fault.Fault.{Fault}
use Rattle.ocsf_tree.specs.declared.fault.Code.TheVariants as code
use Rattle.ocsf_tree.specs.declared.key.Side.TheVariants.{Object}
use Rattle.ocsf_schema.specs.Lookups.{item_at, class_number, class_at}
use Rattle.ocsf_schema.specs.declared.parts.SchemaParts.{SchemaParts}
use Rattle.ocsf_schema.specs.declared.records.Kind.{Kind}
use Rattle.ocsf_schema.specs.declared.records.Target.{Target}
use Rattle.ocsf_schema.specs.declared.records.Target.TheVariants as target
use Rattle.ocsf_bundle.specs.Stored.{Stored}
use Rattle.ocsf_bundle.specs.FilesLook.{looks}
use Rattle.ocsf_bundle.specs.BundleFaults.{type_fault, type_subject}
use Rattle.ocsf_bundle.specs.Listing.{listing}
use Rattle.ocsf_kind.specs.Kinds.{kind_of}
use Rattle.ocsf_kind.specs.declared.kinds.KindError.{KindError}
use Rattle.ocsf_kind.specs.declared.kinds.KindError.TheVariants as error
use Rattle.ocsf_rules.specs.Names.{key}
use Rattle.ocsf_rules.specs.ItemFaults.{fault}
use Rattle.ocsf_rules.specs.MergedDictionary.{data_types}
use Rattle.ocsf_rules.specs.Verdict.{types_of, IsFaultless}
use Rattle.ocsf_rules.specs.Compilation.{compilation}

-- ---- types and kinds

-- the fault of a type that leads to no kind
abbrev pub refused_kind : List ℕ → Result Kind KindError → Option Fault
refused_kind name (Ok kind) = None
refused_kind name (Err (error.Unknown other)) = Some (fault code.TypeUnknown (type_subject name) other)
refused_kind name (Err error.Cycle) = Some (fault code.TypeCycle (type_subject name) [])
refused_kind name (Err error.Memory) = None

-- a type has a fault as a type of the files exactly where it leads to no kind, and the fault says why it doesn't
abbrev pub TypesAgree : Type 0
TypesAgree = (bundle : Stored) (name : List ℕ)
    → (type_fault (looks bundle.files bundle.enabled).kinds name ≡ refused_kind name (kind_of (types_of bundle) name))
    × (kind_of (types_of bundle) name ≢ Err error.Memory)

-- where nothing is wrong, the schema has the kind of each base type and each listed type, and no other
abbrev pub HasEveryKind : Type 0
HasEveryKind =
    (bundle : Stored) → IsFaultless bundle
    → map (λ kind. kind.name) (compilation bundle).kinds ≡ data_types (listing bundle)

-- ---- targets

abbrev pub IsThere : SchemaParts → Target → Type 0
IsThere schema (target.Simple name) = is_some (at_name (λ kind. kind.name) name schema.kinds) ≡ true
IsThere schema (target.Object name) = is_some (item_at (key Object name) schema.pieces) ≡ true
IsThere schema target.Anything = ⊤

-- where nothing is wrong, what an attribute leads to is in the schema: a data type's kind, an object's item
abbrev pub LeadsIntoSchema : Type 0
LeadsIntoSchema = (bundle : Stored) → IsFaultless bundle
    → All (λ item. All (λ attr. IsThere (compilation bundle) attr.target) item.attrs) (compilation bundle).pieces

-- ---- numbers of classes

-- a compiled item has a class number only where it is found by it: where it is a class that isn't hidden
abbrev pub AreNumbersShown : Type 0
AreNumbersShown = (bundle : Stored) → All (λ item. class_number item ≡ item.class_uid) (compilation bundle).pieces

-- where nothing is wrong, each class that has a number is found by it
abbrev pub AreFoundByNumber : Type 0
AreFoundByNumber = (bundle : Stored) → IsFaultless bundle
    → All (λ item. IfSome item.class_uid (λ number. class_at number (compilation bundle).pieces ≡ Some item))
    (compilation bundle).pieces
