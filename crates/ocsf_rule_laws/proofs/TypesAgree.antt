-- A type has a fault as a type of the files exactly where it leads to no kind.
use Rattle.std.proofs.Common.{◌≡◌, ℕ, suc, zero, List, [], ◌∷◌, map, Bool, true, false, cond, ◌||◌, not, if◌then◌else◌}
use Rattle.std.proofs.Common.{is_some, Option, Some, None, Result, Ok, Err, unwrap_or, refl, sym, ap, ◌∙◌}
use Rattle.std.specs.Prelude.{flat_map, filter_map}
use Rattle.std.specs.Option.{option_map, option_and_then, option_or}
use Rattle.std.specs.List.{cons_option}
use Rattle.std.specs.Ordering.{is_eq}
use Rattle.ocsf_lists.specs.ByName.{text_cmp, at_name}
use Rattle.ocsf_tree.specs.declared.fault.Code.TheVariants as code
use Rattle.ocsf_lists.proofs.FirstOfEach.{name-at_name, at_name-append, at_name-first_of_each}
use Rattle.ocsf_raw.specs.declared.dictionary.TypeEntry.{TypeEntry}
use Rattle.ocsf_schema.specs.Bases.{base_of}
use Rattle.ocsf_schema.specs.declared.records.Base.{Base}
use Rattle.ocsf_schema.specs.declared.records.Kind.{Kind}
use Rattle.ocsf_schema.specs.declared.records.Limit.{Limit}
use Rattle.ocsf_kind.specs.declared.kinds.KindError.{KindError}
use Rattle.ocsf_kind.specs.declared.kinds.KindError.TheVariants as error
use Rattle.ocsf_kind.specs.Kinds.{listed, parent_of, is_end, way, last_name, limits_of, kind_at, kind_of}
use Rattle.ocsf_kind.proofs.Ways.{way-end}
use Rattle.ocsf_kind.proofs.Cycles.{last_name-goes}
use Rattle.ocsf_bundle.specs.Active.{active_files, in_layers}
use Rattle.ocsf_bundle.specs.BundleFaults.{Kinds, fault, fault_if, last_parent, narrowed, reached, type_subject}
use Rattle.ocsf_bundle.specs.BundleFaults.{way_fault, type_fault_at, type_fault}
use Rattle.ocsf_bundle.specs.BundleFaults.{is_end as has_end}
use Rattle.ocsf_bundle.specs.FilesLook.{looks, types_said}
use Rattle.ocsf_bundle.specs.FilesLook.{kind_of as entry_in}
use Rattle.ocsf_bundle.specs.Listing.{listing, type_names}
use Rattle.ocsf_bundle.specs.Looks.{Looks, is_there}
use Rattle.ocsf_lists.specs.Given.{last_given}
use Rattle.ocsf_bundle.specs.Stored.{Stored}
use Rattle.ocsf_bundle.specs.declared.stored.ActiveFile.{ActiveFile}
use Rattle.ocsf_bundle.proofs.Listed.{found_layers}
use Rattle.ocsf_rules.specs.MergedDictionary.{merged_layers, merged_type}
use Rattle.ocsf_rules.specs.Verdict.{types_of}
use Rattle.ocsf_rule_laws.specs.ClosedLaws.{refused_kind, TypesAgree}

abbrev pub looks_in : Stored → Looks
looks_in bundle = looks bundle.files bundle.enabled

abbrev pub among : List ℕ → List (List ℕ) → Option (List ℕ)
among q names = at_name (λ n. n) q names

-- ---- a listed type is one that a dictionary has

-- items are found under the names that they come from
pub at_mapped : {X Y : Type 0} (f : X → Y) (name : Y → List ℕ) (q : List ℕ) (xs : List X)
    → at_name name q (map f xs) ≡ option_map f (at_name (λ x. name (f x)) q xs)
at_mapped f name q [] = refl
at_mapped f name q (x ∷ xs) =
    elim (is_eq (text_cmp q (name (f x)))) as (λ (b : Bool). cond b (Some (f x)) (at_name name q (map f xs))
    ≡ option_map f (cond b (Some x) (at_name (λ x. name (f x)) q xs))) [
      | true ↦ refl
      | false ↦ at_mapped f name q xs
    ]

pub some_mapped : {X Y : Type 0} (f : X → Y) (o : Option X) → is_some (option_map f o) ≡ is_some o
some_mapped f None = refl
some_mapped f (Some x) = refl

pub among_some : {X : Type 0} (name : X → List ℕ) (q : List ℕ) (xs : List X)
    → is_some (among q (map name xs)) ≡ is_some (at_name name q xs)
among_some name q xs = ap is_some (at_mapped name (λ n. n) q xs) ∙ some_mapped name (at_name name q xs)

-- one file, and the rest
one_more : {X : Type 0} (a rest : Option (List ℕ)) (o : Option X) (xs : List X) → is_some a ≡ is_some o
    → is_some rest ≡ is_there xs → is_some (option_or a rest) ≡ is_there (cons_option o xs)
one_more None rest None xs e f = f
one_more (Some n) rest None xs e f = cc
one_more None rest (Some x) xs e f = cc
one_more (Some n) rest (Some x) xs e f = refl

in_files : (q : List ℕ) (files : List ActiveFile)
    → is_some (among q (flat_map type_names files)) ≡ is_there (filter_map (entry_in q) files)
in_files q [] = refl
in_files q (a ∷ files) =
    ap is_some (at_name-append (λ n. n) q (type_names a) (flat_map type_names files))
    ∙ one_more (among q (type_names a)) (among q (flat_map type_names files)) (entry_in q a)
    (filter_map (entry_in q) files)
    (among_some (λ (entry : TypeEntry). entry.name) q (types_said a.file.raw)) (in_files q files)

pub listed_is_there : (bundle : Stored) (q : List ℕ)
    → is_some (among q (listing bundle).types) ≡ is_there ((looks_in bundle).kinds q)
listed_is_there bundle q =
    let active = active_files bundle.files bundle.enabled in
    ap is_some (at_name-first_of_each (λ n. n) q (flat_map type_names active) ∙ sym (found_layers type_names q active))
    ∙ in_files q (in_layers active)

-- ---- the merged types

abbrev if_there : List ℕ → List TypeEntry → Option TypeEntry
if_there q entries = if is_there entries then Some (merged_layers q entries) else None

found_type : (b : Looks) (q : List ℕ) (o : Option (List ℕ)) → ((x : List ℕ) → o ≡ Some x → x ≡ q)
    → is_some o ≡ is_there (b.kinds q) → option_map (merged_type b) o ≡ if_there q (b.kinds q)
found_type b q None same e = ap (λ c. if c then Some (merged_type b q) else None) e
found_type b q (Some x) same e =
    ap (λ n. Some (merged_type b n)) (same x refl) ∙ ap (λ c. if c then Some (merged_type b q) else None) e

pub listed_type : (bundle : Stored) (q : List ℕ) → listed (types_of bundle) q ≡ if_there q ((looks_in bundle).kinds q)
listed_type bundle q =
    let b = looks_in bundle in
    let names = (listing bundle).types in
    at_mapped (merged_type b) (λ (t : TypeEntry). t.name) q names
    ∙ found_type b q (among q names) (λ x e. name-at_name (λ n. n) q names x e) (listed_is_there bundle q)

-- ---- both walks move and end alike

same_parents : (entries : List TypeEntry) → last_given (λ (t : TypeEntry). t.parent) entries ≡ last_parent entries
same_parents entries = refl

parent_there : (q : List ℕ) (entries : List TypeEntry)
    → unwrap_or (option_and_then (λ (t : TypeEntry). t.parent) (if_there q entries)) []
    ≡ unwrap_or (last_parent entries) []
parent_there q [] = refl
parent_there q (t ∷ entries) = ap (λ o. unwrap_or o []) (same_parents (t ∷ entries))

some_there : (q : List ℕ) (entries : List TypeEntry) → is_some (if_there q entries) ≡ is_there entries
some_there q [] = refl
some_there q (t ∷ entries) = refl

module _ (types : List TypeEntry) (kinds : Kinds) (same : (q : List ℕ) → listed types q ≡ if_there q (kinds q)) where
  somes : (q : List ℕ) → is_some (listed types q) ≡ is_there (kinds q)
  somes q = ap is_some (same q) ∙ some_there q (kinds q)

  ends : (q : List ℕ) → is_end types q ≡ has_end kinds q
  ends q = ap (λ c. is_some (base_of q) || not c) (somes q)

  parents : (q : List ℕ) → parent_of types q ≡ narrowed kinds q
  parents q =
      ap (λ o. unwrap_or (option_and_then (λ (t : TypeEntry). t.parent) o) []) (same q) ∙ parent_there q (kinds q)

  same_way : (n : ℕ) (q : List ℕ) → reached n kinds q ≡ last_name (way n types q)
  unfolding reached way
  same_way zero q = refl
  same_way (suc n) q =
      elim (has_end kinds q) as (λ (c : Bool). has_end kinds q ≡ c
      → (if c then q else reached n kinds (narrowed kinds q)) ≡ last_name (way (suc n) types q)) [
        | true ↦ λ e. sym (ap last_name (way-end (suc n) types q (ends q ∙ e)))
        | false ↦ λ e.
            same_way n (narrowed kinds q)
            ∙ ap (λ name. last_name (way n types name)) (sym (parents q))
            ∙ sym (last_name-goes n types q (ends q ∙ e))
      ] refl

  told : (name last : List ℕ) (limits : List Limit) (base : Option Base)
      → fault_if (not (is_some base)) (way_fault kinds name last)
      ≡ refused_kind name (kind_at types name last limits base)
  told name last limits (Some base) = refl
  told name last limits None =
      elim (is_there (kinds last)) as (λ (c : Bool). is_some (listed types last) ≡ c
      → Some (if c then fault code.TypeCycle (type_subject name) []
      else fault code.TypeUnknown (type_subject name) last)
      ≡ refused_kind name (if is_some (listed types last) then Err error.Cycle else Err (error.Unknown last))) [
        | true ↦ λ e. ap (λ c. refused_kind name (if c then Err error.Cycle else Err (error.Unknown last))) (sym e)
        | false ↦ λ e. ap (λ c. refused_kind name (if c then Err error.Cycle else Err (error.Unknown last))) (sym e)
      ] (somes last)

  faults_agree : (name : List ℕ) → type_fault kinds name ≡ refused_kind name (kind_of types name)
  faults_agree name =
      ap (type_fault_at kinds name) (same_way 32 name)
      ∙ told name (last_name (way 32 types name)) (limits_of types (way 32 types name))
      (base_of (last_name (way 32 types name)))

abbrev IsMemory : Result Kind KindError → Type 0
IsMemory told = told ≡ Err error.Memory

kind_is_not : (kind : Kind) → IsMemory (Ok kind) → ⊥
kind_is_not kind e = cc

cycle_is_not : IsMemory (Err error.Cycle) → ⊥
cycle_is_not e = cc

unknown_is_not : (name : List ℕ) → IsMemory (Err (error.Unknown name)) → ⊥
unknown_is_not name e = cc

never : (types : List TypeEntry) (name last : List ℕ) (limits : List Limit) (base : Option Base)
    → IsMemory (kind_at types name last limits base) → ⊥
never types name last limits (Some base) = kind_is_not (record { name = name; base = base; limits = limits })
never types name last limits None =
    elim (is_some (listed types last)) as (λ (c : Bool).
    IsMemory (if c then Err error.Cycle else Err (error.Unknown last)) → ⊥) [
      | true ↦ cycle_is_not
      | false ↦ unknown_is_not last
    ]

pub types_agree : TypesAgree
types_agree bundle name =
    let types = types_of bundle in (
      faults_agree types (looks_in bundle).kinds (listed_type bundle) name,
      never types name (last_name (way 32 types name)) (limits_of types (way 32 types name))
          (base_of (last_name (way 32 types name))),
    )
