-- What stands under the names that a bundle lists stands by name.
use Rattle.std.proofs.Common.{◌≡◌, ℕ, List, [], ◌∷◌, map, Bool, true, false, if◌then◌else◌, Option, Some, None, Result, Ok, Err, IfOk, codes, refl, sym, subst}
use Rattle.std.specs.Prelude.{All, flat_map, filter_map, is_some}
use Rattle.std.specs.Option.{IfSome}
use Rattle.std.specs.Result.{result_ok}
use Rattle.std.proofs.lemmas.List.Elements.{All-nil, All-cons}
use Rattle.ocsf_lists.specs.ByName.{IsByName}
use Rattle.ocsf_lists.proofs.FirstOfEach.{IsByName-first_of_each}
use Rattle.ocsf_raw.specs.declared.dictionary.DictEntry.{DictEntry}
use Rattle.ocsf_raw.specs.declared.dictionary.TypeEntry.{TypeEntry}
use Rattle.ocsf_raw.specs.Ordered.{IsByKey}
use Rattle.ocsf_schema.specs.declared.records.Base.{Base}
use Rattle.ocsf_schema.specs.declared.records.Kind.{Kind}
use Rattle.ocsf_schema.specs.declared.records.Limit.{Limit}
use Rattle.ocsf_kind.specs.declared.kinds.KindError.TheVariants as error
use Rattle.ocsf_kind.specs.Kinds.{listed, way, last_name, limits_of, kind_at, kind_of, base_of}
use Rattle.ocsf_bundle.specs.Stored.{Stored}
use Rattle.ocsf_bundle.specs.Active.{active_files}
use Rattle.ocsf_bundle.specs.Keys.{profile_given}
use Rattle.ocsf_bundle.specs.Looks.{Looks}
use Rattle.ocsf_bundle.specs.Listing.{attribute_names, type_names, category_keys, in_byte_order, listing}
use Rattle.ocsf_rules.specs.MergedDictionary.{merged_entry, merged_type}
use Rattle.ocsf_compiler.proofs.ByNames.{IsByName-filter_map, IsByName-map}
use Rattle.ocsf_compiler.proofs.Layered.{said_by_key}

-- ---- the names

pub attributes_by_name : (s : Stored) → IsByName (λ n. n) (listing s).attributes
attributes_by_name s = IsByName-first_of_each (λ n. n) (flat_map attribute_names (active_files s.files s.enabled))

pub types_by_name : (s : Stored) → IsByName (λ n. n) (listing s).types
types_by_name s = IsByName-first_of_each (λ n. n) (flat_map type_names (active_files s.files s.enabled))

pub categories_by_name : (s : Stored) → IsByName (λ n. n) (listing s).categories
categories_by_name s = IsByName-first_of_each (λ n. n) (codes "other" ∷ flat_map category_keys (active_files s.files s.enabled))

pub profiles_by_name : (s : Stored) → IsByName (λ n. n) (listing s).profiles
profiles_by_name s = IsByName-first_of_each (λ n. n) (filter_map profile_given (active_files s.files s.enabled))

pub in_order : (names : List (List ℕ)) → IsByName (λ n. n) (in_byte_order names)
in_order names = IsByName-first_of_each (λ n. n) names

-- ---- what stands under them

pub entries_by_name : (b : Looks) (names : List (List ℕ)) → IsByName (λ n. n) names → IsByName (λ (e : DictEntry). e.name) (map (merged_entry b) names)
entries_by_name b names h = IsByName-map (merged_entry b) (λ n. n) (λ e. e.name) (λ n. refl) names h

pub entries_by_key : (b : Looks) (names : List (List ℕ)) → All (λ e. IsByKey e.members) (map (merged_entry b) names)
entries_by_key b [] = All-nil (λ (e : DictEntry). IsByKey e.members)
entries_by_key b (n ∷ names) = All-cons (λ (e : DictEntry). IsByKey e.members) (merged_entry b n) (map (merged_entry b) names) (said_by_key n (b.dict n)) (entries_by_key b names)

pub merged_types_by_name : (b : Looks) (names : List (List ℕ)) → IsByName (λ n. n) names → IsByName (λ (t : TypeEntry). t.name) (map (merged_type b) names)
merged_types_by_name b names h = IsByName-map (merged_type b) (λ n. n) (λ t. t.name) (λ n. refl) names h

kind_named : (types : List TypeEntry) (n : List ℕ) → IfSome (result_ok (kind_of types n)) (λ k. k.name ≡ n)
kind_named types n = go (last_name (way 32 types n)) (limits_of types (way 32 types n)) (base_of (last_name (way 32 types n)))
  where
    go : (last : List ℕ) (limits : List Limit) (o : Option Base) → IfSome (result_ok (kind_at types n last limits o)) (λ k. k.name ≡ n)
    go last limits (Some base) = refl
    go last limits None =
        elim (is_some (listed types last)) as (λ (b : Bool). IfSome (result_ok (if b then Err error.Cycle else Err (error.Unknown last))) (λ (k : Kind). k.name ≡ n)) [ true ↦ tt | false ↦ tt ]

pub kinds_by_name : (types : List TypeEntry) (names : List (List ℕ)) → IsByName (λ n. n) names → IsByName (λ (k : Kind). k.name) (filter_map (λ name. result_ok (kind_of types name)) names)
kinds_by_name types names h = IsByName-filter_map (λ name. result_ok (kind_of types name)) (λ n. n) (λ k. k.name) (kind_named types) names h

-- what holds of a value holds of what is made equal to it
pub carried : {A E : Type 0} (P : A → Type 0) (r : Result A E) (x : A) → IfOk r (λ made. made ≡ x) → P x → IfOk r P
carried P (Ok made) x e p = subst P (sym e) p
carried P (Err e) x h p = tt
