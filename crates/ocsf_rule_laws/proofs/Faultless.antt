-- What a bundle without a fault hasn't: a fault of its types, and one of its schema.
use Rattle.std.proofs.Common.{◌≡◌, List, [], ◌∷◌, ◌++◌, map, Option, Some, None, refl, subst}
use Rattle.std.specs.Prelude.{All, filter_map, flat_map}
use Rattle.std.specs.Option.{option_or}
use Rattle.std.specs.List.{cons_option}
use Rattle.std.proofs.lemmas.List.Elements.{All-nil, All-cons}
use Rattle.ocsf_tree.specs.LeastFault.{least_fault, IsLeastOf}
use Rattle.ocsf_tree.specs.declared.fault.Fault.{Fault}
use Rattle.ocsf_tree.specs.declared.fault.Code.TheVariants as code
use Rattle.ocsf_tree.specs.FaultGroups.{fault_of, group_of, faults_of}
use Rattle.ocsf_tree.proofs.LeastFaults.{least_is_least}
use Rattle.ocsf_bundle.specs.Active.{active_files}
use Rattle.ocsf_bundle.specs.BundleFaults.{file_faults, type_fault, type_faults, own_fault, listed_types}
use Rattle.ocsf_bundle.specs.FilesLook.{looks}
use Rattle.ocsf_bundle.specs.Listing.{Listing, listing}
use Rattle.ocsf_bundle.specs.Looks.{Looks}
use Rattle.ocsf_bundle.specs.Stored.{Stored}
use Rattle.ocsf_bundle.specs.declared.stored.ActiveFile.{ActiveFile}
use Rattle.ocsf_rules.specs.ItemFaults.{chain_faults, layers_faults, own_faults}
use Rattle.ocsf_rules.specs.SchemaFaults.{uid_clash, too_large, schema_faults}
use Rattle.ocsf_rules.specs.PrintedSchema.{printed_schema}
use Rattle.ocsf_rules.specs.Verdict.{bundle_fault, fault_groups, least_of_groups, IsFaultless}

or_first : {X : Type 0} (a b : Option X) → option_or a b ≡ None → a ≡ None
or_first None b e = refl
or_first (Some x) b e = cc

or_second : {X : Type 0} (a b : Option X) → option_or a b ≡ None → b ≡ None
or_second None b e = e
or_second (Some x) b e = cc

no_fault : (faults : List Fault) → least_fault faults ≡ None → faults ≡ []
no_fault faults e = subst (IsLeastOf faults) e (least_is_least faults)

-- ---- lists from which nothing comes

cons_is_not_nil : {X : Type 0} (x : X) (xs : List X) → x ∷ xs ≡ [] → ⊥
cons_is_not_nil x xs e = cc

nil_first : {X : Type 0} (xs ys : List X) → xs ++ ys ≡ [] → xs ≡ []
nil_first [] ys e = refl
nil_first (x ∷ xs) ys e = absurd (cons_is_not_nil x (xs ++ ys) e)

nil_second : {X : Type 0} (xs ys : List X) → xs ++ ys ≡ [] → ys ≡ []
nil_second [] ys e = e
nil_second (x ∷ xs) ys e = absurd (cons_is_not_nil x (xs ++ ys) e)

pub each_gives_none : {X Y : Type 0} (f : X → Option Y) (xs : List X) → filter_map f xs ≡ [] → All (λ x. f x ≡ None) xs
each_gives_none f [] e = All-nil (λ x. f x ≡ None)
each_gives_none f (x ∷ xs) e =
    let rest = filter_map f xs in
    elim (f x) as (λ o. f x ≡ o → cons_option o rest ≡ [] → All (λ x. f x ≡ None) (x ∷ xs)) [
      | None ↦ λ same none. All-cons (λ x. f x ≡ None) x xs same (each_gives_none f xs none)
      | Some y ↦ λ same none. absurd (cons_is_not_nil y rest none)
    ] refl e

pub each_gives_nil : {X Y : Type 0} (f : X → List Y) (xs : List X) → flat_map f xs ≡ [] → All (λ x. f x ≡ []) xs
each_gives_nil f [] e = All-nil (λ x. f x ≡ [])
each_gives_nil f (x ∷ xs) e =
    All-cons (λ x. f x ≡ []) x xs (nil_first (f x) (flat_map f xs) e)
    (each_gives_nil f xs (nil_second (f x) (flat_map f xs) e))

nil_mapped : {X Y : Type 0} (f : X → Y) (xs : List X) → map f xs ≡ [] → xs ≡ []
nil_mapped f [] e = refl
nil_mapped f (x ∷ xs) e = absurd (cons_is_not_nil (f x) (map f xs) e)

-- ---- a bundle without a fault

module _ (bundle : Stored) (sound : IsFaultless bundle) where
  abbrev looks_of_it : Looks
  looks_of_it = looks bundle.files bundle.enabled

  abbrev active_of_it : List ActiveFile
  active_of_it = active_files bundle.files bundle.enabled

  abbrev listing_of_it : Listing
  listing_of_it = listing bundle

  pub no_type_faults : All (λ name. type_fault looks_of_it.kinds name ≡ None) (listed_types active_of_it)
  unfolding bundle_fault
  no_type_faults =
      let files = least_fault (file_faults bundle.files bundle.enabled active_of_it) in
      let types = type_faults looks_of_it.kinds active_of_it in
      let behind = least_of_groups (fault_groups looks_of_it listing_of_it) in
      let own = or_first (own_fault bundle.files bundle.enabled) behind sound in
      each_gives_none (type_fault looks_of_it.kinds) (listed_types active_of_it)
      (no_fault types (or_second files (least_fault types) own))

  no_schema_faults : schema_faults looks_of_it listing_of_it ≡ []
  unfolding bundle_fault
  no_schema_faults =
      let items = listing_of_it.items in
      let chains = least_fault (flat_map (chain_faults looks_of_it) items) in
      let layers = least_fault (flat_map (layers_faults looks_of_it) items) in
      let owns = least_fault (flat_map (own_faults looks_of_it) items) in
      let schema = least_fault (schema_faults looks_of_it listing_of_it) in
      let groups =
      or_second (own_fault bundle.files bundle.enabled)
      (option_or chains (option_or layers (option_or owns (option_or schema None)))) sound in
      let behind_chains = or_second chains (option_or layers (option_or owns (option_or schema None))) groups in
      let behind_layers = or_second layers (option_or owns (option_or schema None)) behind_chains in
      no_fault (schema_faults looks_of_it listing_of_it)
      (or_first schema None (or_second owns (option_or schema None) behind_layers))

  pub no_clash : All (λ k. uid_clash looks_of_it listing_of_it.items k ≡ []) listing_of_it.items
  unfolding schema_faults
  no_clash =
      each_gives_nil (uid_clash looks_of_it listing_of_it.items) listing_of_it.items
      (nil_mapped (fault_of code.UidClash) (flat_map (uid_clash looks_of_it listing_of_it.items) listing_of_it.items)
      (nil_first (faults_of (group_of code.UidClash (flat_map (uid_clash looks_of_it listing_of_it.items) listing_of_it.items)))
      (faults_of (group_of code.TooLarge (too_large (printed_schema looks_of_it listing_of_it))) ++ []) no_schema_faults))
