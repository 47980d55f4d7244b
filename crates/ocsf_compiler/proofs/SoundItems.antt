-- Items without faults.
use Rattle.std.proofs.Common.{◌≡◌, ℕ, List, [], ◌∷◌, map, ◌&&◌, Option, Some, None, refl, ◌∙◌, ap, subst}
use Rattle.std.specs.List.{filter_map, cons_option}
use Rattle.std.specs.Ordering.{is_lt}
use Rattle.std.specs.FinMap.Entries.{below_all}
use Rattle.ocsf_tree.specs.declared.fault.Fault.{Fault}
use Rattle.ocsf_tree.specs.declared.key.Key.{Key}
use Rattle.ocsf_tree.specs.Key.{key_text}
use Rattle.ocsf_lists.specs.ByName.{text_cmp, named, is_by_name, IsByName}
use Rattle.ocsf_tree.specs.LeastFault.{least_fault, IsLeastOf}
use Rattle.ocsf_tree.proofs.LeastFaults.{least_is_least}
use Rattle.ocsf_schema.specs.declared.records.Item.{Item}
use Rattle.ocsf_schema.specs.Lookups.{IsByKey}
use Rattle.ocsf_bundle.specs.Looks.{Looks}
use Rattle.ocsf_rules.specs.Compiled.{item}
use Rattle.ocsf_rules.specs.ItemFaults.{item_fault}
use Rattle.ocsf_compiler.specs.Building.{unless_fault, sound_item}

none_of : {A : Type 0} (o : Option A) (xs : List A) → cons_option o xs ≡ [] → (o ≡ None) × (xs ≡ [])
none_of None xs e = (refl, e)
none_of (Some x) xs e = cc

no_faults : (fs : List Fault) → least_fault fs ≡ None → fs ≡ []
no_faults fs e = subst (IsLeastOf fs) e (least_is_least fs)

all_sound : (b : Looks) (ks : List Key) → filter_map (item_fault b) ks ≡ [] → filter_map (sound_item b) ks ≡ map (item b) ks
all_sound b [] e = refl
all_sound b (k ∷ ks) e =
    let parts = none_of (item_fault b k) (filter_map (item_fault b) ks) e in
    ap (λ o. cons_option (unless_fault o (item b k)) (filter_map (sound_item b) ks)) parts.0
    ∙ ap (λ l. item b k ∷ l) (all_sound b ks parts.1)

-- without a fault each item is sound
pub sound_items : (b : Looks) (ks : List Key) → least_fault (filter_map (item_fault b) ks) ≡ None → filter_map (sound_item b) ks ≡ map (item b) ks
sound_items b ks e = all_sound b ks (no_faults (filter_map (item_fault b) ks) e)

abbrev item_text : Item → List ℕ
item_text i = key_text i.key

below : (b : Looks) (q : List ℕ) (ks : List Key) → below_all text_cmp q (named item_text (map (item b) ks)) ≡ below_all text_cmp q (named key_text ks)
unfolding item
below b q [] = refl
below b q (k ∷ ks) = ap (λ c. is_lt (text_cmp q (key_text k)) && c) (below b q ks)

sorted : (b : Looks) (ks : List Key) → is_by_name item_text (map (item b) ks) ≡ is_by_name key_text ks
unfolding item
sorted b [] = refl
sorted b (k ∷ ks) =
    ap (λ c. c && is_by_name item_text (map (item b) ks)) (below b (key_text k) ks)
    ∙ ap (λ c. below_all text_cmp (key_text k) (named key_text ks) && c) (sorted b ks)

-- items stand as their keys do
pub items_by_key : (b : Looks) (ks : List Key) → IsByName key_text ks → IsByKey (map (item b) ks)
items_by_key b ks h = sorted b ks ∙ h
