-- What is heard one after another.
use Rattle.std.proofs.Common.{◌≡◌, ℕ, ◌+◌, ◌<◌, List, [], ◌++◌, take, length, refl, sym, ◌∙◌, ap, subst, append_assoc, append-nil}
use Rattle.std.specs.Prelude.{flat_map, slice_index_or}
use Rattle.std.specs.Option.{option_map}
use Rattle.std.proofs.lemmas.List.Elements.{filter_map-append}
use Rattle.ocsf_tree.specs.declared.fault.Fault.{Fault}
use Rattle.ocsf_tree.specs.LeastFault.{least_from}
use Rattle.ocsf_bundle.specs.declared.cells.Cell.{Cell}
use Rattle.ocsf_merge.specs.Layers.{Layer}
use Rattle.ocsf_merge.specs.Table.{table_of}
use Rattle.ocsf_walk.specs.declared.walk.Walk.{Walk}
use Rattle.ocsf_rules.specs.Compiled.{profile_keys}
use Rattle.ocsf_walk.specs.Walk.{Hears}
use Rattle.ocsf_walk.proofs.Chains.{least_from-append}
use Rattle.ocsf_walk.proofs.Lists.{flat_map_more}

pub hears_nothing : (a : Walk) → Hears a a [] [] []
hears_nothing a = record {
  table = λ before is. is ∙ ap (λ ls. table_of ls) (sym (append-nil before));
  profiles = sym (append-nil a.profiles);
  reads = sym (append-nil a.reads);
  least = refl;
}

module _ (a b c : Walk) (ls ms : List Layer) (xs ys : List Cell) (fs gs : List Fault) where
  pub hears_then : Hears a b ls xs fs → Hears b c ms ys gs → Hears a c (ls ++ ms) (xs ++ ys) (fs ++ gs)
  hears_then one two = record {
    table = λ before is. two.table (before ++ ls) (one.table before is) ∙ ap (λ ks. table_of ks) (append_assoc before ls ms);
    profiles = two.profiles ∙ ap (λ ps. ps ++ profile_keys ms) one.profiles ∙ append_assoc a.profiles (profile_keys ls) (profile_keys ms)
        ∙ ap (λ ps. a.profiles ++ ps) (sym (filter_map-append (λ layer. option_map (λ p. p.key) layer.profile) ls ms));
    reads = two.reads ∙ ap (λ cells. cells ++ ys) one.reads ∙ append_assoc a.reads xs ys;
    least = two.least ∙ ap (λ o. least_from o gs) one.least ∙ sym (least_from-append a.least fs gs);
  }

-- one step more of a walk over a list
pub hears_more : {X : Type 0} (f : X → List Layer) (g : X → List Cell) (h : X → List Fault) (xs : List X) (i : ℕ) (x : X) (a b c : Walk) → i < length xs → x ≡ slice_index_or xs i x
    → Hears a b (flat_map f (take i xs)) (flat_map g (take i xs)) (flat_map h (take i xs)) → Hears b c (f x) (g x) (h x)
    → Hears a c (flat_map f (take (i + 1) xs)) (flat_map g (take (i + 1) xs)) (flat_map h (take (i + 1) xs))
hears_more f g h xs i x a b c l is before now =
    let all = hears_then a b c (flat_map f (take i xs)) (f x) (flat_map g (take i xs)) (g x) (flat_map h (take i xs)) (h x) before now in
    subst (λ ls. Hears a c ls (flat_map g (take (i + 1) xs)) (flat_map h (take (i + 1) xs))) (sym (flat_map_more f xs i x l is))
    (subst (λ cs. Hears a c (flat_map f (take i xs) ++ f x) cs (flat_map h (take (i + 1) xs))) (sym (flat_map_more g xs i x l is))
    (subst (Hears a c (flat_map f (take i xs) ++ f x) (flat_map g (take i xs) ++ g x)) (sym (flat_map_more h xs i x l is)) all))

-- a walk over a list on which no layer is heard
pub hears_more_cells : {X : Type 0} (g : X → List Cell) (h : X → List Fault) (xs : List X) (i : ℕ) (x : X) (a b c : Walk) → i < length xs → x ≡ slice_index_or xs i x
    → Hears a b [] (flat_map g (take i xs)) (flat_map h (take i xs)) → Hears b c [] (g x) (h x)
    → Hears a c [] (flat_map g (take (i + 1) xs)) (flat_map h (take (i + 1) xs))
hears_more_cells g h xs i x a b c l is before now =
    let all = hears_then a b c [] [] (flat_map g (take i xs)) (g x) (flat_map h (take i xs)) (h x) before now in
    subst (λ cs. Hears a c [] cs (flat_map h (take (i + 1) xs))) (sym (flat_map_more g xs i x l is))
    (subst (Hears a c [] (flat_map g (take i xs) ++ g x)) (sym (flat_map_more h xs i x l is)) all)
