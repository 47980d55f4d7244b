-- Attributes joined one after another.
use Rattle.std.proofs.Common.{◌≡◌, ℕ, ◌+◌, ◌<◌, List, [], ◌∷◌, ◌++◌, map, take, length, sym, ◌∙◌, ap, append_assoc}
use Rattle.std.specs.Prelude.{flat_map, slice_index_or}
use Rattle.std.proofs.lemmas.List.{take_more, map-append}
use Rattle.ocsf_tree.specs.declared.fault.Fault.{Fault}
use Rattle.ocsf_tree.specs.LeastFault.{least_from}
use Rattle.ocsf_schema.specs.declared.records.Attr.{Attr}
use Rattle.ocsf_bundle.specs.declared.cells.Cell.{Cell}
use Rattle.ocsf_item.specs.declared.join.Joined.{Joined}
use Rattle.ocsf_item.specs.Joined.{Joins}
use Rattle.ocsf_walk.proofs.Chains.{least_from-append}
use Rattle.ocsf_walk.proofs.Lists.{flat_map_more}

map_more : {X Y : Type 0} (f : X → Y) (xs : List X) (i : ℕ) (x : X) → i < length xs → x ≡ slice_index_or xs i x → map f (take (i + 1) xs) ≡ map f (take i xs) ++ f x ∷ []
map_more f xs i x h is = ap (map f) (take_more xs i x h ∙ ap (λ y. take i xs ++ y ∷ []) (sym is)) ∙ map-append f (take i xs) (x ∷ [])

-- one row more
pub joins_more : {X : Type 0} (f : X → Attr) (g : X → List Cell) (h : X → List Fault) (xs : List X) (i : ℕ) (x : X) (a b c : Joined) → i < length xs → x ≡ slice_index_or xs i x
    → Joins a b (map f (take i xs)) (flat_map g (take i xs)) (flat_map h (take i xs)) → Joins b c (f x ∷ []) (g x) (h x)
    → Joins a c (map f (take (i + 1) xs)) (flat_map g (take (i + 1) xs)) (flat_map h (take (i + 1) xs))
joins_more f g h xs i x a b c l is before now = record {
  attrs = now.attrs ∙ ap (λ made. made ++ f x ∷ []) before.attrs ∙ append_assoc a.attrs (map f (take i xs)) (f x ∷ []) ∙ ap (λ made. a.attrs ++ made) (sym (map_more f xs i x l is));
  reads = now.reads ∙ ap (λ cs. cs ++ g x) before.reads ∙ append_assoc a.reads (flat_map g (take i xs)) (g x) ∙ ap (λ cs. a.reads ++ cs) (sym (flat_map_more g xs i x l is));
  least = now.least ∙ ap (λ o. least_from o (h x)) before.least ∙ sym (least_from-append a.least (flat_map h (take i xs)) (h x)) ∙ ap (least_from a.least) (sym (flat_map_more h xs i x l is));
}
