-- The rows of a table stand by name, and what it has at a name.
use Rattle.std.proofs.Common.{◌≡◌, ℕ, List, [], ◌∷◌, map, reverse, true, false, cond, Option, Some, None, unwrap_or, refl, sym, ◌∙◌, ap, subst}
use Rattle.std.specs.Prelude.{flat_map}
use Rattle.std.specs.List.{cons_option, filter_map}
use Rattle.std.specs.Option.{option_or, option_map}
use Rattle.std.specs.Ordering.{is_eq}
use Rattle.ocsf_lists.specs.ByName.{text_cmp, at_name, IsByName}
use Rattle.ocsf_lists.proofs.FirstOfEach.{name-at_name, at_name-append, IsByName-first_of_each, at_name-first_of_each}
use Rattle.ocsf_raw.specs.declared.attribute.RawAttr.{RawAttr}
use Rattle.ocsf_merge.specs.declared.spoken.Spoken.{Spoken}
use Rattle.ocsf_merge.specs.Layers.{Layer, entry_said, entries_for}
use Rattle.ocsf_merge.specs.Table.{until_removal, counting, present, spoken, names_in, table_of}
use Rattle.ocsf_merge.specs.Merged.{merged}
use Rattle.ocsf_merge.proofs.MergedLists.{Joins, merged-joins, joined}

abbrev pub entry_name : RawAttr → List ℕ
entry_name e = e.name

abbrev pub row_name : Spoken → List ℕ
row_name s = s.attr.name

abbrev itself : List ℕ → List ℕ
itself t = t

abbrev names_of : Layer → List (List ℕ)
names_of layer = map (λ e. e.name) layer.entries

by_text : {X : Type 0} (name : X → List ℕ) (q : List ℕ) (xs : List X) → at_name itself q (map name xs) ≡ option_map name (at_name name q xs)
by_text name q [] = refl
by_text name q (x ∷ xs) =
    elim (is_eq (text_cmp q (name x))) as (λ b. cond b (Some (name x)) (at_name itself q (map name xs)) ≡ option_map name (cond b (Some x) (at_name name q xs))) [
      | true ↦ refl
      | false ↦ by_text name q xs
    ]

no_left : {X : Type 0} (x y : Option X) → option_or x y ≡ None → x ≡ None
no_left None y e = refl
no_left (Some x) y e = cc

no_right : {X : Type 0} (x y : Option X) → option_or x y ≡ None → y ≡ None
no_right None y e = e
no_right (Some x) y e = cc

no_map : {X Y : Type 0} (f : X → Y) (x : Option X) → option_map f x ≡ None → x ≡ None
no_map f None e = refl
no_map f (Some x) e = cc

-- what no layer names has no entry
unnamed : (q : List ℕ) (layers : List Layer) → at_name itself q (flat_map names_of layers) ≡ None → entries_for q layers ≡ []
unnamed q [] e = refl
unnamed q (l ∷ ls) e =
    let parts : option_or (at_name itself q (names_of l)) (at_name itself q (flat_map names_of ls)) ≡ None = sym (at_name-append itself q (names_of l) (flat_map names_of ls)) ∙ e in
    let first : option_map entry_name (at_name entry_name q l.entries) ≡ None = sym (by_text entry_name q l.entries) ∙ no_left (at_name itself q (names_of l)) (at_name itself q (flat_map names_of ls)) parts in
    let here : at_name entry_name q l.entries ≡ None = no_map entry_name (at_name entry_name q l.entries) first in
    ap (λ (o : Option RawAttr). cons_option (option_map (entry_said l) o) (entries_for q ls)) here
    ∙ unnamed q ls (no_right (at_name itself q (names_of l)) (at_name itself q (flat_map names_of ls)) parts)

as_merged : (f : List ℕ → Option Spoken) (names : List (List ℕ)) → filter_map f names ≡ merged itself row_name (λ a old. f a) names []
as_merged f [] = refl
as_merged f (n ∷ ns) = ap (cons_option (f n)) (as_merged f ns)

name-present : (a : List ℕ) (entries : List Spoken) (s : Spoken) → present a entries ≡ Some s → s.attr.name ≡ a
name-present a [] s e = cc
name-present a (x ∷ es) s e = sym (ap (λ (o : Option Spoken). (unwrap_or o s).attr.name) e)

keeps_name : (layers : List Layer) (a : List ℕ) (old : Option Spoken) (s : Spoken) → spoken a layers ≡ Some s → s.attr.name ≡ itself a
keeps_name layers a old s e = name-present a (counting a layers) s e

abbrev say : List Layer → List ℕ → Option Spoken → Option Spoken
say layers a old = spoken a layers

table_joins : (layers : List Layer) → Joins itself row_name (say layers) (keeps_name layers) (names_in layers) (merged itself row_name (say layers) (names_in layers))
table_joins layers = merged-joins itself row_name (say layers) (keeps_name layers) (names_in layers) (IsByName-first_of_each itself (flat_map names_of layers))

pub IsByName-table_of : (layers : List Layer) → IsByName row_name (table_of layers)
IsByName-table_of layers = subst (λ (rows : List Spoken). IsByName row_name rows) (sym (as_merged (λ a. spoken a layers) (names_in layers))) ((table_joins layers).by_name [] refl)

pub at_name-table_of : (layers : List Layer) (q : List ℕ) → at_name row_name q (table_of layers) ≡ spoken q layers
at_name-table_of layers q =
    let names = flat_map names_of layers in
    ap (at_name row_name q) (as_merged (λ a. spoken a layers) (names_in layers))
    ∙ (table_joins layers).finds q [] refl
    ∙ ap (λ (o : Option (List ℕ)). joined itself row_name (say layers) (keeps_name layers) o None) (at_name-first_of_each itself q names)
    ∙ elim (at_name itself q names) as (λ (o : Option (List ℕ)). at_name itself q names ≡ o → joined itself row_name (say layers) (keeps_name layers) o None ≡ spoken q layers) [
      | None ↦ λ e. ap (λ (es : List (Option Spoken)). present q (until_removal (reverse es))) (sym (unnamed q layers e))
      | Some k ↦ λ e. ap (λ (a : List ℕ). spoken a layers) (name-at_name itself q names k e)
    ] refl
