-- One layer more.
use Rattle.std.proofs.Common.{◌≡◌, ℕ, zero, suc, List, [], ◌∷◌, ◌++◌, reverse, Bool, true, false, cond, Option, Some, None, unwrap_or, is_some, if◌then◌else◌, refl, sym, ◌∙◌, ap, subst, arith}
use Rattle.std.specs.Prelude.{All, flat_map}
use Rattle.std.specs.List.{cons_option, filter_map}
use Rattle.std.specs.Option.{option_or, option_map, option_map_or}
use Rattle.std.specs.Ordering.{is_eq}
use Rattle.std.proofs.lemmas.List.Elements.{filter_map-append}
use Rattle.std.proofs.lemmas.List.{reverse-append}
use Rattle.ocsf_tree.specs.declared.attribute.EnumMember.{EnumMember}
use Rattle.ocsf_lists.specs.ByName.{text_cmp, at_name}
use Rattle.ocsf_lists.proofs.FirstOfEach.{same_lists, name-at_name}
use Rattle.ocsf_raw.specs.declared.attribute.RawAttr.{RawAttr}
use Rattle.ocsf_raw.specs.Ordered.{IsByKey, AreEntriesOrdered}
use Rattle.ocsf_merge.specs.declared.spoken.Spoken.{Spoken}
use Rattle.ocsf_merge.specs.Layers.{Layer, GivenMark, no_mark, given, entry_said, entry_of, entries_for}
use Rattle.ocsf_merge.specs.Table.{until_removal, counting, type_said, is_said, mark_said, spoken_by, present, spoken, table_of}
use Rattle.ocsf_lists.specs.Given.{first_given}
use Rattle.ocsf_merge.specs.Fold.{over, nothing, after_entry, after_layer}
use Rattle.ocsf_merge.proofs.MergedLists.{merged-joins, joined, merged-first_of_each}
use Rattle.ocsf_merge.proofs.TablesByName.{entry_name, row_name, IsByName-table_of, at_name-table_of}

record MarkIs (b : Bool) (g : GivenMark) (old : Option GivenMark) : Type 0 where
  mark : (if b then g.mark else (unwrap_or old no_mark).mark) ≡ (unwrap_or (option_or (if b then Some g else None) old) no_mark).mark
  from : (if b then g.from else (unwrap_or old no_mark).from) ≡ (unwrap_or (option_or (if b then Some g else None) old) no_mark).from
  is_key : (if b then g.is_key else (unwrap_or old no_mark).is_key) ≡ (unwrap_or (option_or (if b then Some g else None) old) no_mark).is_key

mark_is : (b : Bool) (g : GivenMark) (old : Option GivenMark) → MarkIs b g old
mark_is true g old = record { mark = refl; from = refl; is_key = refl }
mark_is false g old = record { mark = refl; from = refl; is_key = refl }

type_from_is : (t : Option (List ℕ)) (f : List ℕ) (old : Option (List ℕ × List ℕ))
    → (if is_some t then f else option_map_or (λ (p : List ℕ × List ℕ). p.1) old []) ≡ option_map_or (λ (p : List ℕ × List ℕ). p.1) (option_or (option_map (λ x. (x, f)) t) old) []
type_from_is None f old = refl
type_from_is (Some x) f old = refl

-- the last entry, over what the ones before say
over_spoken : (a : List ℕ) (s : Spoken) (rest : List Spoken) → s.attr.name ≡ a → IsByKey s.attr.members → over s (spoken_by a rest) ≡ spoken_by a (s ∷ rest)
over_spoken a s rest name by_key =
    let after = spoken_by a (s ∷ rest) in
    let marks = mark_is (is_said s.attr.mark) (record { mark = s.attr.mark; from = s.mark_from; is_key = s.mark_is_key }) (first_given mark_said rest) in
    let type_from = type_from_is s.attr.type_name s.type_from (first_given type_said rest) in
    let members = merged-first_of_each (λ (m : EnumMember). m.key) s.attr.members (flat_map (λ (x : Spoken). x.attr.members) rest) by_key in
    λ i. record {
      attr = record {
        name = name i;
        removed = false;
        caption = after.attr.caption;
        description = after.attr.description;
        type_name = after.attr.type_name;
        is_array = after.attr.is_array;
        members = members i;
        sibling = after.attr.sibling;
        requirement = after.attr.requirement;
        mark = marks.mark i;
        group = after.attr.group;
      };
      type_from = type_from i;
      mark_from = marks.from i;
      mark_is_key = marks.is_key i;
    }

-- what a layer's entry makes of what was said
after_said : List ℕ → Option (Option Spoken) → Option Spoken → Option Spoken
after_said a None old = old
after_said a (Some None) old = None
after_said a (Some (Some s)) old = Some (over s (unwrap_or old (nothing a)))

last_first : {X Y : Type 0} (f : X → Option Y) (xs : List X) (x : X) → reverse (filter_map f (xs ++ x ∷ [])) ≡ cons_option (f x) (reverse (filter_map f xs))
last_first {X} {Y} f xs x =
    ap reverse (filter_map-append f xs (x ∷ []))
    ∙ reverse-append (filter_map f xs) (cons_option (f x) [])
    ∙ elim (f x) as (λ (o : Option Y). reverse (cons_option o []) ++ reverse (filter_map f xs) ≡ cons_option o (reverse (filter_map f xs))) [ None ↦ refl | Some y ↦ refl ]

-- an entry for the attribute, with its members by key
record IsEntry (a : List ℕ) (s : Spoken) : Type 0 where
  name : s.attr.name ≡ a
  members : IsByKey s.attr.members

over_present : (a : List ℕ) (s : Spoken) (rest : List Spoken) → IsEntry a s → Some (spoken_by a (s ∷ rest)) ≡ Some (over s (unwrap_or (present a rest) (nothing a)))
over_present a s [] is = ap Some (sym (over_spoken a s [] is.name is.members))
over_present a s (t ∷ rest) is = ap Some (sym (over_spoken a s (t ∷ rest) is.name is.members))

spoken-push : (a : List ℕ) (ls : List Layer) (l : Layer) → ((s : Spoken) → entry_of a l ≡ Some (Some s) → IsEntry a s)
    → spoken a (ls ++ l ∷ []) ≡ after_said a (entry_of a l) (spoken a ls)
unfolding after_said
spoken-push a ls l good =
    ap (λ es. present a (until_removal es)) (last_first (entry_of a) ls l)
    ∙ elim (entry_of a l) as (λ (o : Option (Option Spoken)). ((s : Spoken) → o ≡ Some (Some s) → IsEntry a s) → present a (until_removal (cons_option o (reverse (entries_for a ls)))) ≡ after_said a o (spoken a ls)) [
      | None ↦ λ g. refl
      | Some o ↦
          elim o as (λ (o : Option Spoken). ((s : Spoken) → Some o ≡ Some (Some s) → IsEntry a s) → present a (until_removal (o ∷ reverse (entries_for a ls))) ≡ after_said a (Some o) (spoken a ls)) [
            | None ↦ λ g. refl
            | Some s ↦ λ g. over_present a s (counting a ls) (g s refl)
          ]
    ] good

-- ---- the rows after a layer

keeps_entry : (l : Layer) (e : RawAttr) (old : Option Spoken) (new : Spoken) → after_entry l e old ≡ Some new → new.attr.name ≡ e.name
keeps_entry l e old new is =
    elim e.removed as (λ b. (if b then None else Some (over (given l e) (unwrap_or old (nothing e.name)))) ≡ Some new → new.attr.name ≡ e.name) [
      | true ↦ λ i. cc
      | false ↦ λ i. sym (ap (λ (o : Option Spoken). (unwrap_or o new).attr.name) i)
    ] is

-- what is found among entries has its members by key
found_by_key : (es : List RawAttr) (q : List ℕ) (e : RawAttr) → All (λ (x : RawAttr). IsByKey x.members) es → at_name entry_name q es ≡ Some e → IsByKey e.members
found_by_key [] q e all is = cc
found_by_key (x ∷ es) q e all is =
    elim (is_eq (text_cmp q x.name)) as (λ b. cond b (Some x) (at_name entry_name q es) ≡ Some e → IsByKey e.members) [
      | true ↦ λ i. subst (λ (y : RawAttr). IsByKey y.members) (ap (λ o. unwrap_or o x) i) (all zero x (omega arith))
      | false ↦ λ i. found_by_key es q e (λ k d h. all (suc k) d (omega arith)) i
    ] is

same_step : (l : Layer) (q : List ℕ) (old : Option Spoken) (o : Option RawAttr) → ((e : RawAttr) → o ≡ Some e → e.name ≡ q)
    → joined entry_name row_name (after_entry l) (keeps_entry l) o old ≡ after_said q (option_map (entry_said l) o) old
unfolding after_said
same_step l q old None named_q = refl
same_step l q old (Some e) named_q =
    elim e.removed as (λ b. (if b then None else Some (over (given l e) (unwrap_or old (nothing e.name)))) ≡ after_said q (Some (if b then None else Some (given l e))) old) [
      | true ↦ refl
      | false ↦ ap (λ (a : List ℕ). Some (over (given l e) (unwrap_or old (nothing a)))) (named_q e refl)
    ]

is_entry : (l : Layer) (q : List ℕ) (o : Option RawAttr) → ((e : RawAttr) → o ≡ Some e → e.name ≡ q) → ((e : RawAttr) → o ≡ Some e → IsByKey e.members)
    → (s : Spoken) → option_map (entry_said l) o ≡ Some (Some s) → IsEntry q s
is_entry l q None names by_key s is = cc
is_entry l q (Some e) names by_key s is =
    elim e.removed as (λ b. Some (if b then None else Some (given l e)) ≡ Some (Some s) → IsEntry q s) [
      | true ↦ λ i. cc
      | false ↦ λ i. subst (λ (t : Spoken). IsEntry q t) (ap (λ (p : Option (Option Spoken)). unwrap_or (unwrap_or p None) s) i) (record { name = names e refl; members = by_key e refl })
    ] is

-- the table of the layers becomes that of the layers with this one last
pub after_layer-table_of : (ls : List Layer) (l : Layer) → AreEntriesOrdered l.entries → after_layer l l.entries (table_of ls) ≡ table_of (ls ++ l ∷ [])
after_layer-table_of ls l ordered =
    let joins = merged-joins entry_name row_name (after_entry l) (keeps_entry l) l.entries ordered.0 in
    let before = IsByName-table_of ls in
    same_lists row_name (after_layer l l.entries (table_of ls)) (table_of (ls ++ l ∷ [])) (joins.by_name (table_of ls) before) (IsByName-table_of (ls ++ l ∷ []))
    (λ q.
    let o = at_name entry_name q l.entries in
    joins.finds q (table_of ls) before
    ∙ ap (joined entry_name row_name (after_entry l) (keeps_entry l) o) (at_name-table_of ls q)
    ∙ same_step l q (spoken q ls) o (λ e is. name-at_name entry_name q l.entries e is)
    ∙ sym (spoken-push q ls l (is_entry l q o (λ e is. name-at_name entry_name q l.entries e is) (λ e is. found_by_key l.entries q e ordered.1 is)))
    ∙ sym (at_name-table_of (ls ++ l ∷ []) q))
