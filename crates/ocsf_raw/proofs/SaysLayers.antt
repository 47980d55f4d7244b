-- The entries of item, profile and include files, and what items include.
use Rattle.std.proofs.Common.{◌≡◌, ℕ, List, [], Bool, true, false, cond, not, ◌&&◌, ◌||◌, Option, Some, None, refl, sym, ap, ap₂, ◌∙◌, subst, ◌⊎◌, inl, inr}
use Rattle.std.specs.Prelude.{codes, unwrap_or, IsSomeAnd}
use Rattle.std.specs.List.{filter_map}
use Rattle.std.specs.Option.{option_and_then}
use Rattle.std.proofs.lemmas.Option.{same_Some}
use Rattle.ocsf_tree.specs.declared.tree.Tree.{Tree, out-Tree}
use Rattle.ocsf_tree.specs.declared.tree.Tree.TheOpen.{Tree-F}
use Rattle.ocsf_tree.specs.declared.tree.Member.{Member}
use Rattle.ocsf_tree.specs.Lookup.{member_in, member_of, member_at, members_of, is_null}
use Rattle.ocsf_tree.specs.Valid.{IsValid}
use Rattle.ocsf_raw.specs.declared.attribute.Mark.{Mark}
use Rattle.ocsf_raw.specs.declared.attribute.Mark.TheVariants.{Unsaid, Cleared, Named}
use Rattle.ocsf_raw.specs.declared.attribute.RawAttr.{RawAttr}
use Rattle.ocsf_raw.specs.declared.what.What.TheVariants.{BadName, BadPath, NestedInclude}
use Rattle.ocsf_raw.specs.declared.wanted.Wanted.TheVariants.{Plain, Listed, Object, Refused}
use Rattle.ocsf_raw.specs.declared.wanted.Plain.TheVariants as plain
use Rattle.ocsf_raw.specs.declared.wanted.Listed.TheVariants as listed
use Rattle.ocsf_raw.specs.declared.wanted.Object.{Object as Objects}
use Rattle.ocsf_raw.specs.declared.wanted.Object.TheVariants as object
use Rattle.ocsf_raw.specs.Names.{is_name, is_reference}
use Rattle.ocsf_raw.specs.Forms.{is_include_path}
use Rattle.ocsf_tree.specs.Requirement.{requirement_named}
use Rattle.ocsf_raw.specs.Wanted.{mark_fault, includes_fault, some_object, entry_fault, object_fault, named_entry, member_wanted, include_key, is_include, has_null_entries, counts, entry_fields}
use Rattle.ocsf_raw.specs.Shape.{IsFaultless, names_of_object}
use Rattle.ocsf_raw.specs.Content.{enum_member, mark_of, mark_in, entry_named, entry, includes_of, includes_in}
use Rattle.ocsf_raw.specs.Says.{IsRequirement, IsIncludePath, IsIncludes, IsListOf, IsAbsent, IsGiven, is_layer_entry, IsMark, removal, SaysAttribute, SaysEntry, IsItemEntries, IsLayerEntries}
use Rattle.ocsf_raw.proofs.LeastParts.{same_bytes}
use Rattle.ocsf_raw.proofs.LeastTrees.{null_least, words_least}
use Rattle.ocsf_raw.proofs.Faultless.{plain_faultless, member_faultless}
use Rattle.ocsf_raw.proofs.Sorts.{text_read, text_sort, is_tested, name_sort, reference_sort, requirement_sort, flag_read, flag_sort, include_path_sort, zip_reads, listed_clean, listed_back}
use Rattle.ocsf_raw.proofs.Givens.{null_tree, IsCleanMember, absent_clean, given_reads, given_clean, given_back, IsListSort, list_in, IsValidMember, list_reads, list_clean, list_back, is_object, valid_at, AreClean, fields_faultless, field_clean}
use Rattle.ocsf_raw.proofs.EntryTables.{IsTable, entries_in, ArePassed, entries_read, entries_clean, entries_back}
use Rattle.ocsf_raw.proofs.SaysEntries.{requirement_is, enum_sort, enums_read, enums_back, named_is, named_clean}

-- ---- marks

mark_reads : (o : Option Tree) (m : Mark) → IsMark o m → m ≡ mark_in o
mark_reads None Unsaid h = refl
mark_reads None Cleared h = absurd h
mark_reads None (Named s) h = absurd h
mark_reads (Some t) Unsaid h = absurd h
mark_reads (Some t) Cleared h = sym (ap mark_of h)
mark_reads (Some t) (Named s) h = sym (ap mark_of h.0)

mark_clean : (o : Option Tree) (m : Mark) → IsMark o m → IsCleanMember (Plain plain.Mark) o
mark_clean None Unsaid h = absent_clean (Plain plain.Mark) None tt
mark_clean None Cleared h = absurd h
mark_clean None (Named s) h = absurd h
mark_clean (Some t) Unsaid h = absurd h
mark_clean (Some t) Cleared h = absent_clean (Plain plain.Mark) (Some t) h
mark_clean (Some t) (Named s) h = λ u at there.
    let same : t ≡ u = same_Some t u at in
    subst (IsFaultless (Plain plain.Mark)) same (plain_faultless plain.Mark t (ap mark_fault h.0 ∙ ap (λ b. cond b None (Some BadName)) h.1))

mark_back : (o : Option Tree) → IsCleanMember (Plain plain.Mark) o → IsMark o (mark_in o)
mark_back None clean = tt
mark_back (Some u) clean = go (out-Tree u) refl
  where
    words : (s : List ℕ) → out-Tree u ≡ Tree-F.Words s → mark_fault (Tree-F.Words s) ≡ None → IsMark (Some u) (mark_in (Some u))
    words s shown e =
        let found = is_tested is_reference BadName (Tree-F.Words s) e in
        let same : found.0 ≡ s = cc in
        subst (IsMark (Some u)) (sym (ap mark_of shown)) (shown, subst (λ n. is_reference n ≡ true) same found.2)

    fault : (x : Tree-F Tree Member) → out-Tree u ≡ x → is_null x ≡ false → mark_fault x ≡ None
    fault x shown e = ap mark_fault (sym shown) ∙ clean u refl (ap is_null shown ∙ e) []

    go : (x : Tree-F Tree Member) → out-Tree u ≡ x → IsMark (Some u) (mark_in (Some u))
    go Tree-F.Null shown = subst (IsMark (Some u)) (sym (ap mark_of shown)) shown
    go (Tree-F.Words s) shown = words s shown (fault (Tree-F.Words s) shown refl)
    go (Tree-F.Flag b) shown = let no = fault (Tree-F.Flag b) shown refl in cc
    go (Tree-F.Whole z) shown = let no = fault (Tree-F.Whole z) shown refl in cc
    go (Tree-F.List items) shown = let no = fault (Tree-F.List items) shown refl in cc
    go (Tree-F.Members ms) shown = let no = fault (Tree-F.Members ms) shown refl in cc

-- ---- entries

-- an entry, of a tree seen as it is
entry_seen : List ℕ → Tree-F Tree Member → RawAttr
entry_seen n x = record {
  name = n;
  removed = is_null x;
  caption = option_and_then text_read (member_of (codes "caption") x);
  description = option_and_then text_read (member_of (codes "description") x);
  type_name = option_and_then text_read (member_of (codes "type") x);
  is_array = option_and_then flag_read (member_of (codes "is_array") x);
  members = filter_map enum_member (unwrap_or (option_and_then (λ u. members_of (out-Tree u)) (member_of (codes "enum") x)) []);
  sibling = option_and_then text_read (member_of (codes "sibling") x);
  requirement = option_and_then requirement_named (option_and_then text_read (member_of (codes "requirement") x));
  mark = mark_in (member_of (codes "profile") x);
  group = option_and_then text_read (member_of (codes "group") x);
}

removal_is : (n : List ℕ) (t : Tree) → out-Tree t ≡ Tree-F.Null → entry_named n t ≡ removal n
unfolding entry_seen
removal_is n t e = ap (entry_seen n) e

attribute_reads : (n : List ℕ) (t : Tree) (y : RawAttr) → y.name ≡ n → SaysAttribute t y → y ≡ entry_named n t
attribute_reads n t y name r =
    let removed : y.removed ≡ is_null (out-Tree t) = r.removed ∙ sym (ap is_null r.object.1) in
    let caption = given_reads _ _ _ text_sort (member_at (codes "caption") t) y.caption r.caption in
    let description = given_reads _ _ _ text_sort (member_at (codes "description") t) y.description r.description in
    let type_name = given_reads _ _ _ reference_sort (member_at (codes "type") t) y.type_name r.type_name in
    let is_array = given_reads _ _ _ flag_sort (member_at (codes "is_array") t) y.is_array r.is_array in
    let members = enums_read t y.members r.members in
    let sibling = given_reads _ _ _ name_sort (member_at (codes "sibling") t) y.sibling r.sibling in
    let requirement = given_reads _ _ _ requirement_sort (member_at (codes "requirement") t) y.requirement r.requirement ∙ requirement_is (codes "requirement") t in
    let mark = mark_reads (member_at (codes "profile") t) y.mark r.mark in
    let group = given_reads _ _ _ text_sort (member_at (codes "group") t) y.group r.group in
    λ i. record {
      name = name i;
      removed = removed i;
      caption = caption i;
      description = description i;
      type_name = type_name i;
      is_array = is_array i;
      members = members i;
      sibling = sibling i;
      requirement = requirement i;
      mark = mark i;
      group = group i;
    }

entry_reads : (m : Member) (y : RawAttr) → SaysEntry m y → y ≡ entry_named m.name m.value
entry_reads m y r = elim r.said [ inl gone ↦ gone.1 ∙ sym (removal_is m.name m.value gone.0) | inr said ↦ attribute_reads m.name m.value y r.name said ]

attribute_clean : (t : Tree) (y : RawAttr) → SaysAttribute t y → IsFaultless (Object object.Entry) t
attribute_clean t y r =
    let clean : AreClean t entry_fields = (
      given_clean _ _ _ text_sort (member_at (codes "caption") t) y.caption r.caption,
      (
        given_clean _ _ _ text_sort (member_at (codes "description") t) y.description r.description,
        (
          list_clean _ _ _ enum_sort (member_at (codes "enum") t) y.members r.members,
          (
            given_clean _ _ _ text_sort (member_at (codes "group") t) y.group r.group,
            (
              given_clean _ _ _ flag_sort (member_at (codes "is_array") t) y.is_array r.is_array,
              (
                mark_clean (member_at (codes "profile") t) y.mark r.mark,
                (
                  given_clean _ _ _ requirement_sort (member_at (codes "requirement") t) y.requirement r.requirement,
                  (
                    given_clean _ _ _ name_sort (member_at (codes "sibling") t) y.sibling r.sibling,
                    (given_clean _ _ _ reference_sort (member_at (codes "type") t) y.type_name r.type_name, tt),
                  ),
                ),
              ),
            ),
          ),
        ),
      ),
    ) in
    fields_faultless object.Entry entry_fields t (λ n. refl) refl r.object.0 r.object.1 (ap entry_fault r.object.1) clean tt

entry_clean : (m : Member) (y : RawAttr) → SaysEntry m y → IsFaultless (Object object.Entry) m.value
entry_clean m y r =
    elim r.said [
      | inl gone ↦ λ p. (null_least (Object object.Entry) m.value (ap entry_fault gone.0) gone.0).none_before p tt
      | inr said ↦ attribute_clean m.value y said
    ]

attribute_back : (n : List ℕ) (t : Tree) (ms : List Member) → out-Tree t ≡ Tree-F.Members ms → IsValid t → IsFaultless (Object object.Entry) t → SaysAttribute t (entry_named n t)
attribute_back n t ms shown v faultless =
    let at = field_clean object.Entry entry_fields t (λ n. refl) refl ms shown faultless in
    record {
      object = (ms, shown);
      removed = ap is_null shown;
      caption = given_back _ _ _ text_sort (member_at (codes "caption") t) (at (codes "caption") (Plain plain.Text) refl);
      description = given_back _ _ _ text_sort (member_at (codes "description") t) (at (codes "description") (Plain plain.Text) refl);
      type_name = given_back _ _ _ reference_sort (member_at (codes "type") t) (at (codes "type") (Plain plain.Reference) refl);
      is_array = given_back _ _ _ flag_sort (member_at (codes "is_array") t) (at (codes "is_array") (Plain plain.Flag) refl);
      members = enums_back t v (at (codes "enum") (Object object.EnumMembers) refl);
      sibling = given_back _ _ _ name_sort (member_at (codes "sibling") t) (at (codes "sibling") (Plain plain.Name) refl);
      requirement = subst (IsGiven IsRequirement (member_at (codes "requirement") t)) (requirement_is (codes "requirement") t)
          (given_back _ _ _ requirement_sort (member_at (codes "requirement") t) (at (codes "requirement") (Plain plain.Requirement) refl));
      mark = mark_back (member_at (codes "profile") t) (at (codes "profile") (Plain plain.Mark) refl);
      group = given_back _ _ _ text_sort (member_at (codes "group") t) (at (codes "group") (Plain plain.Text) refl);
    }

entry_back : (m : Member) → is_name m.name ≡ true → IsValid m.value → IsFaultless (Object object.Entry) m.value → SaysEntry m (entry_named m.name m.value)
entry_back m named v faultless = record { named = named; name = refl; said = go (out-Tree m.value) refl }
  where
    fault : (x : Tree-F Tree Member) → out-Tree m.value ≡ x → entry_fault x ≡ None
    fault x shown = ap entry_fault (sym shown) ∙ faultless []

    go : (x : Tree-F Tree Member) → out-Tree m.value ≡ x
        → ((out-Tree m.value ≡ Tree-F.Null) × (entry_named m.name m.value ≡ removal m.name)) ⊎ SaysAttribute m.value (entry_named m.name m.value)
    go Tree-F.Null shown = inl (shown, removal_is m.name m.value shown)
    go (Tree-F.Members ms) shown = inr (attribute_back m.name m.value ms shown v faultless)
    go (Tree-F.Flag b) shown = let no = fault (Tree-F.Flag b) shown in cc
    go (Tree-F.Whole z) shown = let no = fault (Tree-F.Whole z) shown in cc
    go (Tree-F.Words s) shown = let no = fault (Tree-F.Words s) shown in cc
    go (Tree-F.List items) shown = let no = fault (Tree-F.List items) shown in cc

-- ---- the objects that hold entries

-- `$include` is no name
not_include : (n : List ℕ) → is_name n ≡ true → is_include n ≡ false
not_include n h = go (is_include n) refl
  where
    go : (b : Bool) → is_include n ≡ b → is_include n ≡ false
    go false e = e
    go true e =
        let same : n ≡ include_key = same_bytes n include_key e in
        let no : false ≡ true = subst (λ k. is_name k ≡ true) same h in
        cc

given_entry : (m : Member) → entry m ≡ cond (is_layer_entry m) (Some (entry_named m.name m.value)) None
given_entry m = go (is_include m.name) (entry_named m.name m.value)
  where
    go : (b : Bool) (e : RawAttr) → cond b None (Some e) ≡ cond (not b) (Some e) None
    go true e = refl
    go false e = refl

module _ (o : Objects) (plain : (x : Tree-F Tree Member) → object_fault o x ≡ some_object x) (free : (ms : List Member) → names_of_object o ms ≡ []) (null_too : has_null_entries o ≡ true)
    (wanted : (n : List ℕ) → is_include n ≡ false → member_wanted o n ≡ named_entry object.Entry n) where
  is_read : (m : Member) → is_include m.name ≡ false → counts o m.name (out-Tree m.value) ≡ true
  is_read m e = ap₂ (λ x y. not (is_null (out-Tree m.value)) || (x && not y)) null_too e ∙ either (not (is_null (out-Tree m.value)))
    where
      either : (b : Bool) → (b || true) ≡ true
      either true = refl
      either false = refl

  pub layer_table : IsTable o is_layer_entry entry (λ m. entry_named m.name m.value) SaysEntry
  layer_table = record {
    plain = plain;
    free = free;
    gives = given_entry;
    reads = entry_reads;
    clean = λ m y r w read e.
        let other = not_include m.name r.named in
        subst (λ v. IsFaultless v m.value) (named_is object.Entry m.name w r.named (sym (wanted m.name other) ∙ e)) (entry_clean m y r);
    back = λ m c v h.
        let other = not_both (is_include m.name) c in
        let found = named_clean object.Entry m.name m.value (λ w e. h w (is_read m other) (wanted m.name other ∙ e)) in
        entry_back m found.0 v found.1;
  }
    where
      not_both : (b : Bool) → not b ≡ true → b ≡ false
      not_both false e = refl
      not_both true e = cc

-- ---- what is included

abbrev pub includes_read : Tree → List (List ℕ)
includes_read t = includes_of (out-Tree t)

is_path_or_list : (x : Tree-F Tree Member) → includes_fault x ≡ None → ((s : List ℕ) × (x ≡ Tree-F.Words s) × (is_include_path s ≡ true)) ⊎ ((items : List Tree) × (x ≡ Tree-F.List items))
is_path_or_list (Tree-F.Words s) e = inl (s, refl, passed (is_include_path s) e)
  where
    passed : (b : Bool) → cond b None (Some BadPath) ≡ None → b ≡ true
    passed true e = refl
    passed false e = cc
is_path_or_list (Tree-F.List items) e = inr (items, refl)
is_path_or_list Tree-F.Null e = cc
is_path_or_list (Tree-F.Flag b) e = cc
is_path_or_list (Tree-F.Whole z) e = cc
is_path_or_list (Tree-F.Members ms) e = cc

pub includes_sort : IsListSort (Listed listed.Includes) includes_read IsIncludes
includes_sort = record {
  reads = λ t xs h.
      elim h [
        | inl one ↦ one.2 ∙ sym (ap includes_of one.1.0)
        | inr more ↦ sym (zip_reads (Plain plain.IncludePath) IsIncludePath include_path_sort more.0 xs more.2) ∙ sym (ap includes_of more.1)
      ];
  clean = λ t xs h.
      elim h [
        | inl one ↦ λ p. (words_least (Listed listed.Includes) t (ap includes_fault one.1.0 ∙ ap (λ b. cond b None (Some BadPath)) one.1.1) one.0 one.1.0).none_before p tt
        | inr more ↦ listed_clean (Plain plain.IncludePath) IsIncludePath include_path_sort listed.Includes refl t xs (ap includes_fault more.1) more
      ];
  back = λ t v clean.
      elim (is_path_or_list (out-Tree t) (clean [])) [
        | inl one ↦ inl (one.0, (one.1, one.2), ap includes_of one.1)
        | inr more ↦
            let found = listed_back (Plain plain.IncludePath) IsIncludePath include_path_sort listed.Includes refl t more.0 more.1 clean in
            let read : found.0 ≡ includes_of (out-Tree t) =
            sym (zip_reads (Plain plain.IncludePath) IsIncludePath include_path_sort found.1.0 found.0 found.1.2) ∙ sym (ap includes_of found.1.1) in
            inr (subst (IsListOf IsIncludePath t) read found.1)
      ];
  none = λ t e. ap includes_of e;
}

-- ---- entries without `$include`

key_of_include : (n : List ℕ) → not (is_include n) ≡ false → n ≡ include_key
key_of_include n e = same_bytes n include_key (is_both (is_include n) e)
  where
    is_both : (b : Bool) → not b ≡ false → b ≡ true
    is_both true e = refl
    is_both false e = cc

layers_wanted : (n : List ℕ) → is_include n ≡ false → member_wanted object.LayerEntries n ≡ named_entry object.Entry n
layers_wanted n e = ap (λ b. cond b (Some (Refused NestedInclude)) (named_entry object.Entry n)) e

pub layers_table : IsTable object.LayerEntries is_layer_entry entry (λ m. entry_named m.name m.value) SaysEntry
layers_table = layer_table object.LayerEntries (λ x. refl) (λ ms. refl) refl layers_wanted

abbrev pub layers_read : Tree → List RawAttr
layers_read = entries_in object.LayerEntries is_layer_entry entry (λ m. entry_named m.name m.value) SaysEntry layers_table

no_include : (t : Tree) (ms : List Member) → out-Tree t ≡ Tree-F.Members ms → IsFaultless (Object object.LayerEntries) t → IsAbsent (member_at include_key t)
no_include t ms shown clean = go (member_at include_key t) refl
  where
    go : (o : Option Tree) → member_at include_key t ≡ o → IsAbsent o
    go None e = tt
    go (Some u) e = null (is_null (out-Tree u)) refl
      where
        null : (b : Bool) → is_null (out-Tree u) ≡ b → out-Tree u ≡ Tree-F.Null
        null true n = null_tree (out-Tree u) n
        null false n =
            let bad : Some NestedInclude ≡ None =
            member_faultless object.LayerEntries t ms shown clean include_key u (Refused NestedInclude) (sym (ap (member_of include_key) shown) ∙ e) (ap (λ b. not b || false) n) refl [] in
            cc

pub layers_sort : IsListSort (Object object.LayerEntries) layers_read IsLayerEntries
layers_sort = record {
  reads = λ t xs h. entries_read object.LayerEntries is_layer_entry entry (λ m. entry_named m.name m.value) SaysEntry layers_table t xs h.1;
  clean = λ t xs h.
      let passed : ArePassed object.LayerEntries is_layer_entry entry (λ m. entry_named m.name m.value) SaysEntry layers_table h.1.0 = λ n u found e w read wanted.
      let key = key_of_include n e in
      let absent : IsAbsent (Some u) = subst IsAbsent (ap (member_of include_key) h.1.1 ∙ subst (λ k. member_in k h.1.0 ≡ Some u) key found) h.0 in
      let no : false ≡ true = sym (ap₂ (λ x y. not (is_null x) || (true && not (is_include y))) absent key) ∙ read in
      cc in
      entries_clean object.LayerEntries is_layer_entry entry (λ m. entry_named m.name m.value) SaysEntry layers_table t xs h.1 passed;
  back = λ t v clean.
      let found = is_object (out-Tree t) (clean []) in
      (no_include t found.0 found.1 clean, entries_back object.LayerEntries is_layer_entry entry (λ m. entry_named m.name m.value) SaysEntry layers_table t v clean);
  none = λ t e. ap (λ x. filter_map entry (unwrap_or (members_of x) [])) e;
}

-- ---- entries with `$include`

items_wanted : (n : List ℕ) → is_include n ≡ false → member_wanted object.ItemEntries n ≡ named_entry object.Entry n
items_wanted n e = ap (λ b. cond b (Some (Listed listed.Includes)) (named_entry object.Entry n)) e

pub items_table : IsTable object.ItemEntries is_layer_entry entry (λ m. entry_named m.name m.value) SaysEntry
items_table = layer_table object.ItemEntries (λ x. refl) (λ ms. refl) refl items_wanted

abbrev pub items_read : Tree → List RawAttr
items_read = entries_in object.ItemEntries is_layer_entry entry (λ m. entry_named m.name m.value) SaysEntry items_table

item_entries_clean : (t : Tree) (paths : List (List ℕ)) (xs : List RawAttr) → IsItemEntries t paths xs → IsFaultless (Object object.ItemEntries) t
item_entries_clean t paths xs h =
    entries_clean object.ItemEntries is_layer_entry entry (λ m. entry_named m.name m.value) SaysEntry items_table t xs h.1 passed
  where
    passed : ArePassed object.ItemEntries is_layer_entry entry (λ m. entry_named m.name m.value) SaysEntry items_table h.1.0
    passed n u found e w read wanted =
        let key = key_of_include n e in
        let here : member_at include_key t ≡ Some u = ap (member_of include_key) h.1.1 ∙ subst (λ k. member_in k h.1.0 ≡ Some u) key found in
        let there : is_null (out-Tree u) ≡ false = not_null (is_null (out-Tree u)) (sym (ap (λ k. not (is_null (out-Tree u)) || (true && not (is_include k))) key) ∙ read) in
        let kind : Listed listed.Includes ≡ w = same_Some (Listed listed.Includes) w (sym (ap (λ k. member_wanted object.ItemEntries k) key) ∙ wanted) in
        subst (λ v. IsFaultless v u) kind (list_clean _ _ _ includes_sort (member_at include_key t) paths h.0 u here there)
      where
        not_null : (b : Bool) → (not b || false) ≡ true → b ≡ false
        not_null false e = refl
        not_null true e = cc

item_entries_back : (t : Tree) → IsValid t → IsFaultless (Object object.ItemEntries) t → IsItemEntries t (list_in includes_read (member_at include_key t)) (items_read t)
item_entries_back t v clean =
    let found = is_object (out-Tree t) (clean []) in
    let at : IsCleanMember (Listed listed.Includes) (member_at include_key t) = λ u e there.
    member_faultless object.ItemEntries t found.0 found.1 clean include_key u (Listed listed.Includes) (sym (ap (member_of include_key) found.1) ∙ e) (ap (λ b. not b || false) there) refl in (
      list_back _ _ _ includes_sort (member_at include_key t) (valid_at t v include_key) at,
      entries_back object.ItemEntries is_layer_entry entry (λ m. entry_named m.name m.value) SaysEntry items_table t v clean,
    )

-- what the member `attributes` of an item says
abbrev pub AreItemEntries : Option Tree → List (List ℕ) → List RawAttr → Type 0
AreItemEntries o paths xs = (IsAbsent o × (paths ≡ []) × (xs ≡ [])) ⊎ IsSomeAnd o (λ u. IsItemEntries u paths xs)

includes_are : (o : Option Tree) → list_in includes_read o ≡ includes_in o
includes_are None = refl
includes_are (Some t) = refl

-- what is read there
abbrev pub paths_at : Option Tree → List (List ℕ)
paths_at o = includes_in (option_and_then (member_at include_key) o)

pub item_entries_reads : (o : Option Tree) (paths : List (List ℕ)) (xs : List RawAttr) → AreItemEntries o paths xs → (paths ≡ paths_at o) × (xs ≡ list_in items_read o)
item_entries_reads None paths xs h = elim h [ inl none ↦ (none.1, none.2) | inr some ↦ absurd some ]
item_entries_reads (Some u) paths xs h =
    elim h [
      | inl none ↦ (none.1 ∙ sym (ap (λ x. includes_in (member_of include_key x)) none.0), none.2 ∙ sym (ap (λ x. filter_map entry (unwrap_or (members_of x) [])) none.0))
      | inr some ↦ (
        list_reads _ _ _ includes_sort (member_at include_key u) paths some.0 ∙ includes_are (member_at include_key u),
        entries_read object.ItemEntries is_layer_entry entry (λ m. entry_named m.name m.value) SaysEntry items_table u xs some.1,
      )
    ]

some_items_clean : (o : Option Tree) (paths : List (List ℕ)) (xs : List RawAttr) → IsSomeAnd o (λ u. IsItemEntries u paths xs) → IsCleanMember (Object object.ItemEntries) o
some_items_clean None paths xs h = absurd h
some_items_clean (Some t) paths xs h = λ u at there.
    let same : t ≡ u = same_Some t u at in
    subst (IsFaultless (Object object.ItemEntries)) same (item_entries_clean t paths xs h)

pub items_clean : (o : Option Tree) (paths : List (List ℕ)) (xs : List RawAttr) → AreItemEntries o paths xs → IsCleanMember (Object object.ItemEntries) o
items_clean o paths xs h = elim h [ inl none ↦ absent_clean (Object object.ItemEntries) o none.0 | inr some ↦ some_items_clean o paths xs some ]

pub items_back : (o : Option Tree) → IsValidMember o → IsCleanMember (Object object.ItemEntries) o → AreItemEntries o (paths_at o) (list_in items_read o)
items_back None v clean = inl (tt, refl, refl)
items_back (Some u) v clean = go (is_null (out-Tree u)) refl
  where
    go : (b : Bool) → is_null (out-Tree u) ≡ b → AreItemEntries (Some u) (paths_at (Some u)) (items_read u)
    go true e =
        let null = null_tree (out-Tree u) e in
        inl (null, ap (λ x. includes_in (member_of include_key x)) null, ap (λ x. filter_map entry (unwrap_or (members_of x) [])) null)
    go false e =
        inr (subst (λ ps. IsItemEntries u ps (items_read u)) (includes_are (member_at include_key u)) (item_entries_back u (v u refl) (clean u refl e)))
