-- The entries of files: enumerations, attributes, categories and types.
use Rattle.std.proofs.Common.{◌≡◌, ℕ, ◌^◌, List, [], map, Bool, true, false, cond, not, ◌&&◌, ◌||◌, Option, Some, None, refl, sym, ap, ap₂, ◌∙◌, subst, lit<}
use Rattle.std.specs.Prelude.{codes, unwrap_or}
use Rattle.std.specs.List.{filter_map}
use Rattle.std.specs.Option.{option_and_then}
use Rattle.std.proofs.lemmas.Bool.{and_parts}
use Rattle.std.proofs.lemmas.Option.{same_Some}
use Rattle.ocsf_tree.specs.declared.tree.Tree.{Tree, out-Tree}
use Rattle.ocsf_tree.specs.declared.tree.Tree.TheOpen.{Tree-F}
use Rattle.ocsf_tree.specs.declared.tree.Member.{Member}
use Rattle.ocsf_tree.specs.declared.attribute.EnumMember.{EnumMember}
use Rattle.ocsf_tree.specs.Lookup.{member_at, members_of, text_at, is_null}
use Rattle.ocsf_tree.specs.Valid.{IsValid}
use Rattle.ocsf_raw.specs.declared.dictionary.DictEntry.{DictEntry}
use Rattle.ocsf_raw.specs.declared.dictionary.TypeEntry.{TypeEntry}
use Rattle.ocsf_raw.specs.declared.files.CategoryEntry.{CategoryEntry}
use Rattle.ocsf_raw.specs.declared.what.What.TheVariants.{BadName}
use Rattle.ocsf_raw.specs.declared.wanted.Wanted.{Wanted}
use Rattle.ocsf_raw.specs.declared.wanted.Wanted.TheVariants.{Plain, Listed, Object, Refused}
use Rattle.ocsf_raw.specs.declared.wanted.Plain.TheVariants as plain
use Rattle.ocsf_raw.specs.declared.wanted.Listed.TheVariants as listed
use Rattle.ocsf_raw.specs.declared.wanted.Object.{Object as Objects}
use Rattle.ocsf_raw.specs.declared.wanted.Object.TheVariants as object
use Rattle.ocsf_raw.specs.Names.{is_name}
use Rattle.ocsf_tree.specs.Requirement.{requirement_named}
use Rattle.ocsf_raw.specs.Wanted.{some_object, object_fault, named_entry, member_wanted, is_include, has_null_entries, counts, enum_member_fields, dictionary_entry_fields, type_fields, category_fields, whole_in}
use Rattle.ocsf_raw.specs.Shape.{IsFaultless, names_of_object}
use Rattle.ocsf_raw.specs.Content.{requirement_at, span_at, whole_pair, enum_member, enum_members, dictionary_entry_named, listed_attribute, unless_null, type_named, listed_type, category_named, listed_category}
use Rattle.ocsf_raw.specs.Says.{IsWholeIn, IsRange, IsObjectOf, IsGiven, IsGivenList, is_entry, is_enum_entry, SaysEnumMember, IsEnum, SaysDictEntry, SaysType, SaysCategory}
use Rattle.ocsf_raw.proofs.Sorts.{IsSort, text_read, text_sort, name_sort, reference_sort, pattern_sort, requirement_read, flag_sort, natural_read, whole_sort, list_read, values_sort, range_read, range_sort}
use Rattle.ocsf_raw.proofs.Givens.{IsCleanMember, given_reads, given_clean, given_there, given_back, wanted_or, IsListSort, list_in, list_reads, list_clean, list_back, is_object, valid_at, AreClean, fields_faultless, field_clean, needed_there}
use Rattle.ocsf_raw.proofs.EntryTables.{IsCleanEntry, IsTable, entries_in, table_sort}

-- ---- what is read in two steps

and_then_twice : {A B C : Type 0} (f : B → Option C) (g : A → Option B) (o : Option A) → option_and_then (λ x. option_and_then f (g x)) o ≡ option_and_then f (option_and_then g o)
and_then_twice f g None = refl
and_then_twice f g (Some x) = refl

pub requirement_is : (n : List ℕ) (t : Tree) → option_and_then requirement_read (member_at n t) ≡ requirement_at n t
requirement_is n t = and_then_twice requirement_named text_read (member_at n t)

span_is : (n : List ℕ) (t : Tree) → option_and_then range_read (member_at n t) ≡ span_at n t
span_is n t = and_then_twice (λ items. whole_pair (map out-Tree items)) list_read (member_at n t)

pub listed_in : {B : Type 0} (entry : Member → Option B) (o : Option Tree)
    → list_in (λ t. filter_map entry (unwrap_or (members_of (out-Tree t)) [])) o ≡ filter_map entry (unwrap_or (option_and_then (λ u. members_of (out-Tree u)) o) [])
listed_in entry None = refl
listed_in entry (Some t) = refl

-- ---- tests

second_of : {A : Type 0} (b : Bool) (x y : A) → cond b None (Some x) ≡ Some y → x ≡ y
second_of false x y e = same_Some x y e
second_of true x y e = cc

not_both : (b : Bool) → not b ≡ true → b ≡ false
not_both false e = refl
not_both true e = cc

is_both : (b : Bool) → not b ≡ false → b ≡ true
is_both true e = refl
is_both false e = cc

-- ---- enumerations

enum_given : (m : Member) → enum_member m ≡ cond (is_enum_entry m) (Some (record { key = m.name; caption = unwrap_or (text_at (codes "caption") m.value) m.name; description = text_at (codes "description") m.value })) None
enum_given m = go (is_include m.name) (is_null (out-Tree m.value)) _
  where
    go : (a b : Bool) (e : EnumMember) → cond (a || b) None (Some e) ≡ cond (not a && not b) (Some e) None
    go true true e = refl
    go true false e = refl
    go false true e = refl
    go false false e = refl

abbrev enum_made : Member → EnumMember
enum_made m = record { key = m.name; caption = unwrap_or (text_at (codes "caption") m.value) m.name; description = text_at (codes "description") m.value }

pub enum_table : IsTable object.EnumMembers is_enum_entry enum_member enum_made SaysEnumMember
enum_table = record {
  plain = λ x. refl;
  free = λ ms. refl;
  gives = enum_given;
  reads = λ m y r.
      let caption : y.caption ≡ unwrap_or (text_at (codes "caption") m.value) m.name =
      r.caption.2 ∙ ap (λ o. unwrap_or o m.name) (given_reads _ _ _ text_sort (member_at (codes "caption") m.value) r.caption.0 r.caption.1) in
      let description = given_reads _ _ _ text_sort (member_at (codes "description") m.value) y.description r.description in
      λ i. record { key = r.key i; caption = caption i; description = description i };
  clean = λ m y r w read wanted.
      let kind = second_of (is_include m.name) (Object object.EnumMember) w wanted in
      let clean : AreClean m.value enum_member_fields = (
        given_clean _ _ _ text_sort (member_at (codes "caption") m.value) r.caption.0 r.caption.1,
        (given_clean _ _ _ text_sort (member_at (codes "description") m.value) y.description r.description, tt),
      ) in
      subst (λ v. IsFaultless v m.value) kind
      (fields_faultless object.EnumMember enum_member_fields m.value (λ n. refl) refl r.object.0 r.object.1 (ap some_object r.object.1) clean tt);
  back = λ m c v clean.
      let parts = and_parts (not (is_include m.name)) (not (is_null (out-Tree m.value))) c in
      let read : counts object.EnumMembers m.name (out-Tree m.value) ≡ true = ap (λ b. b || (false && not (is_include m.name))) parts.1 in
      let wanted : member_wanted object.EnumMembers m.name ≡ Some (Object object.EnumMember) = ap (λ b. cond b None (Some (Object object.EnumMember))) (not_both (is_include m.name) parts.0) in
      let faultless = clean (Object object.EnumMember) read wanted in
      let found = is_object (out-Tree m.value) (faultless []) in
      let at = field_clean object.EnumMember enum_member_fields m.value (λ n. refl) refl found.0 found.1 faultless in
      record {
        object = found;
        key = refl;
        caption = (text_at (codes "caption") m.value, given_back _ _ _ text_sort (member_at (codes "caption") m.value) (at (codes "caption") (Plain plain.Text) refl), refl);
        description = given_back _ _ _ text_sort (member_at (codes "description") m.value) (at (codes "description") (Plain plain.Text) refl);
      };
}

enum_passes : (m : Member) → is_enum_entry m ≡ false → IsCleanEntry object.EnumMembers m
enum_passes m e w read wanted = go (is_include m.name) (is_null (out-Tree m.value)) e read wanted
  where
    go : (a b : Bool) → (not a && not b) ≡ false → (not b || (false && not a)) ≡ true → cond a None (Some (Object object.EnumMember)) ≡ Some w → IsFaultless w m.value
    go true b e read wanted = cc
    go false true e read wanted = cc
    go false false e read wanted = cc

pub enum_sort : IsListSort (Object object.EnumMembers) (entries_in object.EnumMembers is_enum_entry enum_member enum_made SaysEnumMember enum_table) IsEnum
enum_sort = table_sort object.EnumMembers is_enum_entry enum_member enum_made SaysEnumMember enum_table enum_passes

pub enums_read : (t : Tree) (xs : List EnumMember) → IsGivenList IsEnum (member_at (codes "enum") t) xs → xs ≡ enum_members t
enums_read t xs h = list_reads _ _ _ enum_sort (member_at (codes "enum") t) xs h ∙ listed_in enum_member (member_at (codes "enum") t)

pub enums_back : (t : Tree) → IsValid t → IsCleanMember (Object object.EnumMembers) (member_at (codes "enum") t) → IsGivenList IsEnum (member_at (codes "enum") t) (enum_members t)
enums_back t v clean =
    subst (IsGivenList IsEnum (member_at (codes "enum") t)) (listed_in enum_member (member_at (codes "enum") t))
    (list_back _ _ _ enum_sort (member_at (codes "enum") t) (valid_at t v (codes "enum")) clean)

-- ---- names that lead to objects

pub named_is : (kind : Objects) (n : List ℕ) (w : Wanted) → is_name n ≡ true → named_entry kind n ≡ Some w → Object kind ≡ w
named_is kind n w h e = same_Some (Object kind) w (sym (ap (λ b. cond b (Some (Object kind)) (Some (Refused BadName))) h) ∙ e)

pub named_clean : (kind : Objects) (n : List ℕ) (u : Tree) → ((w : Wanted) → named_entry kind n ≡ Some w → IsFaultless w u) → (is_name n ≡ true) × IsFaultless (Object kind) u
named_clean kind n u clean = go (is_name n) refl
  where
    go : (b : Bool) → is_name n ≡ b → (is_name n ≡ true) × IsFaultless (Object kind) u
    go true e = (e, clean (Object kind) (ap (λ b. cond b (Some (Object kind)) (Some (Refused BadName))) e))
    go false e =
        let bad : Some BadName ≡ None = clean (Refused BadName) (ap (λ b. cond b (Some (Object kind)) (Some (Refused BadName))) e) [] in
        cc

given_unless : {A : Type 0} (t : Tree) (x : A) → unless_null t x ≡ cond (not (is_null (out-Tree t))) (Some x) None
given_unless t x = go (is_null (out-Tree t))
  where
    go : (b : Bool) → cond b None (Some x) ≡ cond (not b) (Some x) None
    go true = refl
    go false = refl

module _ {B : Type 0} (o kind : Objects) (make : Member → B) (R : Member → B → Type 0)
    (plain : (x : Tree-F Tree Member) → object_fault o x ≡ some_object x) (free : (ms : List Member) → names_of_object o ms ≡ []) (no_null : has_null_entries o ≡ false)
    (wanted : (n : List ℕ) → member_wanted o n ≡ named_entry kind n)
    (reads : (m : Member) (y : B) → R m y → y ≡ make m) (clean : (m : Member) (y : B) → R m y → (is_name m.name ≡ true) × IsFaultless (Object kind) m.value)
    (back : (m : Member) → is_name m.name ≡ true → IsValid m.value → IsFaultless (Object kind) m.value → R m (make m)) where
  is_counted : (m : Member) (b : Bool) → is_null (out-Tree m.value) ≡ b → counts o m.name (out-Tree m.value) ≡ not b
  is_counted m b e = ap₂ (λ x y. not x || (y && not (is_include m.name))) e no_null ∙ same b
    where
      same : (b : Bool) → (not b || false) ≡ not b
      same true = refl
      same false = refl

  pub named_table : IsTable o is_entry (λ m. unless_null m.value (make m)) make R
  named_table = record {
    plain = plain;
    free = free;
    gives = λ m. given_unless m.value (make m);
    reads = reads;
    clean = λ m y r w read e.
        let found = clean m y r in
        subst (λ v. IsFaultless v m.value) (named_is kind m.name w found.0 (sym (wanted m.name) ∙ e)) found.1;
    back = λ m c v h.
        let found = named_clean kind m.name m.value (λ w e. h w (is_counted m false (not_both (is_null (out-Tree m.value)) c)) (wanted m.name ∙ e)) in
        back m found.0 v found.1;
  }

  pub named_sort : IsListSort (Object o) (entries_in o is_entry (λ m. unless_null m.value (make m)) make R named_table) (IsObjectOf is_entry R)
  named_sort = table_sort o is_entry (λ m. unless_null m.value (make m)) make R named_table
      (λ m e w read wanted. let no : false ≡ true = sym (is_counted m true (is_both (is_null (out-Tree m.value)) e)) ∙ read in cc)

-- ---- categories

category_clean : (m : Member) (y : CategoryEntry) → SaysCategory m y → (is_name m.name ≡ true) × IsFaultless (Object object.Category) m.value
category_clean m y r =
    let clean : AreClean m.value category_fields = (
      given_clean _ _ _ text_sort (member_at (codes "caption") m.value) y.caption r.caption,
      (
        given_clean _ _ _ text_sort (member_at (codes "description") m.value) y.description r.description,
        (given_clean _ _ _ (whole_sort 0 99 (2 ^ 32) (lit< tt)) (member_at (codes "uid") m.value) (Some y.uid) r.uid, tt),
      ),
    ) in (
      r.named,
      fields_faultless object.Category category_fields m.value (λ n. refl) refl r.object.0 r.object.1 (ap some_object r.object.1) clean
          (given_there _ _ _ (whole_sort 0 99 (2 ^ 32) (lit< tt)) (member_at (codes "uid") m.value) y.uid r.uid, tt),
    )

category_reads : (m : Member) (y : CategoryEntry) → SaysCategory m y → y ≡ category_named m.name m.value
category_reads m y r =
    let caption = given_reads _ _ _ text_sort (member_at (codes "caption") m.value) y.caption r.caption in
    let description = given_reads _ _ _ text_sort (member_at (codes "description") m.value) y.description r.description in
    let uid = ap (λ o. unwrap_or o 0) (given_reads _ _ _ (whole_sort 0 99 (2 ^ 32) (lit< tt)) (member_at (codes "uid") m.value) (Some y.uid) r.uid) in
    λ i. record { name = r.name i; caption = caption i; description = description i; uid = uid i }

category_back : (m : Member) → is_name m.name ≡ true → IsValid m.value → IsFaultless (Object object.Category) m.value → SaysCategory m (category_named m.name m.value)
category_back m named v faultless =
    let found = is_object (out-Tree m.value) (faultless []) in
    let at = field_clean object.Category category_fields m.value (λ n. refl) refl found.0 found.1 faultless in
    let needed = needed_there object.Category category_fields m.value (λ n. refl) refl found.0 found.1 faultless (codes "uid") refl in
    record {
      named = named;
      object = found;
      name = refl;
      caption = given_back _ _ _ text_sort (member_at (codes "caption") m.value) (at (codes "caption") (Plain plain.Text) refl);
      description = given_back _ _ _ text_sort (member_at (codes "description") m.value) (at (codes "description") (Plain plain.Text) refl);
      uid = wanted_or _ _ _ (whole_sort 0 99 (2 ^ 32) (lit< tt)) (member_at (codes "uid") m.value) 0 (at (codes "uid") (whole_in 0 99) refl) needed;
    }

pub category_table : IsTable object.Categories is_entry listed_category (λ m. category_named m.name m.value) SaysCategory
category_table = named_table object.Categories object.Category (λ m. category_named m.name m.value) SaysCategory (λ x. refl) (λ ms. refl) refl (λ n. refl) category_reads category_clean category_back

pub categories_sort : IsListSort (Object object.Categories) (entries_in object.Categories is_entry listed_category (λ m. category_named m.name m.value) SaysCategory category_table) (IsObjectOf is_entry SaysCategory)
categories_sort = named_sort object.Categories object.Category (λ m. category_named m.name m.value) SaysCategory (λ x. refl) (λ ms. refl) refl (λ n. refl) category_reads category_clean category_back

-- ---- attributes of a dictionary

dictionary_entry_clean : (m : Member) (y : DictEntry) → SaysDictEntry m y → (is_name m.name ≡ true) × IsFaultless (Object object.DictionaryEntry) m.value
dictionary_entry_clean m y r =
    let clean : AreClean m.value dictionary_entry_fields = (
      given_clean _ _ _ text_sort (member_at (codes "caption") m.value) y.caption r.caption,
      (
        given_clean _ _ _ text_sort (member_at (codes "description") m.value) y.description r.description,
        (
          list_clean _ _ _ enum_sort (member_at (codes "enum") m.value) y.members r.members,
          (
            given_clean _ _ _ flag_sort (member_at (codes "is_array") m.value) y.is_array r.is_array,
            (
              given_clean _ _ _ name_sort (member_at (codes "sibling") m.value) y.sibling r.sibling,
              (given_clean _ _ _ reference_sort (member_at (codes "type") m.value) y.type_name r.type_name, tt),
            ),
          ),
        ),
      ),
    ) in
    (r.named, fields_faultless object.DictionaryEntry dictionary_entry_fields m.value (λ n. refl) refl r.object.0 r.object.1 (ap some_object r.object.1) clean tt)

dictionary_entry_reads : (m : Member) (y : DictEntry) → SaysDictEntry m y → y ≡ dictionary_entry_named m.name m.value
dictionary_entry_reads m y r =
    let caption = given_reads _ _ _ text_sort (member_at (codes "caption") m.value) y.caption r.caption in
    let description = given_reads _ _ _ text_sort (member_at (codes "description") m.value) y.description r.description in
    let type_name = given_reads _ _ _ reference_sort (member_at (codes "type") m.value) y.type_name r.type_name in
    let is_array = given_reads _ _ _ flag_sort (member_at (codes "is_array") m.value) y.is_array r.is_array in
    let members = enums_read m.value y.members r.members in
    let sibling = given_reads _ _ _ name_sort (member_at (codes "sibling") m.value) y.sibling r.sibling in
    λ i. record { name = r.name i; caption = caption i; description = description i; type_name = type_name i; is_array = is_array i; members = members i; sibling = sibling i }

dictionary_entry_back : (m : Member) → is_name m.name ≡ true → IsValid m.value → IsFaultless (Object object.DictionaryEntry) m.value → SaysDictEntry m (dictionary_entry_named m.name m.value)
dictionary_entry_back m named v faultless =
    let found = is_object (out-Tree m.value) (faultless []) in
    let at = field_clean object.DictionaryEntry dictionary_entry_fields m.value (λ n. refl) refl found.0 found.1 faultless in
    record {
      named = named;
      object = found;
      name = refl;
      caption = given_back _ _ _ text_sort (member_at (codes "caption") m.value) (at (codes "caption") (Plain plain.Text) refl);
      description = given_back _ _ _ text_sort (member_at (codes "description") m.value) (at (codes "description") (Plain plain.Text) refl);
      type_name = given_back _ _ _ reference_sort (member_at (codes "type") m.value) (at (codes "type") (Plain plain.Reference) refl);
      is_array = given_back _ _ _ flag_sort (member_at (codes "is_array") m.value) (at (codes "is_array") (Plain plain.Flag) refl);
      members = enums_back m.value v (at (codes "enum") (Object object.EnumMembers) refl);
      sibling = given_back _ _ _ name_sort (member_at (codes "sibling") m.value) (at (codes "sibling") (Plain plain.Name) refl);
    }

pub attribute_table : IsTable object.DictionaryEntries is_entry listed_attribute (λ m. dictionary_entry_named m.name m.value) SaysDictEntry
attribute_table = named_table object.DictionaryEntries object.DictionaryEntry (λ m. dictionary_entry_named m.name m.value) SaysDictEntry (λ x. refl) (λ ms. refl) refl (λ n. refl) dictionary_entry_reads dictionary_entry_clean dictionary_entry_back

pub attributes_sort : IsListSort (Object object.DictionaryEntries) (entries_in object.DictionaryEntries is_entry listed_attribute (λ m. dictionary_entry_named m.name m.value) SaysDictEntry attribute_table) (IsObjectOf is_entry SaysDictEntry)
attributes_sort = named_sort object.DictionaryEntries object.DictionaryEntry (λ m. dictionary_entry_named m.name m.value) SaysDictEntry (λ x. refl) (λ ms. refl) refl (λ n. refl) dictionary_entry_reads dictionary_entry_clean dictionary_entry_back

-- ---- types of a dictionary

pub max_length_sort : IsSort (whole_in 0 9223372036854775807) (natural_read 0 9223372036854775807 (2 ^ 64) (lit< tt)) (IsWholeIn 0 9223372036854775807)
max_length_sort = whole_sort 0 9223372036854775807 (2 ^ 64) (lit< tt)

type_clean : (m : Member) (y : TypeEntry) → SaysType m y → (is_name m.name ≡ true) × IsFaultless (Object object.Type) m.value
type_clean m y r =
    let clean : AreClean m.value type_fields = (
      given_clean _ _ _ text_sort (member_at (codes "caption") m.value) y.caption r.caption,
      (
        given_clean _ _ _ text_sort (member_at (codes "description") m.value) y.description r.description,
        (
          given_clean _ _ _ max_length_sort (member_at (codes "max_len") m.value) y.max_len r.max_len,
          (
            given_clean _ _ _ range_sort (member_at (codes "range") m.value) y.range r.range,
            (
              given_clean _ _ _ pattern_sort (member_at (codes "regex") m.value) y.pattern r.pattern,
              (
                given_clean _ _ _ name_sort (member_at (codes "type") m.value) y.parent r.parent,
                (given_clean _ _ _ values_sort (member_at (codes "values") m.value) y.values r.values, tt),
              ),
            ),
          ),
        ),
      ),
    ) in
    (r.named, fields_faultless object.Type type_fields m.value (λ n. refl) refl r.object.0 r.object.1 (ap some_object r.object.1) clean tt)

type_reads : (m : Member) (y : TypeEntry) → SaysType m y → y ≡ type_named m.name m.value
type_reads m y r =
    let caption = given_reads _ _ _ text_sort (member_at (codes "caption") m.value) y.caption r.caption in
    let description = given_reads _ _ _ text_sort (member_at (codes "description") m.value) y.description r.description in
    let parent = given_reads _ _ _ name_sort (member_at (codes "type") m.value) y.parent r.parent in
    let pattern = given_reads _ _ _ pattern_sort (member_at (codes "regex") m.value) y.pattern r.pattern in
    let range = given_reads _ _ _ range_sort (member_at (codes "range") m.value) y.range r.range ∙ span_is (codes "range") m.value in
    let max_len = given_reads _ _ _ max_length_sort (member_at (codes "max_len") m.value) y.max_len r.max_len in
    let values = given_reads _ _ _ values_sort (member_at (codes "values") m.value) y.values r.values in
    λ i. record { name = r.name i; caption = caption i; description = description i; parent = parent i; pattern = pattern i; range = range i; max_len = max_len i; values = values i }

type_back : (m : Member) → is_name m.name ≡ true → IsValid m.value → IsFaultless (Object object.Type) m.value → SaysType m (type_named m.name m.value)
type_back m named v faultless =
    let found = is_object (out-Tree m.value) (faultless []) in
    let at = field_clean object.Type type_fields m.value (λ n. refl) refl found.0 found.1 faultless in
    record {
      named = named;
      object = found;
      name = refl;
      caption = given_back _ _ _ text_sort (member_at (codes "caption") m.value) (at (codes "caption") (Plain plain.Text) refl);
      description = given_back _ _ _ text_sort (member_at (codes "description") m.value) (at (codes "description") (Plain plain.Text) refl);
      parent = given_back _ _ _ name_sort (member_at (codes "type") m.value) (at (codes "type") (Plain plain.Name) refl);
      pattern = given_back _ _ _ pattern_sort (member_at (codes "regex") m.value) (at (codes "regex") (Plain plain.Pattern) refl);
      range = subst (IsGiven IsRange (member_at (codes "range") m.value)) (span_is (codes "range") m.value)
          (given_back _ _ _ range_sort (member_at (codes "range") m.value) (at (codes "range") (Listed listed.Range) refl));
      max_len = given_back _ _ _ max_length_sort (member_at (codes "max_len") m.value) (at (codes "max_len") (whole_in 0 9223372036854775807) refl);
      values = given_back _ _ _ values_sort (member_at (codes "values") m.value) (at (codes "values") (Listed listed.Values) refl);
    }

pub type_table : IsTable object.Types is_entry listed_type (λ m. type_named m.name m.value) SaysType
type_table = named_table object.Types object.Type (λ m. type_named m.name m.value) SaysType (λ x. refl) (λ ms. refl) refl (λ n. refl) type_reads type_clean type_back

pub types_sort : IsListSort (Object object.Types) (entries_in object.Types is_entry listed_type (λ m. type_named m.name m.value) SaysType type_table) (IsObjectOf is_entry SaysType)
types_sort = named_sort object.Types object.Type (λ m. type_named m.name m.value) SaysType (λ x. refl) (λ ms. refl) refl (λ n. refl) type_reads type_clean type_back
