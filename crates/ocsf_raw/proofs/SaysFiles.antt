-- A file has a record exactly where no place in it has a fault, and it is that of its content.
use Rattle.std.proofs.Common.{◌≡◌, ℕ, ◌^◌, List, [], ◌∷◌, Bool, true, false, cond, not, ◌||◌, Option, Some, None, refl, sym, ap, ◌∙◌, subst, ◌⊎◌, inl, inr, lit<}
use Rattle.std.specs.Prelude.{codes, unwrap_or, IsSome, IsSomeAnd, is_some}
use Rattle.std.specs.List.{filter_map, list_any, AllByRecursion}
use Rattle.std.specs.Option.{option_map, option_and_then}
use Rattle.std.specs.Str.{bytes_eq}
use Rattle.ocsf_tree.specs.declared.tree.Tree.{Tree, out-Tree}
use Rattle.ocsf_tree.specs.declared.tree.Tree.TheOpen.{Tree-F}
use Rattle.ocsf_tree.specs.declared.tree.Member.{Member}
use Rattle.ocsf_tree.specs.declared.key.Side.{Side}
use Rattle.ocsf_tree.specs.declared.key.Side.TheVariants as side
use Rattle.ocsf_tree.specs.Lookup.{member_in, member_of, member_at, items_of, members_of, text_at, is_null}
use Rattle.ocsf_tree.specs.Valid.{IsValid}
use Rattle.ocsf_raw.specs.declared.attribute.RawAttr.{RawAttr}
use Rattle.ocsf_raw.specs.declared.dictionary.DictFile.{DictFile}
use Rattle.ocsf_raw.specs.declared.dictionary.TypeEntry.{TypeEntry}
use Rattle.ocsf_raw.specs.declared.files.RawFile.{RawFile}
use Rattle.ocsf_raw.specs.declared.files.RawFile.TheVariants as raw
use Rattle.ocsf_raw.specs.declared.files.CategoryEntry.{CategoryEntry}
use Rattle.ocsf_raw.specs.declared.files.ItemFile.{ItemFile}
use Rattle.ocsf_raw.specs.declared.files.ProfileFile.{ProfileFile}
use Rattle.ocsf_raw.specs.declared.files.ExtFile.{ExtFile}
use Rattle.ocsf_raw.specs.declared.path_form.Form.{Form}
use Rattle.ocsf_raw.specs.declared.path_form.Form.TheVariants as form
use Rattle.ocsf_raw.specs.declared.wanted.Wanted.{Wanted}
use Rattle.ocsf_raw.specs.declared.wanted.Wanted.TheVariants.{Plain, Listed, Object}
use Rattle.ocsf_raw.specs.declared.wanted.Plain.TheVariants as plain
use Rattle.ocsf_raw.specs.declared.wanted.Listed.TheVariants as listed
use Rattle.ocsf_raw.specs.declared.wanted.Object.TheVariants as object
use Rattle.ocsf_tree.specs.Requirement.{requirement_named}
use Rattle.ocsf_raw.specs.Wanted.{field_of, some_object, whole_in, annotations_fields, constraints_fields, version_fields, categories_fields, dictionary_fields, type_table_fields, object_item_fields, item_fields, profile_fields, include_fields, extension_fields}
use Rattle.ocsf_raw.specs.Shape.{IsFaultless, is_given, item_needed}
use Rattle.ocsf_raw.specs.Content.{members_at, texts_in, texts_at, listed_category, listed_attribute, listed_type, type_members, entry, entries, includes, constraint_at, item_uid, item_file, annotation_text, profile_file, extension_file, dictionary_file, content}
use Rattle.ocsf_raw.specs.FileShape.{file_wanted}
use Rattle.ocsf_raw.specs.Says.{IsName, IsText, IsReference, IsRequirement, IsWholeIn, IsListOf, IsObjectOf, IsGiven, IsGivenList, IsGivenIn, is_entry, SaysCategory, SaysDictEntry, SaysVersion, SaysCategories, IsTypeTable, SaysDictionary, IsLayerEntries, IsItemUid, SaysItem, SaysProfile, SaysInclude, SaysExtension, Says}
use Rattle.ocsf_raw.proofs.Sorts.{IsSort, text_read, text_sort, name_sort, reference_sort, requirement_read, requirement_sort, natural_read, whole_sort, texts_read, names_sort, references_sort}
use Rattle.ocsf_raw.proofs.Givens.{IsCleanMember, absent_not_given, given_reads, given_clean, given_there, given_back, wanted_back, wanted_or, IsListSort, list_in, list_reads, list_clean, list_back, is_object, valid_at, AreClean, fields_faultless, field_clean, needed_there, in_reads, in_back, both_clean}
use Rattle.ocsf_raw.proofs.SaysEntries.{listed_in, categories_sort, attributes_sort, types_sort}
use Rattle.ocsf_raw.proofs.SaysLayers.{layers_read, layers_sort, items_read, AreItemEntries, item_entries_reads, items_clean, items_back}

-- ---- version

version_clean : (t : Tree) (s : List ℕ) → SaysVersion t s → IsFaultless (Object object.VersionFile) t
version_clean t s h =
    let o = member_at (codes "version") t in
    fields_faultless object.VersionFile version_fields t (λ n. refl) refl h.0.0 h.0.1 (ap some_object h.0.1) (given_clean _ _ _ text_sort o (Some s) h.1, tt) (given_there _ _ _ text_sort o s h.1, tt)

version_reads : (t : Tree) (s : List ℕ) → SaysVersion t s → raw.Version s ≡ content form.Version t
version_reads t s h = ap (λ x. raw.Version (unwrap_or x [])) (given_reads _ _ _ text_sort (member_at (codes "version") t) (Some s) h.1)

version_back : (t : Tree) → IsFaultless (Object object.VersionFile) t → SaysVersion t (unwrap_or (text_at (codes "version") t) [])
version_back t clean =
    let found = is_object (out-Tree t) (clean []) in (
      found,
      wanted_or _ _ _ text_sort (member_at (codes "version") t) [] (field_clean object.VersionFile version_fields t (λ n. refl) refl found.0 found.1 clean (codes "version") (Plain plain.Text) refl)
          (needed_there object.VersionFile version_fields t (λ n. refl) refl found.0 found.1 clean (codes "version") refl),
    )

-- ---- categories

some_given : (o : Option Tree) (xs : List CategoryEntry) → IsSomeAnd o (λ u. IsObjectOf is_entry SaysCategory u xs) → is_given o ≡ true
some_given None xs h = absurd h
some_given (Some u) xs h = ap (λ x. not (is_null x)) h.1

categories_clean : (t : Tree) (xs : List CategoryEntry) → SaysCategories t xs → IsFaultless (Object object.CategoriesFile) t
categories_clean t xs h =
    let o = member_at (codes "attributes") t in
    fields_faultless object.CategoriesFile categories_fields t (λ n. refl) refl h.0.0 h.0.1 (ap some_object h.0.1) (list_clean _ _ _ categories_sort o xs (inr h.1), tt) (some_given o xs h.1, tt)

categories_reads : (t : Tree) (xs : List CategoryEntry) → SaysCategories t xs → raw.Categories xs ≡ content form.Categories t
categories_reads t xs h =
    let o = member_at (codes "attributes") t in
    ap raw.Categories (list_reads _ _ _ categories_sort o xs (inr h.1) ∙ listed_in listed_category o)

there_given : (o : Option Tree) (xs : List CategoryEntry) → is_given o ≡ true → IsGivenList (IsObjectOf is_entry SaysCategory) o xs → IsSomeAnd o (λ u. IsObjectOf is_entry SaysCategory u xs)
there_given o xs there h =
    elim h [ inl none ↦ (let no : true ≡ false = sym there ∙ absent_not_given o none.0 in cc) | inr some ↦ some ]

categories_back : (t : Tree) → IsValid t → IsFaultless (Object object.CategoriesFile) t → SaysCategories t (filter_map listed_category (members_at (codes "attributes") t))
categories_back t v clean =
    let o = member_at (codes "attributes") t in
    let found = is_object (out-Tree t) (clean []) in
    let at = field_clean object.CategoriesFile categories_fields t (λ n. refl) refl found.0 found.1 clean (codes "attributes") (Object object.Categories) refl in
    let there = needed_there object.CategoriesFile categories_fields t (λ n. refl) refl found.0 found.1 clean (codes "attributes") refl in
    (found, there_given o _ there (subst (IsGivenList (IsObjectOf is_entry SaysCategory) o) (listed_in listed_category o) (list_back _ _ _ categories_sort o (valid_at t v (codes "attributes")) at)))

-- ---- dictionary

abbrev types_read : Tree → List TypeEntry
types_read t = list_in (λ u. filter_map listed_type (unwrap_or (members_of (out-Tree u)) [])) (member_at (codes "attributes") t)

type_table_sort : IsListSort (Object object.TypeTable) types_read IsTypeTable
type_table_sort = record {
  reads = λ t xs h. list_reads _ _ _ types_sort (member_at (codes "attributes") t) xs h.1;
  clean = λ t xs h.
      fields_faultless object.TypeTable type_table_fields t (λ n. refl) refl h.0.0 h.0.1 (ap some_object h.0.1) (list_clean _ _ _ types_sort (member_at (codes "attributes") t) xs h.1, tt) tt;
  back = λ t v clean.
      let found = is_object (out-Tree t) (clean []) in (
        found,
        list_back _ _ _ types_sort (member_at (codes "attributes") t) (valid_at t v (codes "attributes"))
            (field_clean object.TypeTable type_table_fields t (λ n. refl) refl found.0 found.1 clean (codes "attributes") (Object object.Types) refl),
      );
  none = λ t e. ap (λ x. list_in (λ u. filter_map listed_type (unwrap_or (members_of (out-Tree u)) [])) (member_of (codes "attributes") x)) e;
}

types_are : (o : Option Tree) → list_in types_read o ≡ filter_map listed_type (type_members o)
types_are None = refl
types_are (Some t) = listed_in listed_type (member_at (codes "attributes") t)

dictionary_clean : (t : Tree) (file : DictFile) → SaysDictionary t file → IsFaultless (Object object.DictionaryFile) t
dictionary_clean t file r =
    let clean : AreClean t dictionary_fields = (
      list_clean _ _ _ attributes_sort (member_at (codes "attributes") t) file.attributes r.attributes,
      (list_clean _ _ _ type_table_sort (member_at (codes "types") t) file.types r.types, tt),
    ) in
    fields_faultless object.DictionaryFile dictionary_fields t (λ n. refl) refl r.object.0 r.object.1 (ap some_object r.object.1) clean tt

dictionary_reads : (t : Tree) (file : DictFile) → SaysDictionary t file → file ≡ dictionary_file t
dictionary_reads t file r =
    let attributes = list_reads _ _ _ attributes_sort (member_at (codes "attributes") t) file.attributes r.attributes ∙ listed_in listed_attribute (member_at (codes "attributes") t) in
    let types = list_reads _ _ _ type_table_sort (member_at (codes "types") t) file.types r.types ∙ types_are (member_at (codes "types") t) in
    λ i. record { attributes = attributes i; types = types i }

dictionary_back : (t : Tree) → IsValid t → IsFaultless (Object object.DictionaryFile) t → SaysDictionary t (dictionary_file t)
dictionary_back t v clean =
    let found = is_object (out-Tree t) (clean []) in
    let at = field_clean object.DictionaryFile dictionary_fields t (λ n. refl) refl found.0 found.1 clean in
    record {
      object = found;
      attributes = subst (IsGivenList (IsObjectOf is_entry SaysDictEntry) (member_at (codes "attributes") t)) (listed_in listed_attribute (member_at (codes "attributes") t))
          (list_back _ _ _ attributes_sort (member_at (codes "attributes") t) (valid_at t v (codes "attributes")) (at (codes "attributes") (Object object.DictionaryEntries) refl));
      types = subst (IsGivenList IsTypeTable (member_at (codes "types") t)) (types_are (member_at (codes "types") t))
          (list_back _ _ _ type_table_sort (member_at (codes "types") t) (valid_at t v (codes "types")) (at (codes "types") (Object object.TypeTable) refl));
    }

-- ---- include and profile files

entries_are : (t : Tree) → list_in layers_read (member_at (codes "attributes") t) ≡ entries t
entries_are t = listed_in entry (member_at (codes "attributes") t)

include_clean : (t : Tree) (xs : List RawAttr) → SaysInclude t xs → IsFaultless (Object object.IncludeFile) t
include_clean t xs h =
    fields_faultless object.IncludeFile include_fields t (λ n. refl) refl h.0.0 h.0.1 (ap some_object h.0.1) (list_clean _ _ _ layers_sort (member_at (codes "attributes") t) xs h.1, tt) tt

include_reads : (t : Tree) (xs : List RawAttr) → SaysInclude t xs → raw.Include xs ≡ content form.Include t
include_reads t xs h = ap raw.Include (list_reads _ _ _ layers_sort (member_at (codes "attributes") t) xs h.1 ∙ entries_are t)

include_back : (t : Tree) → IsValid t → IsFaultless (Object object.IncludeFile) t → SaysInclude t (entries t)
include_back t v clean =
    let found = is_object (out-Tree t) (clean []) in
    let at = field_clean object.IncludeFile include_fields t (λ n. refl) refl found.0 found.1 clean (codes "attributes") (Object object.LayerEntries) refl in
    (found, subst (IsGivenList IsLayerEntries (member_at (codes "attributes") t)) (entries_are t) (list_back _ _ _ layers_sort (member_at (codes "attributes") t) (valid_at t v (codes "attributes")) at))

-- what two ways of reading give of the member that holds it
alike : {A B : Type 0} (f g : A → Option B) → ((x : A) → f x ≡ g x) → (o : Option A) → option_and_then f o ≡ option_and_then g o
alike f g e None = refl
alike f g e (Some x) = e x

requirement_in : (t : Tree) → option_and_then (λ u. option_and_then requirement_read (member_at (codes "requirement") u)) (member_at (codes "annotations") t)
    ≡ option_and_then requirement_named (annotation_text (codes "requirement") t)
requirement_in t = go (member_at (codes "annotations") t)
  where
    two : (o : Option Tree) → option_and_then requirement_read o ≡ option_and_then requirement_named (option_and_then text_read o)
    two None = refl
    two (Some x) = refl

    go : (o : Option Tree) → option_and_then (λ u. option_and_then requirement_read (member_at (codes "requirement") u)) o ≡ option_and_then requirement_named (option_and_then (text_at (codes "requirement")) o)
    go None = refl
    go (Some u) = two (member_at (codes "requirement") u)

profile_clean : (t : Tree) (file : ProfileFile) → SaysProfile t file → IsFaultless (Object object.ProfileFile) t
profile_clean t file r =
    let clean : AreClean t profile_fields = (
      both_clean object.Annotations (codes "group") (codes "requirement") (Plain plain.Text) (Plain plain.Requirement) (λ n. refl) refl (λ x. refl) (λ ms. refl)
          text_read IsText text_sort requirement_read IsRequirement requirement_sort (member_at (codes "annotations") t) file.group file.requirement r.group r.requirement,
      (
        list_clean _ _ _ layers_sort (member_at (codes "attributes") t) file.attributes r.attributes,
        (
          given_clean _ _ _ text_sort (member_at (codes "caption") t) file.caption r.caption,
          (
            given_clean _ _ _ text_sort (member_at (codes "description") t) file.description r.description,
            (given_clean _ _ _ name_sort (member_at (codes "name") t) (Some file.name) r.name, tt),
          ),
        ),
      ),
    ) in
    fields_faultless object.ProfileFile profile_fields t (λ n. refl) refl r.object.0 r.object.1 (ap some_object r.object.1) clean
    (given_there _ _ _ name_sort (member_at (codes "name") t) file.name r.name, tt)

profile_reads : (t : Tree) (file : ProfileFile) → SaysProfile t file → file ≡ profile_file t
profile_reads t file r =
    let name = ap (λ x. unwrap_or x []) (given_reads _ _ _ name_sort (member_at (codes "name") t) (Some file.name) r.name) in
    let caption = given_reads _ _ _ text_sort (member_at (codes "caption") t) file.caption r.caption in
    let description = given_reads _ _ _ text_sort (member_at (codes "description") t) file.description r.description in
    let group = in_reads object.Annotations annotations_fields (λ n. refl) refl (λ x. refl) (Plain plain.Text) text_read IsText text_sort (codes "group") (member_at (codes "annotations") t) file.group r.group in
    let requirement =
    in_reads object.Annotations annotations_fields (λ n. refl) refl (λ x. refl) (Plain plain.Requirement) requirement_read IsRequirement requirement_sort (codes "requirement") (member_at (codes "annotations") t) file.requirement r.requirement
    ∙ requirement_in t in
    let attributes = list_reads _ _ _ layers_sort (member_at (codes "attributes") t) file.attributes r.attributes ∙ entries_are t in
    λ i. record { name = name i; caption = caption i; description = description i; group = group i; requirement = requirement i; attributes = attributes i }

profile_back : (t : Tree) → IsValid t → IsFaultless (Object object.ProfileFile) t → SaysProfile t (profile_file t)
profile_back t v clean =
    let found = is_object (out-Tree t) (clean []) in
    let at = field_clean object.ProfileFile profile_fields t (λ n. refl) refl found.0 found.1 clean in
    let there = needed_there object.ProfileFile profile_fields t (λ n. refl) refl found.0 found.1 clean (codes "name") refl in
    let annotations = at (codes "annotations") (Object object.Annotations) refl in
    record {
      object = found;
      name = wanted_or _ _ _ name_sort (member_at (codes "name") t) [] (at (codes "name") (Plain plain.Name) refl) there;
      caption = given_back _ _ _ text_sort (member_at (codes "caption") t) (at (codes "caption") (Plain plain.Text) refl);
      description = given_back _ _ _ text_sort (member_at (codes "description") t) (at (codes "description") (Plain plain.Text) refl);
      group = in_back object.Annotations annotations_fields (λ n. refl) refl (λ x. refl) (Plain plain.Text) text_read IsText text_sort (codes "group") refl (member_at (codes "annotations") t) annotations;
      requirement = subst (IsGivenIn (codes "requirement") IsRequirement (member_at (codes "annotations") t)) (requirement_in t)
          (in_back object.Annotations annotations_fields (λ n. refl) refl (λ x. refl) (Plain plain.Requirement) requirement_read IsRequirement requirement_sort (codes "requirement") refl (member_at (codes "annotations") t) annotations);
      attributes = subst (IsGivenList IsLayerEntries (member_at (codes "attributes") t)) (entries_are t)
          (list_back _ _ _ layers_sort (member_at (codes "attributes") t) (valid_at t v (codes "attributes")) (at (codes "attributes") (Object object.LayerEntries) refl));
    }

-- ---- extensions

number_sort : IsSort (whole_in 1 999) (natural_read 1 999 (2 ^ 32) (lit< tt)) (IsWholeIn 1 999)
number_sort = whole_sort 1 999 (2 ^ 32) (lit< tt)

extension_clean : (t : Tree) (file : ExtFile) → SaysExtension t file → IsFaultless (Object object.ExtensionFile) t
extension_clean t file r =
    let clean : AreClean t extension_fields = (
      given_clean _ _ _ text_sort (member_at (codes "caption") t) file.caption r.caption,
      (
        given_clean _ _ _ name_sort (member_at (codes "name") t) (Some file.name) r.name,
        (
          given_clean _ _ _ number_sort (member_at (codes "uid") t) (Some file.uid) r.uid,
          (given_clean _ _ _ text_sort (member_at (codes "version") t) file.version r.version, tt),
        ),
      ),
    ) in
    fields_faultless object.ExtensionFile extension_fields t (λ n. refl) refl r.object.0 r.object.1 (ap some_object r.object.1) clean
    (given_there _ _ _ name_sort (member_at (codes "name") t) file.name r.name, (given_there _ _ _ number_sort (member_at (codes "uid") t) file.uid r.uid, tt))

extension_reads : (t : Tree) (file : ExtFile) → SaysExtension t file → file ≡ extension_file t
extension_reads t file r =
    let name = ap (λ x. unwrap_or x []) (given_reads _ _ _ name_sort (member_at (codes "name") t) (Some file.name) r.name) in
    let uid = ap (λ x. unwrap_or x 0) (given_reads _ _ _ number_sort (member_at (codes "uid") t) (Some file.uid) r.uid) in
    let caption = given_reads _ _ _ text_sort (member_at (codes "caption") t) file.caption r.caption in
    let version = given_reads _ _ _ text_sort (member_at (codes "version") t) file.version r.version in
    λ i. record { name = name i; uid = uid i; caption = caption i; version = version i }

extension_back : (t : Tree) → IsFaultless (Object object.ExtensionFile) t → SaysExtension t (extension_file t)
extension_back t clean =
    let found = is_object (out-Tree t) (clean []) in
    let at = field_clean object.ExtensionFile extension_fields t (λ n. refl) refl found.0 found.1 clean in
    let there = needed_there object.ExtensionFile extension_fields t (λ n. refl) refl found.0 found.1 clean in
    record {
      object = found;
      name = wanted_or _ _ _ name_sort (member_at (codes "name") t) [] (at (codes "name") (Plain plain.Name) refl) (there (codes "name") refl);
      uid = wanted_or _ _ _ number_sort (member_at (codes "uid") t) 0 (at (codes "uid") (whole_in 1 999) refl) (there (codes "uid") refl);
      caption = given_back _ _ _ text_sort (member_at (codes "caption") t) (at (codes "caption") (Plain plain.Text) refl);
      version = given_back _ _ _ text_sort (member_at (codes "version") t) (at (codes "version") (Plain plain.Text) refl);
    }

-- ---- items

uid_sort : IsSort (whole_in 0 999) (natural_read 0 999 (2 ^ 32) (lit< tt)) (IsWholeIn 0 999)
uid_sort = whole_sort 0 999 (2 ^ 32) (lit< tt)

uid_reads : (s : Side) (t : Tree) (x : Option ℕ) → IsItemUid s (member_at (codes "uid") t) x → x ≡ item_uid s t
uid_reads side.Class t x h = given_reads _ _ _ uid_sort (member_at (codes "uid") t) x h
uid_reads side.Object t x h = h

-- a list of references, or none
abbrev references_read : Tree → List (List ℕ)
references_read t = unwrap_or (texts_read t) []

reference_list_sort : IsListSort (Listed listed.References) references_read (IsListOf IsReference)
reference_list_sort = record {
  reads = λ t xs h. sym (ap (λ o. unwrap_or o []) (references_sort.reads t xs h));
  clean = references_sort.clean;
  back = λ t v clean.
      let found = references_sort.back t clean in
      subst (IsListOf IsReference t) (sym (ap (λ o. unwrap_or o []) (references_sort.reads t found.0 found.1))) found.1;
  none = λ t e. ap (λ x. unwrap_or (option_map texts_in (items_of x)) []) e;
}

references_are : (o : Option Tree) → list_in references_read o ≡ unwrap_or (option_map texts_in (option_and_then (λ u. items_of (out-Tree u)) o)) []
references_are None = refl
references_are (Some t) = refl

constraint_is : (name : List ℕ) (t : Tree) → option_and_then (λ u. option_and_then texts_read (member_at name u)) (member_at (codes "constraints") t) ≡ constraint_at name t
constraint_is name t = alike (λ u. option_and_then texts_read (member_at name u)) (texts_at name) (λ u. two (member_at name u)) (member_at (codes "constraints") t)
  where
    two : (o : Option Tree) → option_and_then texts_read o ≡ option_map texts_in (option_and_then (λ u. items_of (out-Tree u)) o)
    two None = refl
    two (Some x) = refl

item_entries_are : (t : Tree) → list_in items_read (member_at (codes "attributes") t) ≡ entries t
item_entries_are t = listed_in entry (member_at (codes "attributes") t)

item_reads : (s : Side) (core : Bool) (t : Tree) (file : ItemFile) → file.side ≡ s → SaysItem core t file → file ≡ item_file s t
item_reads s core t file e r =
    let name = given_reads _ _ _ name_sort (member_at (codes "name") t) file.name r.name in
    let caption = given_reads _ _ _ text_sort (member_at (codes "caption") t) file.caption r.caption in
    let description = given_reads _ _ _ text_sort (member_at (codes "description") t) file.description r.description in
    let parent = given_reads _ _ _ reference_sort (member_at (codes "extends") t) file.parent r.parent in
    let category = given_reads _ _ _ reference_sort (member_at (codes "category") t) file.category r.category in
    let uid : file.uid ≡ item_uid s t = uid_reads file.side t file.uid r.uid ∙ ap (λ s. item_uid s t) e in
    let profiles = list_reads _ _ _ reference_list_sort (member_at (codes "profiles") t) file.profiles r.profiles ∙ references_are (member_at (codes "profiles") t) in
    let both = item_entries_reads (member_at (codes "attributes") t) file.includes file.attributes r.attributes in
    let attributes = both.1 ∙ item_entries_are t in
    let at_least_one = in_reads object.Constraints constraints_fields (λ n. refl) refl (λ x. refl) (Listed listed.Names) texts_read (IsListOf IsName) names_sort (codes "at_least_one") (member_at (codes "constraints") t) file.at_least_one r.at_least_one
    ∙ constraint_is (codes "at_least_one") t in
    let just_one = in_reads object.Constraints constraints_fields (λ n. refl) refl (λ x. refl) (Listed listed.Names) texts_read (IsListOf IsName) names_sort (codes "just_one") (member_at (codes "constraints") t) file.just_one r.just_one
    ∙ constraint_is (codes "just_one") t in
    λ i. record {
      side = e i;
      name = name i;
      caption = caption i;
      description = description i;
      parent = parent i;
      category = category i;
      uid = uid i;
      profiles = profiles i;
      includes = both.0 i;
      attributes = attributes i;
      at_least_one = at_least_one i;
      just_one = just_one i;
    }

-- the members that an object and a class share
object_item_clean : (core : Bool) (t : Tree) (file : ItemFile) → SaysItem core t file → AreClean t object_item_fields
object_item_clean core t file r = (
  items_clean (member_at (codes "attributes") t) file.includes file.attributes r.attributes,
  (
    given_clean _ _ _ text_sort (member_at (codes "caption") t) file.caption r.caption,
    (
      given_clean _ _ _ reference_sort (member_at (codes "category") t) file.category r.category,
      (
        both_clean object.Constraints (codes "at_least_one") (codes "just_one") (Listed listed.Names) (Listed listed.Names) (λ n. refl) refl (λ x. refl) (λ ms. refl)
            texts_read (IsListOf IsName) names_sort texts_read (IsListOf IsName) names_sort (member_at (codes "constraints") t) file.at_least_one file.just_one r.at_least_one r.just_one,
        (
          given_clean _ _ _ text_sort (member_at (codes "description") t) file.description r.description,
          (
            given_clean _ _ _ reference_sort (member_at (codes "extends") t) file.parent r.parent,
            (
              given_clean _ _ _ name_sort (member_at (codes "name") t) file.name r.name,
              (list_clean _ _ _ reference_list_sort (member_at (codes "profiles") t) file.profiles r.profiles, tt),
            ),
          ),
        ),
      ),
    ),
  ),
)

fields_clean : (s : Side) (core : Bool) (t : Tree) (file : ItemFile) → IsItemUid s (member_at (codes "uid") t) file.uid → SaysItem core t file → AreClean t (item_fields s)
fields_clean side.Class core t file uid r = (given_clean _ _ _ uid_sort (member_at (codes "uid") t) file.uid uid, object_item_clean core t file r)
fields_clean side.Object core t file uid r = object_item_clean core t file r

name_needed : (core : Bool) (t : Tree) (ms : List Member) (file : ItemFile) → out-Tree t ≡ Tree-F.Members ms → SaysItem core t file
    → AllByRecursion (λ n. is_given (member_at n t) ≡ true) (item_needed core ms)
name_needed core t ms file shown r = go (core || not (is_given (member_in (codes "extends") ms))) refl
  where
    there : (x : Option (List ℕ)) → IsGiven IsName (member_at (codes "name") t) x → IsSome x → is_given (member_at (codes "name") t) ≡ true
    there None h s = cc
    there (Some x) h s = given_there _ _ _ name_sort (member_at (codes "name") t) x h

    orphan : (x : Option (List ℕ)) → IsGiven IsReference (member_at (codes "extends") t) x → is_given (member_at (codes "extends") t) ≡ false → x ≡ None
    orphan None h e = refl
    orphan (Some x) h e = let no : true ≡ false = sym (given_there _ _ _ reference_sort (member_at (codes "extends") t) x h) ∙ e in cc

    why : (c : Bool) (g : Bool) → core ≡ c → is_given (member_in (codes "extends") ms) ≡ g → (c || not g) ≡ true → (core ≡ true) ⊎ (file.parent ≡ None)
    why true g e f h = inl e
    why false false e f h = inr (orphan file.parent r.parent (ap (λ x. is_given (member_of (codes "extends") x)) shown ∙ f))
    why false true e f h = cc

    go : (b : Bool) → (core || not (is_given (member_in (codes "extends") ms))) ≡ b → AllByRecursion (λ n. is_given (member_at n t) ≡ true) (cond b (codes "name" ∷ []) [])
    go false e = tt
    go true e = (there file.name r.name (r.named (why core (is_given (member_in (codes "extends") ms)) refl refl e)), tt)

item_clean : (s : Side) (core : Bool) (t : Tree) (file : ItemFile) → file.side ≡ s → SaysItem core t file → IsFaultless (Object (object.ItemFile s core)) t
item_clean s core t file e r =
    let uid : IsItemUid s (member_at (codes "uid") t) file.uid = subst (λ s. IsItemUid s (member_at (codes "uid") t) file.uid) e r.uid in
    fields_faultless (object.ItemFile s core) (item_fields s) t (λ n. refl) refl r.object.0 r.object.1 (ap some_object r.object.1) (fields_clean s core t file uid r) (name_needed core t r.object.0 file r.object.1 r)

uid_back : (s : Side) (t : Tree) → ((w : Wanted) → field_of (item_fields s) (codes "uid") ≡ Some w → IsCleanMember w (member_at (codes "uid") t)) → IsItemUid s (member_at (codes "uid") t) (item_uid s t)
uid_back side.Class t at = given_back _ _ _ uid_sort (member_at (codes "uid") t) (at (whole_in 0 999) refl)
uid_back side.Object t at = refl

-- a member that classes and objects share
shared_field : (s : Side) (n : List ℕ) (w : Wanted) → bytes_eq n (codes "uid") ≡ false → field_of object_item_fields n ≡ Some w → field_of (item_fields s) n ≡ Some w
shared_field side.Class n w other e = ap (λ b. cond b (Some (whole_in 0 999)) (field_of object_item_fields n)) other ∙ e
shared_field side.Object n w other e = e

item_back : (s : Side) (core : Bool) (t : Tree) → IsValid t → IsFaultless (Object (object.ItemFile s core)) t → SaysItem core t (item_file s t)
item_back s core t v clean =
    let found = is_object (out-Tree t) (clean []) in
    let any = field_clean (object.ItemFile s core) (item_fields s) t (λ n. refl) refl found.0 found.1 clean in
    let at = λ (n : List ℕ) (w : Wanted) (other : bytes_eq n (codes "uid") ≡ false) (e : field_of object_item_fields n ≡ Some w). any n w (shared_field s n w other e) in
    let constraints = at (codes "constraints") (Object object.Constraints) refl refl in
    let name_at = at (codes "name") (Plain plain.Name) refl refl in
    let parent_at = at (codes "extends") (Plain plain.Reference) refl refl in
    record {
      object = found;
      name = given_back _ _ _ name_sort (member_at (codes "name") t) name_at;
      named = named found.0 found.1 name_at parent_at;
      caption = given_back _ _ _ text_sort (member_at (codes "caption") t) (at (codes "caption") (Plain plain.Text) refl refl);
      description = given_back _ _ _ text_sort (member_at (codes "description") t) (at (codes "description") (Plain plain.Text) refl refl);
      parent = given_back _ _ _ reference_sort (member_at (codes "extends") t) parent_at;
      category = given_back _ _ _ reference_sort (member_at (codes "category") t) (at (codes "category") (Plain plain.Reference) refl refl);
      uid = uid_back s t (any (codes "uid"));
      profiles = subst (IsGivenList (IsListOf IsReference) (member_at (codes "profiles") t)) (references_are (member_at (codes "profiles") t))
          (list_back _ _ _ reference_list_sort (member_at (codes "profiles") t) (valid_at t v (codes "profiles")) (at (codes "profiles") (Listed listed.References) refl refl));
      attributes = subst (AreItemEntries (member_at (codes "attributes") t) (includes t)) (item_entries_are t)
          (items_back (member_at (codes "attributes") t) (valid_at t v (codes "attributes")) (at (codes "attributes") (Object object.ItemEntries) refl refl));
      at_least_one = subst (IsGivenIn (codes "at_least_one") (IsListOf IsName) (member_at (codes "constraints") t)) (constraint_is (codes "at_least_one") t)
          (in_back object.Constraints constraints_fields (λ n. refl) refl (λ x. refl) (Listed listed.Names) texts_read (IsListOf IsName) names_sort (codes "at_least_one") refl (member_at (codes "constraints") t) constraints);
      just_one = subst (IsGivenIn (codes "just_one") (IsListOf IsName) (member_at (codes "constraints") t)) (constraint_is (codes "just_one") t)
          (in_back object.Constraints constraints_fields (λ n. refl) refl (λ x. refl) (Listed listed.Names) texts_read (IsListOf IsName) names_sort (codes "just_one") refl (member_at (codes "constraints") t) constraints);
    }
  where
    named : (ms : List Member) → out-Tree t ≡ Tree-F.Members ms → IsCleanMember (Plain plain.Name) (member_at (codes "name") t) → IsCleanMember (Plain plain.Reference) (member_at (codes "extends") t)
        → (core ≡ true) ⊎ (text_at (codes "extends") t ≡ None) → IsSome (text_at (codes "name") t)
    named ms shown name_at parent_at h = ap is_some (wanted_back _ _ _ name_sort (member_at (codes "name") t) name_at there).1
      where
        lone : text_at (codes "extends") t ≡ None → (g : Bool) → is_given (member_at (codes "extends") t) ≡ g → is_given (member_in (codes "extends") ms) ≡ false
        lone none false e = sym (ap (λ x. is_given (member_of (codes "extends") x)) shown) ∙ e
        lone none true e =
            let found = wanted_back _ _ _ reference_sort (member_at (codes "extends") t) parent_at e in
            let no : None ≡ Some found.0 = sym none ∙ found.1 in
            cc

        needed : item_needed core ms ≡ codes "name" ∷ []
        needed =
            elim h [
              | inl core_too ↦ ap (λ b. cond (b || not (is_given (member_in (codes "extends") ms))) (codes "name" ∷ []) []) core_too
              | inr none ↦ ap (λ g. cond (core || not g) (codes "name" ∷ []) []) (lone none (is_given (member_at (codes "extends") t)) refl) ∙ ap (λ b. cond b (codes "name" ∷ []) []) (either core)
            ]
          where
            either : (b : Bool) → (b || true) ≡ true
            either true = refl
            either false = refl

        there : is_given (member_at (codes "name") t) ≡ true
        there = needed_there (object.ItemFile s core) (item_fields s) t (λ n. refl) refl ms shown clean (codes "name") (ap (list_any (bytes_eq (codes "name"))) needed)

-- ---- all forms

pub says_clean : (f : Form) (core : Bool) (t : Tree) (r : RawFile) → Says f core t r → IsFaultless (file_wanted f core) t
says_clean form.Version core t (raw.Version s) h = version_clean t s h
says_clean form.Categories core t (raw.Categories xs) h = categories_clean t xs h
says_clean form.Dictionary core t (raw.Dictionary file) h = dictionary_clean t file h
says_clean (form.Item s) core t (raw.Item file) h = item_clean s core t file h.0 h.1
says_clean form.Profile core t (raw.Profile file) h = profile_clean t file h
says_clean form.Include core t (raw.Include xs) h = include_clean t xs h
says_clean form.Extension core t (raw.Extension file) h = extension_clean t file h
says_clean _ core t _ h = absurd h

pub says_content : (f : Form) (core : Bool) (t : Tree) (r : RawFile) → Says f core t r → r ≡ content f t
says_content form.Version core t (raw.Version s) h = version_reads t s h
says_content form.Categories core t (raw.Categories xs) h = categories_reads t xs h
says_content form.Dictionary core t (raw.Dictionary file) h = ap raw.Dictionary (dictionary_reads t file h)
says_content (form.Item s) core t (raw.Item file) h = ap raw.Item (item_reads s core t file h.0 h.1)
says_content form.Profile core t (raw.Profile file) h = ap raw.Profile (profile_reads t file h)
says_content form.Include core t (raw.Include xs) h = include_reads t xs h
says_content form.Extension core t (raw.Extension file) h = ap raw.Extension (extension_reads t file h)
says_content _ core t _ h = absurd h

pub content_said : (f : Form) (core : Bool) (t : Tree) → IsValid t → IsFaultless (file_wanted f core) t → Says f core t (content f t)
content_said form.Version core t v clean = version_back t clean
content_said form.Categories core t v clean = categories_back t v clean
content_said form.Dictionary core t v clean = dictionary_back t v clean
content_said (form.Item s) core t v clean = (refl, item_back s core t v clean)
content_said form.Profile core t v clean = profile_back t v clean
content_said form.Include core t v clean = include_back t v clean
content_said form.Extension core t v clean = extension_back t clean
