-- What is printed of the parts of cells and of the merged dictionaries.
use Rattle.std.proofs.Common.{◌≡◌, ℕ, ◌<◌, ◌^◌, List, [], ◌∷◌, ◌++◌, map, append_assoc, Option, Some, None, unwrap_or, false, codes, refl, sym, ap, ◌∙◌}
use Rattle.std.specs.Prelude.{slice_get, filter_map}
use Rattle.std.specs.Option.{IfSome, option_map, option_and_then}
use Rattle.std.specs.List.{cons_option}
use Rattle.std.proofs.lemmas.List.{append-nil}
use Rattle.ocsf_tree.specs.declared.tree.Tree.{Tree}
use Rattle.ocsf_tree.specs.declared.tree.Tree.TheVariants as tree
use Rattle.ocsf_tree.specs.declared.attribute.Span.{Span}
use Rattle.ocsf_tree.specs.Valid.{IsValid, IsValidList}
use Rattle.ocsf_tree.proofs.Valid.{list_valid}
use Rattle.ocsf_raw.specs.declared.attribute.RawAttr.{RawAttr}
use Rattle.ocsf_raw.specs.declared.dictionary.DictEntry.{DictEntry}
use Rattle.ocsf_raw.specs.declared.dictionary.TypeEntry.{TypeEntry}
use Rattle.ocsf_raw.specs.declared.files.ExtFile.{ExtFile}
use Rattle.ocsf_raw.specs.declared.files.ProfileFile.{ProfileFile}
use Rattle.ocsf_raw.specs.Ordered.{IsByKey, IsSpanValid, IsTypeValid}
use Rattle.ocsf_schema.specs.Print.{words, number, flag, enumeration}
use Rattle.ocsf_schema.proofs.ValidFragments.{IsValidField, object_of_valid, words_valid, number_valid, flag_valid, words_list_valid, enumeration_valid}
use Rattle.ocsf_bundle.specs.Looks.{Looks, CategoryOf, BuiltIn, Listed, show_category}
use Rattle.ocsf_bundle.specs.Shown.{Ext, Profile}
use Rattle.ocsf_rules.specs.Names.{first_of}
use Rattle.ocsf_rules.specs.Compiled.{category_of, category_number}
use Rattle.ocsf_rules.specs.PrintedSchema.{member, member_of, category_description, category_tree, extension_tree, profile_tree, texts_tree, entry_tree, span_tree, type_tree}
use Rattle.ocsf_compiler.specs.declared.sections.Section.{Section}
use Rattle.ocsf_compiler.specs.declared.sections.Section.TheVariants as section
use Rattle.ocsf_compiler.specs.Sections.{part_tree, first_tree, member_at, section_tree}

-- ---- members one after another

pub three_joined : {X : Type 0} (a b c : List X) → (a ++ b) ++ c ≡ a ++ (b ++ (c ++ []))
three_joined a b c = simp (append_assoc, append-nil)

pub six_joined : {X : Type 0} (a b c d e f : List X) → ((((a ++ b) ++ c) ++ d) ++ e) ++ f ≡ a ++ (b ++ (c ++ (d ++ (e ++ (f ++ [])))))
six_joined a b c d e f = simp (append_assoc, append-nil)

pub seven_joined : {X : Type 0} (a b c d e f g : List X) → (((((a ++ b) ++ c) ++ d) ++ e) ++ f) ++ g ≡ a ++ (b ++ (c ++ (d ++ (e ++ (f ++ (g ++ []))))))
seven_joined a b c d e f g = simp (append_assoc, append-nil)

-- ---- valid trees

number_fits : (name : List ℕ) (n : ℕ) → n < 2 ^ 64 → IsValidField (name, number (Some n))
number_fits name n h = number_valid name (Some n) h

pub category_valid : (c : CategoryOf) → category_number (category_of [] c) < 2 ^ 64 → IsValid (category_tree c)
category_valid c h =
    object_of_valid (
    (codes "caption", words ((category_of [] c).caption))
    ∷ (codes "description", words (category_description c))
    ∷ (codes "uid", number (Some (category_number (category_of [] c))))
    ∷ []) refl
    (words_valid (codes "caption") ((category_of [] c).caption), (words_valid (codes "description") (category_description c), (number_fits (codes "uid") (category_number (category_of [] c)) h, tt)))

pub extension_valid : (ext : ExtFile) → ext.uid < 2 ^ 64 → IsValid (extension_tree ext)
extension_valid ext h =
    object_of_valid (
    (codes "caption", words ext.caption)
    ∷ (codes "uid", number (Some ext.uid))
    ∷ (codes "version", words ext.version)
    ∷ []) refl
    (words_valid (codes "caption") ext.caption, (number_fits (codes "uid") ext.uid h, (words_valid (codes "version") ext.version, tt)))

pub profile_valid : (profile : ProfileFile) → IsValid (profile_tree profile)
profile_valid profile =
    let names = map (λ (entry : RawAttr). entry.name) profile.attributes in
    object_of_valid (
    (codes "attributes", Some (texts_tree names))
    ∷ (codes "caption", words profile.caption)
    ∷ (codes "description", words profile.description)
    ∷ []) refl
    (list_valid (map tree.Words names) (words_list_valid names), (words_valid (codes "caption") profile.caption, (words_valid (codes "description") profile.description, tt)))

pub entry_valid : (entry : DictEntry) → IsByKey entry.members → IsValid (entry_tree entry)
entry_valid entry h =
    object_of_valid (
    (codes "caption", words entry.caption)
    ∷ (codes "description", words entry.description)
    ∷ (codes "enum", enumeration entry.members)
    ∷ (codes "is_array", flag (unwrap_or entry.is_array false))
    ∷ (codes "sibling", words entry.sibling)
    ∷ (codes "type", words entry.type_name)
    ∷ []) refl (
      words_valid (codes "caption") entry.caption,
      (
        words_valid (codes "description") entry.description,
        (
          enumeration_valid (codes "enum") entry.members h,
          (
            flag_valid (codes "is_array") (unwrap_or entry.is_array false),
            (words_valid (codes "sibling") entry.sibling, (words_valid (codes "type") entry.type_name, tt)),
          ),
        ),
      ),
    )

range_valid : (name : List ℕ) (o : Option Span) → IfSome o IsSpanValid → IsValidField (name, option_map span_tree o)
range_valid name None h = tt
range_valid name (Some span) h = list_valid (tree.Whole span.low ∷ tree.Whole span.high ∷ []) h

values_valid : (name : List ℕ) (o : Option (List Tree)) → IfSome o IsValidList → IsValidField (name, option_map tree.List o)
values_valid name None h = tt
values_valid name (Some values) h = list_valid values h

pub type_valid : (entry : TypeEntry) → IsTypeValid entry → IfSome entry.max_len (λ n. n < 2 ^ 64) → IsValid (type_tree entry)
type_valid entry h fits =
    object_of_valid (
    (codes "caption", words entry.caption)
    ∷ (codes "description", words entry.description)
    ∷ (codes "max_len", number entry.max_len)
    ∷ (codes "range", option_map span_tree entry.range)
    ∷ (codes "regex", words entry.pattern)
    ∷ (codes "type", words entry.parent)
    ∷ (codes "values", option_map tree.List entry.values)
    ∷ []) refl (
      words_valid (codes "caption") entry.caption,
      (
        words_valid (codes "description") entry.description,
        (
          number_valid (codes "max_len") entry.max_len fits,
          (
            range_valid (codes "range") entry.range h.0,
            (
              words_valid (codes "regex") entry.pattern,
              (words_valid (codes "type") entry.parent, (values_valid (codes "values") entry.values h.1, tt)),
            ),
          ),
        ),
      ),
    )

-- ---- what cells show first

same_given : {A B : Type 0} (f g : A → Option B) → ((x : A) → f x ≡ g x) → (xs : List A) → filter_map f xs ≡ filter_map g xs
same_given f g same [] = refl
same_given f g same (x ∷ xs) = ap (λ o. cons_option o (filter_map f xs)) (same x) ∙ ap (cons_option (g x)) (same_given f g same xs)

first_category : (name : List ℕ) (cs : List CategoryOf) → option_map (λ x. member name (category_tree x)) (first_of cs) ≡ option_map (member name) (option_and_then part_tree (slice_get (map show_category cs) 0))
first_category name [] = refl
first_category name (BuiltIn ∷ cs) = refl
first_category name (Listed ext entry ∷ cs) = refl

first_extension : (name : List ℕ) (es : List ExtFile) → option_map (λ x. member name (extension_tree x)) (first_of es) ≡ option_map (member name) (option_and_then part_tree (slice_get (map Ext es) 0))
first_extension name [] = refl
first_extension name (file ∷ es) = refl

first_profile : (name : List ℕ) (ps : List ProfileFile) → option_map (λ x. member name (profile_tree x)) (first_of ps) ≡ option_map (member name) (option_and_then part_tree (slice_get (map Profile ps) 0))
first_profile name [] = refl
first_profile name (file ∷ ps) = refl

-- the members of a section are those that its cells show first
pub section-members : (s : Section) (b : Looks) (names : List (List ℕ)) → tree.Members (filter_map (member_at s b) names) ≡ section_tree s b names
section-members section.Categories b names =
    ap tree.Members (same_given (member_at section.Categories b) (member_of category_tree b.categories) (λ n. sym (first_category n (b.categories n))) names)
section-members section.Extensions b names =
    ap tree.Members (same_given (member_at section.Extensions b) (member_of extension_tree b.exts) (λ n. sym (first_extension n (b.exts n))) names)
section-members section.Profiles b names =
    ap tree.Members (same_given (member_at section.Profiles b) (member_of profile_tree b.profiles) (λ n. sym (first_profile n (b.profiles n))) names)

pub member_at-name : (s : Section) (b : Looks) (name : List ℕ) → IfSome (member_at s b name) (λ m. m.name ≡ name)
member_at-name s b name = go (first_tree s b name)
  where
    go : (o : Option Tree) → IfSome (option_map (member name) o) (λ m. m.name ≡ name)
    go None = tt
    go (Some value) = refl
