-- Fragments are valid trees.
use Rattle.std.proofs.Common.{◌≡◌, ℕ, zero, suc, ◌<◌, ◌^◌, List, [], ◌∷◌, Bool, true, false, ◌&&◌, get_or, map, Option, Some, None, IfSome, codes, pos, All, refl, ap, arith, rules}
use Rattle.std.specs.declared.cmp.Ordering.{Ordering}
use Rattle.std.specs.Ordering.{is_lt, match_ordering}
use Rattle.std.specs.FinMap.Entries.{below_all}
use Rattle.std.proofs.lemmas.Bool.{lt-ltb}
use Rattle.ocsf_lists.specs.ByName.{text_cmp, named, IsByName}
use Rattle.ocsf_tree.specs.Data.{data_of, members_data}
use Rattle.ocsf_tree.specs.Valid.{IsValid, IsValidList, IsValidMembers, is_valid, is_before, members_valid}
use Rattle.ocsf_lists.proofs.NameLists.{head_below, tail_by_name, below_at}
use Rattle.ocsf_tree.proofs.Valid.{list_valid, object_valid, IsValidList-cons}
use Rattle.ocsf_tree.specs.declared.tree.Tree.{Tree, the_lemmas}
use Rattle.ocsf_tree.specs.declared.tree.Tree.TheVariants as tree
use Rattle.ocsf_tree.specs.declared.tree.Member.{Member}
use Rattle.ocsf_tree.specs.declared.attribute.EnumMember.{EnumMember}
use Rattle.ocsf_schema.specs.declared.records.Attr.{Attr}
use Rattle.ocsf_schema.specs.declared.records.Item.{Item}
use Rattle.ocsf_schema.specs.Print.{Field, present, object_of, words, number, flag, texts, enum_member_tree, enum_member, enumeration, type_text, object_key, attribute_tree, attribute_member, constraints, fragment_tree}
use Rattle.ocsf_tree.specs.Requirement.{requirement_text}

both : (a b : Bool) → a ≡ true → b ≡ true → (a && b) ≡ true
both true b p q = q
both false b p q = p

-- ---- an object with a member for each item of a list

module _ {X : Type 0} (key : X → List ℕ) (value : X → Tree) where
  abbrev member_for : X → Member
  member_for x = record { name = key x; value = value x }

  first_after : (k : List ℕ) (xs : List X) → below_all text_cmp k (named key xs) ≡ true → is_before k (members_data (map member_for xs)) ≡ true
  first_after k [] h = refl
  first_after k (x ∷ xs) h = ap (λ (r : Ordering). match_ordering r true false false) (below_at key k (x ∷ xs) zero x h (omega arith))

  pub each_member_valid : (xs : List X) → IsByName key xs → All (λ x. IsValid (value x)) xs → IsValidMembers (map member_for xs)
  each_member_valid [] h v = refl
  each_member_valid (x ∷ xs) h v =
      both (is_before (key x) (members_data (map member_for xs))) (is_valid (data_of (value x)) && members_valid (members_data (map member_for xs)))
      (first_after (key x) xs (head_below key x xs h))
      (both (is_valid (data_of (value x))) (members_valid (members_data (map member_for xs)))
      (v zero x (omega arith))
      (each_member_valid xs (tail_by_name key x xs h) (λ k d l. v (suc k) d (omega arith))))

-- ---- an object with members that may be absent

abbrev pub IsValidField : Field → Type 0
IsValidField (name, None) = Unit {0}
IsValidField (name, Some value) = IsValid value

abbrev pub AreValidFields : List Field → Type 0
AreValidFields [] = Unit {0}
AreValidFields (field ∷ fields) = IsValidField field × AreValidFields fields

abbrev pub field_name : Field → List ℕ
field_name (name, value) = name

first_present : (k : List ℕ) (fields : List Field) → below_all text_cmp k (named field_name fields) ≡ true → is_before k (members_data (present fields)) ≡ true
first_present k [] h = refl
first_present k ((name, None) ∷ fields) h = first_present k fields (second (is_lt (text_cmp k name)) (below_all text_cmp k (named field_name fields)) h)
  where
    second : (a b : Bool) → (a && b) ≡ true → b ≡ true
    second true b h = h
    second false b h = cc
first_present k ((name, Some value) ∷ fields) h =
    ap (λ (r : Ordering). match_ordering r true false false) (below_at field_name k ((name, Some value) ∷ fields) zero (name, Some value) h (omega arith))

present_valid : (fields : List Field) → IsByName field_name fields → AreValidFields fields → IsValidMembers (present fields)
present_valid [] h v = refl
present_valid ((name, None) ∷ fields) h v = present_valid fields (tail_by_name field_name (name, None) fields h) v.1
present_valid ((name, Some value) ∷ fields) h v =
    both (is_before name (members_data (present fields))) (is_valid (data_of value) && members_valid (members_data (present fields)))
    (first_present name fields (head_below field_name (name, Some value) fields h))
    (both (is_valid (data_of value)) (members_valid (members_data (present fields))) v.0
    (present_valid fields (tail_by_name field_name (name, Some value) fields h) v.1))

pub object_of_valid : (fields : List Field) → IsByName field_name fields → AreValidFields fields → IsValid (object_of fields)
object_of_valid fields h v = object_valid (present fields) (present_valid fields h v)

-- ---- the values

pub word_valid : (text : List ℕ) → IsValid (tree.Words text)
word_valid text = search (rules, the_lemmas)

pub words_valid : (name : List ℕ) (text : Option (List ℕ)) → IsValidField (name, words text)
words_valid name None = tt
words_valid name (Some text) = word_valid text

pub number_valid : (name : List ℕ) (n : Option ℕ) → IfSome n (λ k. k < 2 ^ 64) → IsValidField (name, number n)
number_valid name None h = tt
number_valid name (Some k) h = whole_valid k h
  where
    whole_valid : (k : ℕ) → k < 2 ^ 64 → IsValid (tree.Whole (pos k))
    whole_valid k h = let fits = lt-ltb k (2 ^ 64) h in search (rules, the_lemmas, fits)

pub flag_valid : (name : List ℕ) (b : Bool) → IsValidField (name, flag b)
flag_valid name true = true_valid
  where
    true_valid : IsValid (tree.Flag true)
    true_valid = search (rules, the_lemmas)
flag_valid name false = tt

pub words_list_valid : (list : List (List ℕ)) → IsValidList (map tree.Words list)
words_list_valid [] = refl
words_list_valid (t ∷ ts) = IsValidList-cons (tree.Words t) (map tree.Words ts) (word_valid t) (words_list_valid ts)

texts_valid : (name : List ℕ) (list : List (List ℕ)) → IsValidField (name, texts list)
texts_valid name [] = tt
texts_valid name (t ∷ ts) = list_valid (map tree.Words (t ∷ ts)) (words_list_valid (t ∷ ts))

enum_member_valid : (m : EnumMember) → IsValid (enum_member_tree m)
enum_member_valid m =
    object_of_valid ((codes "caption", Some (tree.Words m.caption)) ∷ (codes "description", words m.description) ∷ []) refl
    (word_valid m.caption, (words_valid (codes "description") m.description, tt))

pub enumeration_valid : (name : List ℕ) (ms : List EnumMember) → IsByName (λ m. m.key) ms → IsValidField (name, enumeration ms)
enumeration_valid name [] h = tt
enumeration_valid name (m ∷ ms) h =
    object_valid (map enum_member (m ∷ ms)) (each_member_valid (λ m. m.key) enum_member_tree (m ∷ ms) h (λ k d l. enum_member_valid (get_or (m ∷ ms) k d)))

attribute_valid : (a : Attr) → IsByName (λ m. m.key) a.members → IsValid (attribute_tree a)
attribute_valid a h =
    object_of_valid (
    (codes "caption", words a.caption)
    ∷ (codes "description", words a.description)
    ∷ (codes "enum", enumeration a.members)
    ∷ (codes "group", words a.group)
    ∷ (codes "is_array", flag a.is_array)
    ∷ (codes "object", words (object_key a.target))
    ∷ (codes "profile", words a.profile)
    ∷ (codes "requirement", Some (tree.Words (requirement_text a.requirement)))
    ∷ (codes "sibling", words a.sibling)
    ∷ (codes "type", Some (tree.Words (type_text a.target)))
    ∷ []) refl (
      words_valid (codes "caption") a.caption,
      (
        words_valid (codes "description") a.description,
        (
          enumeration_valid (codes "enum") a.members h,
          (
            words_valid (codes "group") a.group,
            (
              flag_valid (codes "is_array") a.is_array,
              (
                words_valid (codes "object") (object_key a.target),
                (
                  words_valid (codes "profile") a.profile,
                  (
                    word_valid (requirement_text a.requirement),
                    (
                      words_valid (codes "sibling") a.sibling,
                      (word_valid (type_text a.target), tt),
                    ),
                  ),
                ),
              ),
            ),
          ),
        ),
      ),
    )

constraints_valid : (name : List ℕ) (some one : List (List ℕ)) → IsValidField (name, constraints some one)
constraints_valid name [] [] = tt
constraints_valid name [] (t ∷ ts) =
    object_of_valid ((codes "at_least_one", texts []) ∷ (codes "just_one", texts (t ∷ ts)) ∷ []) refl (tt, (texts_valid (codes "just_one") (t ∷ ts), tt))
constraints_valid name (s ∷ ss) one =
    object_of_valid ((codes "at_least_one", texts (s ∷ ss)) ∷ (codes "just_one", texts one) ∷ []) refl
    (texts_valid (codes "at_least_one") (s ∷ ss), (texts_valid (codes "just_one") one, tt))

pub fragment_valid : (item : Item) → IsByName (λ a. a.name) item.attrs → All (λ a. IsByName (λ m. m.key) a.members) item.attrs
    → IfSome item.category_uid (λ n. n < 2 ^ 64) → IfSome item.class_uid (λ n. n < 2 ^ 64) → IsValid (fragment_tree item)
fragment_valid item h m category class =
    object_of_valid (
    (codes "attributes", Some (tree.Members (map attribute_member item.attrs)))
    ∷ (codes "caption", words item.caption)
    ∷ (codes "category", words item.category)
    ∷ (codes "category_uid", number item.category_uid)
    ∷ (codes "class_uid", number item.class_uid)
    ∷ (codes "constraints", constraints item.at_least_one item.just_one)
    ∷ (codes "description", words item.description)
    ∷ (codes "extends", words item.parent)
    ∷ (codes "hidden", flag item.hidden)
    ∷ (codes "profiles", texts item.profiles)
    ∷ []) refl (
      object_valid (map attribute_member item.attrs) (each_member_valid (λ a. a.name) attribute_tree item.attrs h (λ k d l. attribute_valid (get_or item.attrs k d) (m k d l))),
      (
        words_valid (codes "caption") item.caption,
        (
          words_valid (codes "category") item.category,
          (
            number_valid (codes "category_uid") item.category_uid category,
            (
              number_valid (codes "class_uid") item.class_uid class,
              (
                constraints_valid (codes "constraints") item.at_least_one item.just_one,
                (
                  words_valid (codes "description") item.description,
                  (
                    words_valid (codes "extends") item.parent,
                    (
                      flag_valid (codes "hidden") item.hidden,
                      (texts_valid (codes "profiles") item.profiles, tt),
                    ),
                  ),
                ),
              ),
            ),
          ),
        ),
      ),
    )
