-- Objects whose members were put one after another.
use Rattle.std.proofs.Common.{◌≡◌, ℕ, List, [], ◌++◌, Some, map, codes, ap, append_assoc}
use Rattle.std.proofs.lemmas.List.{append-nil}
use Rattle.ocsf_tree.specs.declared.tree.Tree.TheVariants as tree
use Rattle.ocsf_tree.specs.declared.tree.Member.{Member}
use Rattle.ocsf_schema.specs.declared.records.Attr.{Attr}
use Rattle.ocsf_schema.specs.declared.records.Item.{Item}
use Rattle.ocsf_schema.specs.Print.{shown, words, number, flag, texts, enumeration, type_text, object_key, attribute_tree, attribute_member, constraints, fragment_tree}
use Rattle.ocsf_tree.specs.Requirement.{requirement_text}

abbrev one_by_one : {X : Type 0} → List X → List X → List X → List X → List X → List X → List X → List X → List X → List X → List X
one_by_one a b c d e f g h i j = ((((((((a ++ b) ++ c) ++ d) ++ e) ++ f) ++ g) ++ h) ++ i) ++ j

ten_joined : {X : Type 0} (a b c d e f g h i j : List X) → one_by_one a b c d e f g h i j ≡ a ++ (b ++ (c ++ (d ++ (e ++ (f ++ (g ++ (h ++ (i ++ (j ++ [])))))))))
ten_joined a b c d e f g h i j = simp (append_assoc, append-nil)

abbrev word : List ℕ → List ℕ → List Member
word name text = shown (name, Some (tree.Words text))

abbrev attribute_parts : Attr → List Member
attribute_parts attr =
    one_by_one
    (shown (codes "caption", words attr.caption))
    (shown (codes "description", words attr.description))
    (shown (codes "enum", enumeration attr.members))
    (shown (codes "group", words attr.group))
    (shown (codes "is_array", flag attr.is_array))
    (shown (codes "object", words (object_key attr.target)))
    (shown (codes "profile", words attr.profile))
    (word (codes "requirement") (requirement_text attr.requirement))
    (shown (codes "sibling", words attr.sibling))
    (word (codes "type") (type_text attr.target))

pub attribute_joined : (attr : Attr) → tree.Members (attribute_parts attr) ≡ attribute_tree attr
attribute_joined attr =
    ap tree.Members
    (ten_joined
    (shown (codes "caption", words attr.caption))
    (shown (codes "description", words attr.description))
    (shown (codes "enum", enumeration attr.members))
    (shown (codes "group", words attr.group))
    (shown (codes "is_array", flag attr.is_array))
    (shown (codes "object", words (object_key attr.target)))
    (shown (codes "profile", words attr.profile))
    (word (codes "requirement") (requirement_text attr.requirement))
    (shown (codes "sibling", words attr.sibling))
    (word (codes "type") (type_text attr.target)))

abbrev fragment_parts : Item → List Member
fragment_parts item =
    one_by_one
    (shown (codes "attributes", Some (tree.Members (map attribute_member item.attrs))))
    (shown (codes "caption", words item.caption))
    (shown (codes "category", words item.category))
    (shown (codes "category_uid", number item.category_uid))
    (shown (codes "class_uid", number item.class_uid))
    (shown (codes "constraints", constraints item.at_least_one item.just_one))
    (shown (codes "description", words item.description))
    (shown (codes "extends", words item.parent))
    (shown (codes "hidden", flag item.hidden))
    (shown (codes "profiles", texts item.profiles))

pub fragment_joined : (item : Item) → tree.Members (fragment_parts item) ≡ fragment_tree item
fragment_joined item =
    ap tree.Members
    (ten_joined
    (shown (codes "attributes", Some (tree.Members (map attribute_member item.attrs))))
    (shown (codes "caption", words item.caption))
    (shown (codes "category", words item.category))
    (shown (codes "category_uid", number item.category_uid))
    (shown (codes "class_uid", number item.class_uid))
    (shown (codes "constraints", constraints item.at_least_one item.just_one))
    (shown (codes "description", words item.description))
    (shown (codes "extends", words item.parent))
    (shown (codes "hidden", flag item.hidden))
    (shown (codes "profiles", texts item.profiles)))
