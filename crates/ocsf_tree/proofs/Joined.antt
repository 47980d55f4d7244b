-- The text of a list or an object, of the texts of its parts.
use Rattle.std.proofs.Common.{◌≡◌, ℕ, true, false, List, [], ◌∷◌, ◌++◌, map, refl, sym, ap, ◌∙◌, append_assoc, rules}
use Rattle.std.specs.List.{join_with_byte}
use Rattle.json.specs.Print.{quoted}
use Rattle.serde_json.specs.Written.{compact_text, items_text, members_text}
use Rattle.serde_json.specs.Data.{string}
use Rattle.ocsf_tree.specs.declared.tree.Tree.{Tree, the_lemmas}
use Rattle.ocsf_tree.specs.declared.tree.Tree.TheVariants as tree
use Rattle.ocsf_tree.specs.declared.tree.Member.{Member}
use Rattle.ocsf_tree.specs.Data.{data_of, list_data, members_data}
use Rattle.ocsf_tree.specs.CompactText.{text, quoted_text, array_text, member_text, object_text}
use Rattle.ocsf_tree.specs.Laws.{IsTextOfParts}
use Rattle.ocsf_tree.proofs.Views.{data_of-List, data_of-Members}

data_of-Words : (words : List ℕ) → data_of (tree.Words words) ≡ string words
data_of-Words words = search (rules, the_lemmas)

-- the items after a first one, and the bracket
items_joined : (t : Tree) (ts : List Tree) → text t ++ items_text true (list_data ts) ≡ join_with_byte 44 (map text (t ∷ ts)) ++ 93 ∷ []
items_joined t [] = refl
items_joined t (u ∷ us) = ap (λ r. text t ++ 44 ∷ r) (items_joined u us) ∙ sym (append_assoc (text t) (44 ∷ join_with_byte 44 (map text (u ∷ us))) (93 ∷ []))

items_text-array : (ts : List Tree) → 91 ∷ items_text false (list_data ts) ≡ array_text (map text ts)
items_text-array [] = refl
items_text-array (t ∷ ts) = ap (λ r. 91 ∷ r) (items_joined t ts)

pub text-List : (ts : List Tree) → text (tree.List ts) ≡ array_text (map text ts)
text-List ts = ap compact_text (data_of-List ts) ∙ items_text-array ts

abbrev piece : Member → List ℕ × List ℕ
piece m = (m.name, text m.value)

one_member : (m : Member) (rest : List ℕ) → quoted m.name ++ 58 ∷ (text m.value ++ rest) ≡ member_text (piece m) ++ rest
one_member m rest = sym (append_assoc (quoted m.name ++ 58 ∷ []) (text m.value) rest ∙ append_assoc (quoted m.name) (58 ∷ []) (text m.value ++ rest))

members_joined : (m : Member) (ms : List Member)
    → member_text (piece m) ++ members_text true (members_data ms) ≡ join_with_byte 44 (map member_text (map piece (m ∷ ms))) ++ 125 ∷ []
members_joined m [] = refl
members_joined m (l ∷ ls) =
    ap (λ r. member_text (piece m) ++ 44 ∷ r) (one_member l (members_text true (members_data ls)) ∙ members_joined l ls)
    ∙ sym (append_assoc (member_text (piece m)) (44 ∷ join_with_byte 44 (map member_text (map piece (l ∷ ls)))) (125 ∷ []))

members_text-object : (ms : List Member) → 123 ∷ members_text false (members_data ms) ≡ object_text (map piece ms)
members_text-object [] = refl
members_text-object (m ∷ ms) = ap (λ r. 123 ∷ r) (one_member m (members_text true (members_data ms)) ∙ members_joined m ms)

pub text-Members : (ms : List Member) → text (tree.Members ms) ≡ object_text (map piece ms)
text-Members ms = ap compact_text (data_of-Members ms) ∙ members_text-object ms

pub text-Words : (words : List ℕ) → text (tree.Words words) ≡ quoted_text words
text-Words words = ap compact_text (data_of-Words words)

pub text_of_parts : IsTextOfParts
text_of_parts = (text-Words, text-List, text-Members)
