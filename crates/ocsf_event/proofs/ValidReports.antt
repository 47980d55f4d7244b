-- A report is answered as a valid tree.
use Rattle.std.proofs.Common.{◌≡◌, ℕ, List, [], ◌∷◌, map, Bool, true, ◌&&◌, codes, refl, ap, rules}
use Rattle.ocsf_tree.specs.declared.tree.Tree.{the_lemmas}
use Rattle.ocsf_tree.specs.Data.{data_of}
use Rattle.ocsf_tree.specs.Valid.{IsValid, IsValidList, is_valid}
use Rattle.ocsf_tree.specs.Place.{pointer_text}
use Rattle.ocsf_tree.specs.declared.tree.Tree.TheVariants as tree
use Rattle.ocsf_tree.proofs.Valid.{IsValidList-cons, list_valid, object_valid}
use Rattle.ocsf_event_rules.specs.Wrong.{Violation}
use Rattle.ocsf_event.specs.Answer.{code_words, word, violation_tree, report_tree}

three : (a b c : Bool) → a ≡ true → b ≡ true → c ≡ true → (a && (b && (c && true))) ≡ true
three a b c p q r = rw (p, q, r) refl

word_valid : (text : List ℕ) → IsValid (tree.Words text)
word_valid text = search (rules, the_lemmas)

violation_valid : (v : Violation) → IsValid (violation_tree v)
violation_valid v =
    object_valid (word (codes "code") (code_words v.code) ∷ word (codes "detail") v.detail ∷ word (codes "place") (pointer_text v.place) ∷ [])
    (three (is_valid (data_of (tree.Words (code_words v.code)))) (is_valid (data_of (tree.Words v.detail))) (is_valid (data_of (tree.Words (pointer_text v.place))))
    (word_valid (code_words v.code)) (word_valid v.detail) (word_valid (pointer_text v.place)))

violations_valid : (report : List Violation) → IsValidList (map violation_tree report)
violations_valid [] = refl
violations_valid (v ∷ vs) = IsValidList-cons (violation_tree v) (map violation_tree vs) (violation_valid v) (violations_valid vs)

pub report_valid : (report : List Violation) → IsValid (report_tree report)
report_valid report =
    object_valid (record { name = codes "violations"; value = tree.List (map violation_tree report) } ∷ [])
    (ap (λ (b : Bool). b && true) (list_valid (map violation_tree report) (violations_valid report)))
