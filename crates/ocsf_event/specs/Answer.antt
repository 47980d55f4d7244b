-- A report as it is answered.
use Rattle.std.specs.Prelude.{ℕ, List, [], ◌∷◌, map, codes, slice_get, unwrap_or}
use Rattle.ocsf_tree.specs.declared.tree.Tree.{Tree}
use Rattle.ocsf_tree.specs.declared.tree.Tree.TheVariants as tree
use Rattle.ocsf_tree.specs.declared.tree.Member.{Member}
use Rattle.ocsf_tree.specs.Place.{pointer_text}
use Rattle.ocsf_event_rules.specs.Wrong.{Violation}

-- the names of the codes by their ranks, which begin with 1
abbrev pub code_names : List (List ℕ)
code_names =
    []
    ∷ codes "class_unknown"
    ∷ codes "attribute_unknown"
    ∷ codes "profile_inactive"
    ∷ codes "required_missing"
    ∷ codes "wrong_type"
    ∷ codes "too_long"
    ∷ codes "out_of_range"
    ∷ codes "pattern"
    ∷ codes "not_an_instant"
    ∷ codes "not_a_value"
    ∷ codes "enum_unknown"
    ∷ codes "at_least_one"
    ∷ codes "just_one"
    ∷ codes "number_mismatch"
    ∷ codes "profile_unknown"
    ∷ []

abbrev pub code_words : ℕ → List ℕ
code_words code = unwrap_or (slice_get code_names code) []

abbrev pub word : List ℕ → List ℕ → Member
word name text = record { name = name; value = tree.Words text }

-- the place is told by its JSON Pointer
abbrev pub violation_tree : Violation → Tree
violation_tree v =
    tree.Members
    (word (codes "code") (code_words v.code)
    ∷ word (codes "detail") v.detail
    ∷ word (codes "place") (pointer_text v.place)
    ∷ [])

abbrev pub report_tree : List Violation → Tree
report_tree report =
    tree.Members (record { name = codes "violations"; value = tree.List (map violation_tree report) } ∷ [])
