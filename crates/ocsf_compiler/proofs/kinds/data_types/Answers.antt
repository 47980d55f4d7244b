use Rattle.std.proofs.Common.{◌≡◌, ℕ, List, ◌++◌, IfOk, codes, sym, ap, subst, ◌∙◌}
use Rattle.ocsf_lists.specs.ByName.{put_by_name}
use Rattle.ocsf_lists.proofs.FirstOfEach.{first_of_each-by_name}
use Rattle.ocsf_bundle.specs.Listing.{in_byte_order}
use Rattle.ocsf_rules.specs.MergedDictionary.{base_types}
use Rattle.ocsf_compiler.proofs.kinds.data_types.Goals as goal

abbrev put : List ℕ → List (List ℕ) → List (List ℕ)
put name names = put_by_name (λ n. n) name names

pub returns : goal.returns
returns c =
    let last = codes "string_t" in
    let five : c.in_ok-listed-5.listed ≡ put (codes "float_t") (put (codes "integer_t") (put (codes "json_t") (put (codes "long_t") (put last c.args.listed)))) =
    c.in_ok-listed-5.ensures.names
    ∙ ap (put (codes "float_t")) (c.in_ok-listed-4.ensures.names
    ∙ ap (put (codes "integer_t")) (c.in_ok-listed-3.ensures.names
    ∙ ap (put (codes "json_t")) (c.in_ok-listed-2.ensures.names
    ∙ ap (put (codes "long_t")) c.in_ok-listed.ensures.names))) in
    let all : put (codes "boolean_t") c.in_ok-listed-5.listed ≡ in_byte_order (base_types ++ c.args.listed) =
    ap (put (codes "boolean_t")) (five
    ∙ ap (λ l. put (codes "float_t") (put (codes "integer_t") (put (codes "json_t") (put (codes "long_t") (put last l))))) (sym (first_of_each-by_name (λ n. n) c.args.listed c.requires))) in
    let P : List (List ℕ) → Type 0 = λ l. IfOk c.with_name-6.result (λ made. made ≡ l) in
    subst P all c.with_name-6.ensures.names
