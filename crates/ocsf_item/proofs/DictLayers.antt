-- What dictionaries say, layer by layer.
use Rattle.std.proofs.Common.{◌≡◌, ℕ, ◌+◌, ◌≤◌, List, [], ◌∷◌, ◌++◌, take, length, Some, None, sym, ◌∙◌, ap}
use Rattle.std.specs.Prelude.{slice_get, flat_map}
use Rattle.std.proofs.lemmas.List.{reverse-append}
use Rattle.ocsf_bundle.specs.Looks.{DictOf}
use Rattle.ocsf_rules.specs.declared.said.DictSaid.{DictSaid}
use Rattle.ocsf_rules.specs.Attribute.{dict_said, type_said_in}
use Rattle.ocsf_lists.specs.Given.{first_given}
use Rattle.ocsf_item.specs.Dictionary.{dict_over}
use Rattle.ocsf_walk.proofs.Lists.{take_none, take_some, take_all}

-- one layer more, the last
dict_said-push : (ds : List DictOf) (d : DictOf) → dict_over d (dict_said ds) ≡ dict_said (ds ++ d ∷ [])
dict_said-push ds d = let back = sym (reverse-append ds (d ∷ [])) in λ i. record {
  caption = first_given (λ d. d.entry.caption) (back i);
  description = first_given (λ d. d.entry.description) (back i);
  type_said = first_given (λ d. type_said_in d.ext d.entry.type_name) (back i);
  is_array = first_given (λ d. d.entry.is_array) (back i);
  sibling = first_given (λ d. d.entry.sibling) (back i);
  members = flat_map (λ d. d.entry.members) (back i);
}

module _ (ds : List DictOf) (i : ℕ) where
  pub dict_more : (d : DictOf) (was now : DictSaid) → Some d ≡ slice_get ds i → was ≡ dict_said (take i ds) → now ≡ dict_over d was → now ≡ dict_said (take (i + 1) ds)
  dict_more d was now is before over = over ∙ ap (dict_over d) before ∙ dict_said-push (take i ds) d ∙ ap (λ xs. dict_said xs) (sym (take_some ds i d (sym is)))

  pub dict_end : (was : DictSaid) → None ≡ slice_get ds i → was ≡ dict_said (take i ds) → was ≡ dict_said ds
  dict_end was is before = before ∙ ap (λ xs. dict_said xs) (take_none ds i (sym is))

  pub dict_through : (was : DictSaid) → length ds ≤ i → was ≡ dict_said (take i ds) → was ≡ dict_said ds
  dict_through was few before = before ∙ ap (λ xs. dict_said xs) (take_all ds i few)
