-- Equal looks at the cells of an attribute give equal dictionary entries, targets and marks.
use Rattle.std.proofs.Common.{◌≡◌, ℕ, List, [], ◌∷◌, ◌++◌, Bool, true, false, Option, Some, None, unwrap_or, is_some, if◌then◌else◌, refl, ◌∙◌, ap, ◌||◌}
use Rattle.std.specs.Prelude.{codes}
use Rattle.std.specs.Option.{option_map, option_map_or, option_and_then, option_or}
use Rattle.ocsf_tree.specs.declared.key.Key.{Key}
use Rattle.ocsf_tree.specs.declared.attribute.EnumMember.{EnumMember}
use Rattle.ocsf_tree.specs.declared.fault.Code.TheVariants as code
use Rattle.ocsf_tree.specs.Key.{key_text}
use Rattle.ocsf_raw.specs.declared.attribute.Mark.{Mark}
use Rattle.ocsf_schema.specs.declared.records.Target.TheVariants as target
use Rattle.ocsf_bundle.specs.Looks.{Looks, look, is_there}
use Rattle.ocsf_bundle.specs.declared.cells.Cell.TheVariants as cell
use Rattle.ocsf_merge.specs.declared.spoken.Spoken.{Spoken}
use Rattle.ocsf_rules.specs.declared.said.TypeSaid.{TypeSaid}
use Rattle.ocsf_rules.specs.Names.{item_at, tried}
use Rattle.ocsf_rules.specs.Attribute.{dict_said, type_of, members_of, profile_of, is_base_type, is_data_type, object_cells, object_named, open_object, target_named, target_of, attr_from, attr_of}
use Rattle.ocsf_rules.specs.Compiled.{enumeration}
use Rattle.ocsf_rules.specs.ItemFaults.{fault, type_text}
use Rattle.ocsf_rules.specs.Reads.{mark_reads, type_reads, profile_reads, attribute_reads}
use Rattle.ocsf_rule_laws.proofs.Agreement.{left, right, same_dict, same_listed, same_tried, same_from_found}
use Rattle.ocsf_rule_laws.proofs.SameLayers.{same_mark_key, same_mark_reads}
use Rattle.ocsf_rule_laws.specs.LookLaws.{AgreeAt}

module _ (b c : Looks) (ext : List ℕ) where
  -- ---- the type

  module _ (t : TypeSaid) (agree : AgreeAt b c (type_reads b ext t)) where
    same_data_type : is_data_type b t.name ≡ is_data_type c t.name
    same_data_type =
        elim (is_base_type t.name) as (λ h. AgreeAt b c ((if h then [] else cell.Kind t.name ∷ []) ++ (if is_data_type b t.name then [] else tried b (object_cells ext t))) → (h || is_there (b.kinds t.name)) ≡ (h || is_there (c.kinds t.name))) [
          | true ↦ λ a. refl
          | false ↦ λ a. same_listed b c t.name a.0
        ] agree

    at_objects : AgreeAt b c (if is_data_type b t.name then [] else tried b (object_cells ext t))
    at_objects = right (λ x. look b x ≡ look c x) (if is_base_type t.name then [] else cell.Kind t.name ∷ []) (if is_data_type b t.name then [] else tried b (object_cells ext t)) agree

    same_object : AgreeAt b c (tried b (object_cells ext t)) → object_named b ext t ≡ object_named c ext t
    same_object a = ap (option_map (λ (k : Key). k.name)) (same_from_found b c item_at item_at (λ x e. refl) (object_cells ext t) a)

    same_target_named : target_named b ext t ≡ target_named c ext t
    same_target_named =
        elim (is_data_type b t.name) as (λ h. AgreeAt b c (if h then [] else tried b (object_cells ext t)) → (if h then Some (target.Simple t.name) else option_or (option_map target.Object (object_named b ext t)) (open_object t.name)) ≡ (if h then Some (target.Simple t.name) else option_or (option_map target.Object (object_named c ext t)) (open_object t.name))) [
          | true ↦ λ a. refl
          | false ↦ λ a. ap (λ o. option_or (option_map target.Object o) (open_object t.name)) (same_object a)
        ] at_objects
        ∙ ap (λ h. if h then Some (target.Simple t.name) else option_or (option_map target.Object (object_named c ext t)) (open_object t.name)) same_data_type

    same_type_reads : type_reads b ext t ≡ type_reads c ext t
    same_type_reads =
        ap (λ cells. (if is_base_type t.name then [] else cell.Kind t.name ∷ []) ++ cells)
        (elim (is_data_type b t.name) as (λ h. AgreeAt b c (if h then [] else tried b (object_cells ext t)) → (if h then [] else tried b (object_cells ext t)) ≡ (if h then [] else tried c (object_cells ext t))) [
          | true ↦ λ a. refl
          | false ↦ λ a. same_tried b c (object_cells ext t) a
        ] at_objects
        ∙ ap (λ h. if h then [] else tried c (object_cells ext t)) same_data_type)

  -- ---- the mark

  marked_reads : (is_key : Bool) (from : List ℕ) (mark : Mark) → AgreeAt b c (if is_key then [] else mark_reads b from mark) → (if is_key then [] else mark_reads b from mark) ≡ (if is_key then [] else mark_reads c from mark)
  marked_reads true from mark agree = refl
  marked_reads false from mark agree = same_mark_reads b c from mark agree

  -- ---- the attribute

  module _ (s : Spoken) (agree : AgreeAt b c (attribute_reads b ext s)) where
    pub same_dict_entries : b.dict s.attr.name ≡ c.dict s.attr.name
    same_dict_entries = same_dict b c s.attr.name agree.0

    at_type : AgreeAt b c (if is_there (b.dict s.attr.name) then option_map_or (type_reads b ext) (type_of (dict_said (b.dict s.attr.name)) s) [] else [])
    at_type = left (λ x. look b x ≡ look c x) (if is_there (b.dict s.attr.name) then option_map_or (type_reads b ext) (type_of (dict_said (b.dict s.attr.name)) s) [] else []) (profile_reads b s) agree.1

    at_mark : AgreeAt b c (profile_reads b s)
    at_mark = right (λ x. look b x ≡ look c x) (if is_there (b.dict s.attr.name) then option_map_or (type_reads b ext) (type_of (dict_said (b.dict s.attr.name)) s) [] else []) (profile_reads b s) agree.1

    same_type_of : type_of (dict_said (b.dict s.attr.name)) s ≡ type_of (dict_said (c.dict s.attr.name)) s
    same_type_of = ap (λ ds. type_of (dict_said ds) s) same_dict_entries

    pub same_target : target_of b ext s ≡ target_of c ext s
    same_target =
        elim (is_there (b.dict s.attr.name)) as (λ h. AgreeAt b c (if h then option_map_or (type_reads b ext) (type_of (dict_said (b.dict s.attr.name)) s) [] else []) → (if h then option_and_then (target_named b ext) (type_of (dict_said (b.dict s.attr.name)) s) else None) ≡ (if h then option_and_then (target_named c ext) (type_of (dict_said (b.dict s.attr.name)) s) else None)) [
          | false ↦ λ a. refl
          | true ↦ elim (type_of (dict_said (b.dict s.attr.name)) s) as (λ o. AgreeAt b c (option_map_or (type_reads b ext) o []) → option_and_then (target_named b ext) o ≡ option_and_then (target_named c ext) o) [
            | None ↦ λ a. refl
            | Some t ↦ λ a. same_target_named t a
          ]
        ] at_type
        ∙ (λ i. if is_there (same_dict_entries i) then option_and_then (target_named c ext) (same_type_of i) else None)

    same_typed : (if is_there (b.dict s.attr.name) then option_map_or (type_reads b ext) (type_of (dict_said (b.dict s.attr.name)) s) [] else []) ≡ (if is_there (c.dict s.attr.name) then option_map_or (type_reads c ext) (type_of (dict_said (c.dict s.attr.name)) s) [] else [])
    same_typed =
        elim (is_there (b.dict s.attr.name)) as (λ h. AgreeAt b c (if h then option_map_or (type_reads b ext) (type_of (dict_said (b.dict s.attr.name)) s) [] else []) → (if h then option_map_or (type_reads b ext) (type_of (dict_said (b.dict s.attr.name)) s) [] else []) ≡ (if h then option_map_or (type_reads c ext) (type_of (dict_said (b.dict s.attr.name)) s) [] else [])) [
          | false ↦ λ a. refl
          | true ↦ elim (type_of (dict_said (b.dict s.attr.name)) s) as (λ o. AgreeAt b c (option_map_or (type_reads b ext) o []) → option_map_or (type_reads b ext) o [] ≡ option_map_or (type_reads c ext) o []) [
            | None ↦ λ a. refl
            | Some t ↦ λ a. same_type_reads t a
          ]
        ] at_type
        ∙ (λ i. if is_there (same_dict_entries i) then option_map_or (type_reads c ext) (same_type_of i) [] else [])

    pub same_attribute_reads : attribute_reads b ext s ≡ attribute_reads c ext s
    same_attribute_reads = λ i. cell.Dict s.attr.name ∷ same_typed i ++ marked_reads s.mark_is_key s.mark_from s.attr.mark at_mark i

    same_profile : profile_of b s ≡ profile_of c s
    same_profile = same_mark_key b c s.mark_is_key s.mark_from s.attr.mark at_mark

    pub same_attr : (m n : Option (List EnumMember)) → m ≡ n → attr_of b ext m s ≡ attr_of c ext n s
    same_attr m n e = λ i. attr_from s (dict_said (same_dict_entries i)) (unwrap_or (same_target i) target.Anything) (same_profile i) (e i)

    pub same_enumeration : enumeration b s ≡ enumeration c s
    same_enumeration = ap (λ ds. members_of (dict_said ds) s) same_dict_entries

pub same_attribute_fault : (b c : Looks) (k : Key) (ext : List ℕ) (s : Spoken) (dict : b.dict s.attr.name ≡ c.dict s.attr.name) → target_of b ext s ≡ target_of c ext s
    → (if is_there (b.dict s.attr.name) then (if is_some (target_of b ext s) then [] else fault code.KindUnknown (key_text k) (s.attr.name ++ codes " " ++ type_text (type_of (dict_said (b.dict s.attr.name)) s)) ∷ []) else fault code.AttributeUnknown (key_text k) s.attr.name ∷ [])
    ≡ (if is_there (c.dict s.attr.name) then (if is_some (target_of c ext s) then [] else fault code.KindUnknown (key_text k) (s.attr.name ++ codes " " ++ type_text (type_of (dict_said (c.dict s.attr.name)) s)) ∷ []) else fault code.AttributeUnknown (key_text k) s.attr.name ∷ [])
same_attribute_fault b c k ext s dict leads =
    λ i. if is_there (dict i) then (if is_some (leads i) then [] else fault code.KindUnknown (key_text k) (s.attr.name ++ codes " " ++ type_text (type_of (dict_said (dict i)) s)) ∷ []) else fault code.AttributeUnknown (key_text k) s.attr.name ∷ []
