-- The fragments of a side's items, written one after another.
use Rattle.std.proofs.Common.{◌≡◌, ℕ, List, [], ◌∷◌, ◌++◌, Bool, true, false, ◌||◌, cond, filter, map, codes, refl, sym, ◌∙◌, ap, append_assoc}
use Rattle.std.specs.List.{join_with_byte, list_any}
use Rattle.std.proofs.lemmas.List.{append-nil, map-append}
use Rattle.std.proofs.lemmas.List.Elements.{filter-append}
use Rattle.std.proofs.lemmas.List.Folds.{list_any-append}
use Rattle.ocsf_tree.specs.declared.key.Side.{Side}
use Rattle.ocsf_tree.specs.declared.key.Side.TheVariants.{Class, Object}
use Rattle.ocsf_tree.specs.CompactText.{text, quoted_text, member_text, object_text}
use Rattle.ocsf_tree.proofs.Joined.{text-Members, text-Words}
use Rattle.ocsf_schema.specs.declared.records.Item.{Item}
use Rattle.ocsf_schema.specs.declared.parts.SchemaParts.{SchemaParts}
use Rattle.ocsf_schema.specs.Schema.{item_member, fragments, root_members, schema_text}
use Rattle.ocsf_schema.specs.Joining.{separator, label, is_of, item_text, joined_items, HoldsItems}

abbrev has_some : List (List ℕ) → Bool
has_some [] = false
has_some (x ∷ xs) = true

join-push : (xs : List (List ℕ)) (y : List ℕ) → join_with_byte 44 (xs ++ y ∷ []) ≡ join_with_byte 44 xs ++ (separator (has_some xs) ++ y)
join-push [] y = refl
join-push (x ∷ []) y = refl
join-push (x ∷ z ∷ zs) y = ap (λ (l : List ℕ). x ++ 44 ∷ l) (join-push (z ∷ zs) y) ∙ sym (append_assoc x (44 ∷ join_with_byte 44 (z ∷ zs)) (44 ∷ y))

abbrev item_texts : Side → List Item → List (List ℕ)
item_texts side items = map item_text (filter (is_of side) items)

has_some-item_texts : (side : Side) (items : List Item) → has_some (item_texts side items) ≡ list_any (is_of side) items
has_some-item_texts side [] = refl
has_some-item_texts side (item ∷ items) =
    elim (is_of side item) as (λ b. has_some (map item_text (cond b (item ∷ filter (is_of side) items) (filter (is_of side) items))) ≡ (b || list_any (is_of side) items)) [
      | true ↦ refl
      | false ↦ has_some-item_texts side items
    ]

more_texts : (side : Side) (items : List Item) (item : Item) (b : Bool) → is_of side item ≡ b → item_texts side (items ++ item ∷ []) ≡ item_texts side items ++ map item_text (cond b (item ∷ []) [])
more_texts side items item b e =
    ap (map item_text) (filter-append (is_of side) items (item ∷ []))
    ∙ (map-append item_text (filter (is_of side) items) (filter (is_of side) (item ∷ []))
    ∙ ap (λ (t : Bool). item_texts side items ++ map item_text (cond t (item ∷ []) [])) e)

any_or : (b : Bool) → (b || (false || false)) ≡ b
any_or true = refl
any_or false = refl

or_true : (b : Bool) → (b || (true || false)) ≡ true
or_true true = refl
or_true false = refl

-- an item of the other side
pub skipped : (side : Side) (items : List Item) (item : Item) (before out : List ℕ) (later : Bool) → is_of side item ≡ false → HoldsItems side items before out later → HoldsItems side (items ++ item ∷ []) before out later
skipped side items item before out later e h =
    record {
      written = h.written ∙ ap (λ (texts : List (List ℕ)). before ++ 123 ∷ join_with_byte 44 texts) (sym (more_texts side items item false e ∙ append-nil (item_texts side items)));
      later = h.later ∙ sym (list_any-append (is_of side) items (item ∷ []) ∙ (ap (λ (t : Bool). list_any (is_of side) items || (t || false)) e ∙ any_or (list_any (is_of side) items)));
    }

-- an item of this side
pub added : (side : Side) (items : List Item) (item : Item) (before out : List ℕ) (later : Bool) → is_of side item ≡ true → HoldsItems side items before out later
    → HoldsItems side (items ++ item ∷ []) before (out ++ (separator later ++ item_text item)) true
added side items item before out later e h =
    record {
      written =
          ap (λ (l : List ℕ). l ++ (separator later ++ item_text item)) h.written
          ∙ (append_assoc before (123 ∷ joined_items side items) (separator later ++ item_text item)
          ∙ ap (λ (l : List ℕ). before ++ 123 ∷ l)
          (ap (λ (t : Bool). joined_items side items ++ (separator t ++ item_text item)) (h.later ∙ sym (has_some-item_texts side items))
          ∙ sym (ap (join_with_byte 44) (more_texts side items item true e) ∙ join-push (item_texts side items) (item_text item))));
      later = sym (list_any-append (is_of side) items (item ∷ []) ∙ (ap (λ (t : Bool). list_any (is_of side) items || (t || false)) e ∙ or_true (list_any (is_of side) items)));
    }

pub nothing_yet : (side : Side) (before : List ℕ) → HoldsItems side [] before (before ++ 123 ∷ []) false
nothing_yet side before = record { written = refl; later = refl }

member_texts : (items : List Item) → map member_text (map (λ m. (m.name, text m.value)) (map item_member items)) ≡ map item_text items
member_texts [] = refl
member_texts (item ∷ items) = ap (λ (l : List (List ℕ)). item_text item ∷ l) (member_texts items)

-- all items are written
pub all_fragments : (side : Side) (items : List Item) (before out : List ℕ) (later : Bool) → HoldsItems side items before out later → out ++ 125 ∷ [] ≡ before ++ text (fragments side items)
all_fragments side items before out later h =
    ap (λ (l : List ℕ). l ++ 125 ∷ []) h.written
    ∙ (append_assoc before (123 ∷ joined_items side items) (125 ∷ [])
    ∙ ap (λ (l : List ℕ). before ++ l)
    (sym (text-Members (map item_member (filter (is_of side) items)) ∙ ap (λ (texts : List (List ℕ)). (123 ∷ join_with_byte 44 texts) ++ 125 ∷ []) (member_texts (filter (is_of side) items)))))

-- a name and a value make a member
pub labelled : (out : List ℕ) (later : Bool) (name value : List ℕ) → (out ++ label later name) ++ value ≡ out ++ (separator later ++ member_text (name, value))
labelled out later name value = append_assoc out (label later name) value ∙ ap (λ (l : List ℕ). out ++ l) (append_assoc (separator later) (quoted_text name ++ 58 ∷ []) value)

abbrev member_of : List ℕ → List ℕ → List ℕ
member_of name value = member_text (name, value)

one_by_one : (a b c d e f g h : List ℕ)
    → ((((((((123 ∷ a) ++ 44 ∷ b) ++ 44 ∷ c) ++ 44 ∷ d) ++ 44 ∷ e) ++ 44 ∷ f) ++ 44 ∷ g) ++ 44 ∷ h) ++ 125 ∷ 10 ∷ []
    ≡ ((123 ∷ (a ++ 44 ∷ (b ++ 44 ∷ (c ++ 44 ∷ (d ++ 44 ∷ (e ++ 44 ∷ (f ++ 44 ∷ (g ++ 44 ∷ h)))))))) ++ 125 ∷ []) ++ 10 ∷ []
one_by_one a b c d e f g h = simp append_assoc

all_members : (parts : SchemaParts)
    → ((((((((123 ∷ member_of (codes "categories") (text parts.categories))
    ++ 44 ∷ member_of (codes "classes") (text (fragments Class parts.pieces)))
    ++ 44 ∷ member_of (codes "dictionary") (text parts.dictionary))
    ++ 44 ∷ member_of (codes "extensions") (text parts.extensions))
    ++ 44 ∷ member_of (codes "objects") (text (fragments Object parts.pieces)))
    ++ 44 ∷ member_of (codes "profiles") (text parts.profiles))
    ++ 44 ∷ member_of (codes "types") (text parts.types))
    ++ 44 ∷ member_of (codes "version") (quoted_text parts.version))
    ++ 125 ∷ 10 ∷ []
    ≡ schema_text parts
all_members parts =
    one_by_one
    (member_of (codes "categories") (text parts.categories))
    (member_of (codes "classes") (text (fragments Class parts.pieces)))
    (member_of (codes "dictionary") (text parts.dictionary))
    (member_of (codes "extensions") (text parts.extensions))
    (member_of (codes "objects") (text (fragments Object parts.pieces)))
    (member_of (codes "profiles") (text parts.profiles))
    (member_of (codes "types") (text parts.types))
    (member_of (codes "version") (quoted_text parts.version))
    ∙ ap (λ (l : List ℕ). l ++ 10 ∷ [])
    (ap (λ (v : List ℕ).
    object_text (
    (codes "categories", text parts.categories)
    ∷ (codes "classes", text (fragments Class parts.pieces))
    ∷ (codes "dictionary", text parts.dictionary)
    ∷ (codes "extensions", text parts.extensions)
    ∷ (codes "objects", text (fragments Object parts.pieces))
    ∷ (codes "profiles", text parts.profiles)
    ∷ (codes "types", text parts.types)
    ∷ (codes "version", v)
    ∷ []))
    (sym (text-Words parts.version))
    ∙ sym (text-Members (root_members parts)))

-- the members of the root, written one after another
pub written_root : (parts : SchemaParts) (o0 o1 o2 o3 o4 o5 o6 o7 o8 out version : List ℕ)
    → o0 ≡ 123 ∷ [] → version ≡ quoted_text parts.version
    → o1 ≡ o0 ++ (separator false ++ member_text (codes "categories", text parts.categories))
    → o2 ≡ o1 ++ (separator true ++ member_text (codes "classes", text (fragments Class parts.pieces)))
    → o3 ≡ o2 ++ (separator true ++ member_text (codes "dictionary", text parts.dictionary))
    → o4 ≡ o3 ++ (separator true ++ member_text (codes "extensions", text parts.extensions))
    → o5 ≡ o4 ++ (separator true ++ member_text (codes "objects", text (fragments Object parts.pieces)))
    → o6 ≡ o5 ++ (separator true ++ member_text (codes "profiles", text parts.profiles))
    → o7 ≡ o6 ++ (separator true ++ member_text (codes "types", text parts.types))
    → o8 ≡ o7 ++ (separator true ++ member_text (codes "version", version))
    → out ≡ o8 ++ 125 ∷ 10 ∷ []
    → out ≡ schema_text parts
written_root parts o0 o1 o2 o3 o4 o5 o6 o7 o8 out version e0 v e1 e2 e3 e4 e5 e6 e7 e8 e =
    let p1 = e1 ∙ ap (λ (l : List ℕ). l ++ (member_of (codes "categories") (text parts.categories))) e0 in
    let p2 = e2 ∙ ap (λ (l : List ℕ). l ++ 44 ∷ member_of (codes "classes") (text (fragments Class parts.pieces))) p1 in
    let p3 = e3 ∙ ap (λ (l : List ℕ). l ++ 44 ∷ member_of (codes "dictionary") (text parts.dictionary)) p2 in
    let p4 = e4 ∙ ap (λ (l : List ℕ). l ++ 44 ∷ member_of (codes "extensions") (text parts.extensions)) p3 in
    let p5 = e5 ∙ ap (λ (l : List ℕ). l ++ 44 ∷ member_of (codes "objects") (text (fragments Object parts.pieces))) p4 in
    let p6 = e6 ∙ ap (λ (l : List ℕ). l ++ 44 ∷ member_of (codes "profiles") (text parts.profiles)) p5 in
    let p7 = e7 ∙ ap (λ (l : List ℕ). l ++ 44 ∷ member_of (codes "types") (text parts.types)) p6 in
    let p8 = e8 ∙ (ap (λ (l : List ℕ). o7 ++ 44 ∷ member_of (codes "version") l) v ∙ ap (λ (l : List ℕ). l ++ 44 ∷ member_of (codes "version") (quoted_text parts.version)) p7) in
    e ∙ (ap (λ (l : List ℕ). l ++ 125 ∷ 10 ∷ []) p8 ∙ all_members parts)
