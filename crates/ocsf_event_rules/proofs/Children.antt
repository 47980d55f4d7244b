-- What stands directly in a value, and what holds of a value by what holds of all that stands in it.
use Rattle.std.proofs.Common.{◌≡◌, ℕ, zero, suc, List, [], ◌∷◌, map, Bool, true, false, Option, Some, None}
use Rattle.std.proofs.Common.{◌⊎◌, inl, inr, refl, sym, ◌∙◌, ap, subst, if◌then◌else◌}
use Rattle.std.specs.Prelude.{IfSome, Contains, slice_get}
use Rattle.std.specs.Str.{bytes_eq}
use Rattle.std.proofs.lemmas.Slice.Eq.{bytes_eq-Decides}
use Rattle.ocsf_tree.specs.declared.tree.Tree.{Tree, roll-Tree, map-Tree, ind-Tree}
use Rattle.ocsf_tree.specs.declared.tree.Tree.TheOpen.{Tree-F}
use Rattle.ocsf_tree.specs.declared.tree.Tree.TheVariants as tree
use Rattle.ocsf_tree.specs.declared.tree.Member.{Member, roll-Member}
use Rattle.ocsf_tree.specs.declared.place.Step.{Step}
use Rattle.ocsf_tree.specs.declared.place.Step.TheVariants.{At, Name}
use Rattle.ocsf_tree.specs.Lookup.{items_of, members_of, member_in}
use Rattle.ocsf_tree.specs.Valid.{IsValid}
use Rattle.ocsf_tree.proofs.Valid.{item_valid, items_of_valid, member_valid, members_of_valid}
use Rattle.ocsf_tree.proofs.WrittenOut.{out-Null, out-Flag, out-Whole, out-Words, out-List, out-Members}
use Rattle.ocsf_event_rules.specs.EventClass.{as_object}
use Rattle.ocsf_event_rules.specs.Profiles.{as_list}
use Rattle.ocsf_event_rules.proofs.AllowedEvents.{none_is_some, some_is}
use Rattle.ocsf_event_rules.proofs.Listed.{Listed, alike, either, each, each_at, of_some, one, here, later}

abbrev pub IsChild : Tree → Step → Tree → Type 0
IsChild value (Name name) child =
    (members : List Member) × (as_object value ≡ Some members) × (member_in name members ≡ Some child)
IsChild value (At k) child = (values : List Tree) × (as_list value ≡ Some values) × (slice_get values k ≡ Some child)

-- ---- all the way down

module _ (P : Tree → Type 0) where
  abbrev OfChildren : Tree → Type 0
  OfChildren value =
      (step : Step) (child : Tree) → IsValid value → IsChild value step child → IsValid child × P child

  module _ (from_children : (value : Tree) → OfChildren value → P value) where
    abbrev GoodTree : Type 0
    GoodTree = (t : Tree) × P t

    abbrev GoodMember : Type 0
    GoodMember = (m : Member) × P m.value

    good_item : (ts : List GoodTree) (k : ℕ) (child : Tree) → slice_get (map (λ t. t.0) ts) k ≡ Some child → P child
    good_item [] k child e = absurd (none_is_some child e)
    good_item (t ∷ ts) zero child e = subst P (some_is t.0 child e) t.1
    good_item (t ∷ ts) (suc k) child e = good_item ts k child e

    good_member : (ms : List GoodMember) (name : List ℕ) (child : Tree)
        → member_in name (map (λ m. m.0) ms) ≡ Some child → P child
    good_member [] name child e = absurd (none_is_some child e)
    good_member (m ∷ ms) name child e = by_name (bytes_eq m.0.name name) (λ e. good_member ms name child e) e
      where
        by_name : (b : Bool) → (member_in name (map (λ m. m.0) ms) ≡ Some child → P child)
            → (if b then Some m.0.value else member_in name (map (λ m. m.0) ms)) ≡ Some child → P child
        by_name true rest e = subst P (some_is m.0.value child e) m.1
        by_name false rest e = rest e

    abbrev bare : Tree-F GoodTree GoodMember → Tree-F Tree Member
    bare y = map-Tree GoodTree GoodMember Tree Member (λ e. e.0) (λ e. e.0) y

    valid_of : (o : Option Tree) (child : Tree) → IfSome o IsValid → o ≡ Some child → IsValid child
    valid_of None child v e = absurd (none_is_some child e)
    valid_of (Some t) child v e = subst IsValid (some_is t child e) v

    no_child : (value : Tree) → as_object value ≡ None → as_list value ≡ None → OfChildren value
    no_child value no_object no_list (Name name) child valid c = absurd (none_is_some c.0 (sym no_object ∙ c.1))
    no_child value no_object no_list (At k) child valid c = absurd (none_is_some c.0 (sym no_list ∙ c.1))

    in_list : (ts : List GoodTree) → OfChildren (tree.List (map (λ t. t.0) ts))
    in_list ts (Name name) child valid c =
        absurd (none_is_some c.0 (sym (ap members_of (out-List (map (λ t. t.0) ts))) ∙ c.1))
    in_list ts (At k) child valid c =
        let same : slice_get (map (λ t. t.0) ts) k ≡ Some child =
        subst (λ xs. slice_get xs k ≡ Some child)
        (some_is c.0 (map (λ t. t.0) ts) (sym c.1 ∙ ap items_of (out-List (map (λ t. t.0) ts)))) c.2 in (
          valid_of (slice_get (map (λ t. t.0) ts) k) child
              (item_valid (map (λ t. t.0) ts) k (items_of_valid (map (λ t. t.0) ts) valid)) same,
          good_item ts k child same,
        )

    in_members : (ms : List GoodMember) → OfChildren (tree.Members (map (λ m. m.0) ms))
    in_members ms (At k) child valid c =
        absurd (none_is_some c.0 (sym (ap items_of (out-Members (map (λ m. m.0) ms))) ∙ c.1))
    in_members ms (Name name) child valid c =
        let same : member_in name (map (λ m. m.0) ms) ≡ Some child =
        subst (λ xs. member_in name xs ≡ Some child)
        (some_is c.0 (map (λ m. m.0) ms) (sym c.1 ∙ ap members_of (out-Members (map (λ m. m.0) ms)))) c.2 in (
          valid_of (member_in name (map (λ m. m.0) ms)) child
              (member_valid name (map (λ m. m.0) ms) (members_of_valid (map (λ m. m.0) ms) valid)) same,
          good_member ms name child same,
        )

    good_layer : (y : Tree-F GoodTree GoodMember) → P (roll-Tree (bare y))
    unfolding roll-Tree denote.Hole.Carrier.roll
    good_layer Tree-F.Null =
        from_children tree.Null (no_child tree.Null (ap members_of out-Null) (ap items_of out-Null))
    good_layer (Tree-F.Flag b) =
        from_children (tree.Flag b) (no_child (tree.Flag b) (ap members_of (out-Flag b)) (ap items_of (out-Flag b)))
    good_layer (Tree-F.Whole z) =
        from_children (tree.Whole z) (no_child (tree.Whole z) (ap members_of (out-Whole z)) (ap items_of (out-Whole z)))
    good_layer (Tree-F.Words t) =
        from_children (tree.Words t) (no_child (tree.Words t) (ap members_of (out-Words t)) (ap items_of (out-Words t)))
    good_layer (Tree-F.List ts) = from_children (tree.List (map (λ t. t.0) ts)) (in_list ts)
    good_layer (Tree-F.Members ms) = from_children (tree.Members (map (λ m. m.0) ms)) (in_members ms)

    pub by_children : (value : Tree) → P value
    by_children = ind-Tree P (λ m. P m.value)
        (λ x y is. subst (λ z. P (roll-Tree z)) is (good_layer y))
        (λ x y is. subst (λ z. P (roll-Member z).value) is y.value.1)

pub child_valid : (value : Tree) (step : Step) (child : Tree) → IsValid value → IsChild value step child → IsValid child
child_valid value =
    by_children (λ t. (step : Step) (child : Tree) → IsValid t → IsChild t step child → IsValid child)
    (λ t children step child valid c. (children step child valid c).0) value

-- ---- they can be listed

pub member_there : (ms : List Member) (name : List ℕ) (child : Tree) → member_in name ms ≡ Some child
    → (m : Member) × Contains ms m × (m.name ≡ name)
member_there [] name child e = absurd (none_is_some child e)
member_there (m ∷ ms) name child e = by_name (bytes_eq m.name name) refl (λ e. member_there ms name child e) e
  where
    by_name : (b : Bool) → bytes_eq m.name name ≡ b
        → (member_in name ms ≡ Some child → (n : Member) × Contains ms n × (n.name ≡ name))
        → (if b then Some m.value else member_in name ms) ≡ Some child
        → (n : Member) × Contains (m ∷ ms) n × (n.name ≡ name)
    by_name true is rest e = (m, here m ms, (bytes_eq-Decides m.name name).0 is)
    by_name false is rest e = let found = rest e in (found.0, later m ms found.0 found.1, found.2)

abbrev Child : Type 0
Child = Step × Tree

module _ (value : Tree) where
  abbrev NamedOf : List Member → Child → Type 0
  NamedOf ms c =
      (m : Member) × Contains ms m
      × ((t : Tree) × (member_in m.name ms ≡ Some t) × (c ≡ (Name m.name, t)))

  abbrev Named : Child → Type 0
  Named c = (ms : List Member) × (as_object value ≡ Some ms) × NamedOf ms c

  abbrev PlacedIn : List Tree → Child → Type 0
  PlacedIn ts c = (k : ℕ) × (t : Tree) × (slice_get ts k ≡ Some t) × (c ≡ (At k, t))

  abbrev Placed : Child → Type 0
  Placed c = (ts : List Tree) × (as_list value ≡ Some ts) × PlacedIn ts c

  abbrev IsChildOf : Child → Type 0
  IsChildOf c = IsChild value c.0 c.1

  there : (c : Child) → Named c ⊎ Placed c → IsChildOf c
  there c (inl n) = let m = n.2 in let t = m.2 in subst IsChildOf (sym t.2) (n.0, n.1, t.1)
  there c (inr n) = let k = n.2 in subst IsChildOf (sym k.3) (n.0, n.1, k.2)

  back : (step : Step) (child : Tree) → IsChild value step child → Named (step, child) ⊎ Placed (step, child)
  back (Name name) child c =
      let m = member_there c.0 name child c.2 in
      inl (
        c.0,
        c.1,
        (
          m.0,
          m.1,
          (child, subst (λ n. member_in n c.0 ≡ Some child) (sym m.2) c.2, ap (λ n. (Name n, child)) (sym m.2)),
        ),
      )
  back (At k) child c = inr (c.0, c.1, (k, child, c.2, refl))

  pub children : Listed IsChildOf
  children =
      alike (λ c. Named c ⊎ Placed c) IsChildOf there (λ c is. back c.0 c.1 is)
      (either Named Placed
      (of_some NamedOf (as_object value) (λ ms is. each
      (λ m c. (t : Tree) × (member_in m.name ms ≡ Some t) × (c ≡ (Name m.name, t))) ms
      (λ m contained. of_some (λ t c. c ≡ (Name m.name, t)) (member_in m.name ms) (λ t found. one (Name m.name, t)))))
      (of_some PlacedIn (as_list value) (λ ts is. each_at (λ k t c. c ≡ (At k, t)) ts (λ k t found. one (At k, t)))))
