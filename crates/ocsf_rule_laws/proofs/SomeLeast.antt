-- A valid tree has a first fault by place, or none: of whatever is wanted of it.
use Rattle.std.proofs.Common.{◌≡◌, ℕ, zero, suc, ◌+◌, ◌≤◌, List, [], ◌∷◌, map, drop, drop-drop, length, length-drop, Bool, true, false, cond, ◌&&◌, ◌||◌, not, Option, Some, None, refl, sym, ap, ◌∙◌, subst, arith}
use Rattle.std.specs.List.{slice_get, list_any}
use Rattle.std.specs.Option.{option_or}
use Rattle.std.specs.Str.{bytes_eq}
use denote.Hole.Carrier.{roll}
use Rattle.ocsf_tree.specs.declared.tree.Tree.{Tree, out-Tree, roll-Tree, out-roll-Tree, map-Tree, ind-Tree}
use Rattle.ocsf_tree.specs.declared.tree.Tree.TheOpen.{Tree-F}
use Rattle.ocsf_tree.specs.declared.tree.Member.{Member, roll-Member}
use Rattle.ocsf_tree.specs.declared.place.Step.{Step}
use Rattle.ocsf_tree.specs.declared.place.Step.TheVariants.{At, Name}
use Rattle.ocsf_tree.specs.Lookup.{member_in}
use Rattle.ocsf_tree.specs.Valid.{IsValid, IsValidList, IsValidMembers}
use Rattle.ocsf_tree.proofs.Valid.{first_item_valid, first_member_valid, items_of_valid, members_of_valid}
use Rattle.ocsf_raw.specs.declared.what.What.{What}
use Rattle.ocsf_raw.specs.declared.what.What.TheVariants.{Missing}
use Rattle.ocsf_raw.specs.declared.wanted.Wanted.{Wanted}
use Rattle.ocsf_raw.specs.declared.wanted.Wanted.TheVariants.{Plain, Listed, Object, Refused}
use Rattle.ocsf_raw.specs.declared.least_fault.Found.{Found}
use Rattle.ocsf_raw.specs.Wanted.{fault_here, item_wanted, member_wanted, counts}
use Rattle.ocsf_raw.specs.Shape.{Faults, IsLeast, is_given, names_needed, read_part, fault_at}
use Rattle.ocsf_lists.specs.Least.{lesser}
use Rattle.ocsf_raw.specs.Least.{stands_before, found_below, fault_of, fault_of_member, faults_of_items, faults_of_members, faults_missing}
use Rattle.ocsf_raw.proofs.Leasts.{least_alike, none_least, here_least, least_of_two}
use Rattle.ocsf_raw.proofs.LeastTrees.{list_least, object_least, null_least, flag_least, whole_least, words_least}
use Rattle.ocsf_raw.proofs.LeastParts.{NoneEarlier, no_members, member_passed, member_found, item_found, item_passed, no_item_found, nothing_wanted, none_missing, nothing_missing, missing_found}

abbrev HasLeast : Faults → Type 0
HasLeast faults = (found : Option Found) × IsLeast faults found

abbrev TreeHas : Tree → Type 0
TreeHas t = (wanted : Wanted) → IsValid t → HasLeast (fault_at wanted t)

abbrev MemberHas : Member → Type 0
MemberHas m = TreeHas m.value

-- ---- items

rest_at : (items : List Tree) (i : ℕ) (t : Tree) (ts : List Tree) → drop i items ≡ t ∷ ts → slice_get items i ≡ Some t
rest_at [] zero t ts e = cc
rest_at [] (suc i) t ts e = cc
rest_at (x ∷ xs) zero t ts e = cc
rest_at (x ∷ xs) (suc i) t ts e = rest_at xs i t ts e

rest_after : (items : List Tree) (i : ℕ) (t : Tree) (ts : List Tree) → drop i items ≡ t ∷ ts → drop (i + 1) items ≡ ts
rest_after items i t ts e = sym (drop-drop 1 i items) ∙ ap (drop 1) e

rest_none : (items : List Tree) (i : ℕ) → drop i items ≡ [] → length items ≤ i
rest_none items i e = let none : length (drop i items) ≡ 0 = ap length e in omega (arith, length-drop i items)

module _ (wanted : Wanted) (items : List Tree) where
  of_items : (i : ℕ) (rest : List ((t : Tree) × TreeHas t)) → drop i items ≡ map (λ e. e.0) rest → IsValidList (map (λ e. e.0) rest) → NoneEarlier wanted items i → HasLeast (faults_of_items (Some wanted) items)
  of_items i [] split v earlier =
      let past = rest_none items i split in
      (None, no_item_found wanted items (λ k q h. earlier k q (omega arith)))
  of_items i (e ∷ rest) split v earlier =
      let items_after = map (λ (e : (t : Tree) × TreeHas t). e.0) rest in
      let at = rest_at items i e.0 items_after split in
      let parts = first_item_valid e.0 items_after v in
      let here = e.1 wanted parts.0 in
      go here.0 here.1 at
      (λ least. of_items (i + 1) rest (rest_after items i e.0 items_after split) parts.1 (item_passed wanted items i e.0 at earlier least))
    where
      go : (found : Option Found) → IsLeast (fault_at wanted e.0) found → slice_get items i ≡ Some e.0 → (IsLeast (fault_at wanted e.0) None → HasLeast (faults_of_items (Some wanted) items)) → HasLeast (faults_of_items (Some wanted) items)
      go (Some f) least at later = (Some (found_below (At i) f), item_found wanted items i e.0 f at earlier least)
      go None least at later = later least

of_list : (wanted : Option Wanted) (items : List ((t : Tree) × TreeHas t)) → IsValidList (map (λ e. e.0) items) → HasLeast (faults_of_items wanted (map (λ e. e.0) items))
of_list None items v = (None, nothing_wanted (map (λ e. e.0) items))
of_list (Some wanted) items v = of_items wanted (map (λ e. e.0) items) 0 items refl v (λ k q h. absurd (omega arith))

-- ---- members

of_part : (read : Bool) (wanted : Option Wanted) (t : Tree) → TreeHas t → IsValid t → HasLeast (fault_of (read_part read wanted t))
of_part true (Some wanted) t has v = has wanted v
of_part true None t has v = (None, none_least _ (λ p. refl))
of_part false wanted t has v = (None, none_least _ (λ p. refl))

of_member : (wanted : Wanted) (name : List ℕ) (t : Tree) → TreeHas t → IsValid t → HasLeast (fault_of_member wanted name (Some t))
of_member (Plain w) name t has v = (None, none_least _ (λ p. refl))
of_member (Listed w) name t has v = (None, none_least _ (λ p. refl))
of_member (Object w) name t has v = of_part (counts w name (out-Tree t)) (member_wanted w name) t has v
of_member (Refused w) name t has v = (None, none_least _ (λ p. refl))

of_members : (wanted : Wanted) (ms : List ((m : Member) × MemberHas m)) → IsValidMembers (map (λ e. e.0) ms) → HasLeast (faults_of_members wanted (map (λ e. e.0) ms))
of_members wanted [] v = (None, no_members wanted)
of_members wanted (e ∷ ms) v =
    let parts = first_member_valid e.0 (map (λ e. e.0) ms) v in
    let here = of_member wanted e.0.name e.0.value e.1 parts.0 in
    let rest = of_members wanted ms parts.1 in
    go here.0 here.1 rest.0 rest.1
  where
    go : (a : Option Found) → IsLeast (fault_of_member wanted e.0.name (Some e.0.value)) a → (b : Option Found) → IsLeast (faults_of_members wanted (map (λ e. e.0) ms)) b → HasLeast (faults_of_members wanted (e.0 ∷ map (λ e. e.0) ms))
    go (Some f) least b rest = (Some (found_below (Name e.0.name) f), member_found wanted e.0 (map (λ e. e.0) ms) v f least)
    go None least b rest = (b, member_passed wanted e.0 (map (λ e. e.0) ms) v b least rest)

-- ---- members that are missing

module _ (ms : List Member) where
  either : (s t g : Bool) → cond ((s || t) && g) (Some Missing) None ≡ option_or (cond ((s || false) && g) (Some Missing) None) (cond (t && g) (Some Missing) None)
  either true true true = refl
  either true true false = refl
  either true false true = refl
  either true false false = refl
  either false true true = refl
  either false true false = refl
  either false false true = refl
  either false false false = refl

  missing_cons : (a : List ℕ) (bs : List (List ℕ)) (x y : Option Found) → IsLeast (faults_missing (a ∷ []) ms) x → IsLeast (faults_missing bs ms) y → IsLeast (faults_missing (a ∷ bs) ms) (lesser stands_before x y)
  missing_cons a bs x y left right =
      least_alike (faults_missing (a ∷ bs) ms) _ (lesser stands_before x y) alike (least_of_two (faults_missing (a ∷ []) ms) (faults_missing bs ms) x y left right)
    where
      alike : (p : List Step) → faults_missing (a ∷ bs) ms p ≡ option_or (faults_missing (a ∷ []) ms p) (faults_missing bs ms p)
      alike [] = refl
      alike (At i ∷ q) = refl
      alike (Name n ∷ []) = either (bytes_eq n a) (list_any (bytes_eq n) bs) (not (is_given (member_in n ms)))
      alike (Name n ∷ s ∷ q) = refl

  of_name : (name : List ℕ) (given : Bool) → is_given (member_in name ms) ≡ given → HasLeast (faults_missing (name ∷ []) ms)
  of_name name true e = (None, nothing_missing ms name e)
  of_name name false e = (Some (record { place = record { steps = Name name ∷ [] }; what = Missing }), missing_found ms name e)

  of_names : (names : List (List ℕ)) → HasLeast (faults_missing names ms)
  of_names [] = (None, none_missing ms)
  of_names (a ∷ bs) =
      let first = of_name a (is_given (member_in a ms)) refl in
      let rest = of_names bs in
      (lesser stands_before first.0 rest.0, missing_cons a bs first.0 rest.0 first.1 rest.1)

-- ---- trees

abbrev Layer : Type 0
Layer = Tree-F ((t : Tree) × TreeHas t) ((m : Member) × MemberHas m)

abbrev bare : Layer → Tree-F Tree Member
bare y = map-Tree ((t : Tree) × TreeHas t) ((m : Member) × MemberHas m) Tree Member (λ e. e.0) (λ e. e.0) y

below : (y : Layer) (wanted : Wanted) → IsValid (roll-Tree (bare y)) → fault_here wanted (out-Tree (roll-Tree (bare y))) ≡ None → out-Tree (roll-Tree (bare y)) ≡ bare y → HasLeast (fault_at wanted (roll-Tree (bare y)))
unfolding roll-Tree roll
below Tree-F.Null wanted v here shown = (None, null_least wanted (roll-Tree Tree-F.Null) here shown)
below (Tree-F.Flag b) wanted v here shown = (None, flag_least wanted (roll-Tree (Tree-F.Flag b)) here b shown)
below (Tree-F.Whole z) wanted v here shown = (None, whole_least wanted (roll-Tree (Tree-F.Whole z)) here z shown)
below (Tree-F.Words w) wanted v here shown = (None, words_least wanted (roll-Tree (Tree-F.Words w)) here w shown)
below (Tree-F.List ts) wanted v here shown =
    let inside = of_list (item_wanted wanted) ts (items_of_valid (map (λ e. e.0) ts) v) in
    (inside.0, list_least wanted (roll-Tree (Tree-F.List (map (λ e. e.0) ts))) here (map (λ e. e.0) ts) inside.0 shown inside.1)
below (Tree-F.Members ms) wanted v here shown =
    let members = map (λ (e : (m : Member) × MemberHas m). e.0) ms in
    let inside = of_members wanted ms (members_of_valid members v) in
    let missing = of_names members (names_needed wanted members) in
    (lesser stands_before inside.0 missing.0, object_least wanted (roll-Tree (Tree-F.Members members)) here members inside.0 missing.0 shown inside.1 missing.1)

layer : (y : Layer) → TreeHas (roll-Tree (bare y))
layer y wanted v = go (fault_here wanted (out-Tree (roll-Tree (bare y)))) refl
  where
    go : (o : Option What) → fault_here wanted (out-Tree (roll-Tree (bare y))) ≡ o → HasLeast (fault_at wanted (roll-Tree (bare y)))
    go (Some what) e = (Some (record { place = record { steps = [] }; what = what }), here_least (fault_at wanted (roll-Tree (bare y))) what e)
    go None e = below y wanted v e (out-roll-Tree (bare y))

each_member : (name : List ℕ) (e : (t : Tree) × TreeHas t) → MemberHas (roll-Member (record { name = name; value = e.0 }))
each_member name e = e.1

each_tree : (t : Tree) → TreeHas t
each_tree = ind-Tree TreeHas MemberHas (λ x y is. subst (λ z. TreeHas (roll-Tree z)) is (layer y)) (λ x y is. subst (λ z. MemberHas (roll-Member z)) is (each_member y.name y.value))

pub some_least : (wanted : Wanted) (t : Tree) → IsValid t → (found : Option Found) × IsLeast (fault_at wanted t) found
some_least wanted t = each_tree t wanted
