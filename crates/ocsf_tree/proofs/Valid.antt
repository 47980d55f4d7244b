-- The parts of a valid tree are valid, and a tree made of valid parts is valid.
use Rattle.std.proofs.Common.{◌≡◌, ℕ, zero, suc, ◌+◌, Bool, true, false, cond, ◌&&◌, List, [], ◌∷◌, ◌++◌, drop, drop-drop, Option, Some, None, Bor, Ordering, Less, Equal, Greater, nat_cmp, refl, sym, ap, ap₂, ◌∙◌, subst, arith, true≢false}
use Rattle.std.specs.Prelude.{All, AllPairs, slice_get, slice_index_or}
use Rattle.std.specs.Option.{option_copied, IfSome}
use Rattle.std.specs.Ordering.{match_ordering}
use Rattle.std.specs.Cmp.Lexicographic.{slice_cmp}
use Rattle.std.specs.Str.{bytes_eq}
use Rattle.std.proofs.lemmas.Bool.{and_parts}
use Rattle.std.proofs.lemmas.List.Elements.{All-nil, All-cons}
use Rattle.std.proofs.lemmas.List.Kept.{AllPairs-cons}
use Rattle.std.proofs.lemmas.Cmp.{nat_list_cmp_total}
use Rattle.ocsf_tree.specs.declared.tree.Tree.{Tree}
use Rattle.ocsf_tree.specs.declared.tree.Tree.TheVariants as tree
use Rattle.ocsf_tree.specs.declared.tree.Member.{Member}
use Rattle.ocsf_tree.specs.Data.{data_of, list_data, members_data}
use Rattle.ocsf_tree.specs.Lookup.{member_in}
use Rattle.ocsf_tree.specs.Valid.{is_valid, are_valid, members_valid, is_before, IsValid, IsValidList, IsValidMembers}
use Rattle.ocsf_tree.proofs.Views.{data_of-List, data_of-Members}

both : (a b : Bool) → a ≡ true → b ≡ true → (a && b) ≡ true
both a b p q = ap₂ (λ x y. x && y) p q

-- ---- one level

pub list_valid : (items : List Tree) → IsValidList items → IsValid (tree.List items)
list_valid items v = ap is_valid (data_of-List items) ∙ v

pub items_of_valid : (items : List Tree) → IsValid (tree.List items) → IsValidList items
items_of_valid items v = sym (ap is_valid (data_of-List items)) ∙ v

pub object_valid : (members : List Member) → IsValidMembers members → IsValid (tree.Members members)
object_valid members v = ap is_valid (data_of-Members members) ∙ v

pub members_of_valid : (members : List Member) → IsValid (tree.Members members) → IsValidMembers members
members_of_valid members v = sym (ap is_valid (data_of-Members members)) ∙ v

-- ---- items

pub IsValidList-cons : (t : Tree) (ts : List Tree) → IsValid t → IsValidList ts → IsValidList (t ∷ ts)
IsValidList-cons t ts v w = both (is_valid (data_of t)) (are_valid (list_data ts)) v w

pub first_item_valid : (t : Tree) (ts : List Tree) → IsValidList (t ∷ ts) → IsValid t × IsValidList ts
first_item_valid t ts v = and_parts (is_valid (data_of t)) _ v

pub IsValidList-append : (ts us : List Tree) → IsValidList ts → IsValidList us → IsValidList (ts ++ us)
IsValidList-append [] us v w = w
IsValidList-append (t ∷ ts) us v w = let p = first_item_valid t ts v in IsValidList-cons t (ts ++ us) p.0 (IsValidList-append ts us p.1 w)

pub IsValidList-push : (ts : List Tree) (t : Tree) → IsValidList ts → IsValid t → IsValidList (ts ++ t ∷ [])
IsValidList-push ts t v w = IsValidList-append ts (t ∷ []) v (IsValidList-cons t [] w refl)

pub each_item_valid : (ts : List Tree) → IsValidList ts → All IsValid ts
each_item_valid [] v = All-nil IsValid
each_item_valid (t ∷ ts) v = let p = first_item_valid t ts v in All-cons IsValid t ts p.0 (each_item_valid ts p.1)

pub IsValidList-All : (ts : List Tree) → All IsValid ts → IsValidList ts
IsValidList-All [] all = refl
IsValidList-All (t ∷ ts) all = IsValidList-cons t ts (all 0 t (omega arith)) (IsValidList-All ts (λ k d h. all (suc k) d (omega arith)))

pub item_valid : (ts : List Tree) (i : ℕ) → IsValidList ts → IfSome (slice_get ts i) IsValid
item_valid [] i v = tt
item_valid (t ∷ ts) zero v = (first_item_valid t ts v).0
item_valid (t ∷ ts) (suc i) v = item_valid ts i (first_item_valid t ts v).1

one_item_less : (ts : List Tree) → IsValidList ts → IsValidList (drop 1 ts)
one_item_less [] v = v
one_item_less (t ∷ ts) v = (first_item_valid t ts v).1

-- for a loop over items
pub rest_items_valid : (ts : List Tree) (i : ℕ) → IsValidList (drop i ts) → IsValidList (drop (i + 1) ts)
rest_items_valid ts i v = subst IsValidList (drop-drop 1 i ts) (one_item_less (drop i ts) v)

-- ---- members

-- the one name stands before the other
abbrev pub IsEarlier : Member → Member → Type 0
IsEarlier l m = slice_cmp nat_cmp l.name m.name ≡ Less

pub less_so : (o : Ordering) → match_ordering o true false false ≡ true → o ≡ Less
less_so Less h = refl
less_so Equal h = absurd (true≢false (sym h))
less_so Greater h = absurd (true≢false (sym h))

pub first_member_valid : (m : Member) (ms : List Member) → IsValidMembers (m ∷ ms) → IsValid m.value × IsValidMembers ms
first_member_valid m ms v = and_parts (is_valid (data_of m.value)) _ (and_parts (is_before m.name (members_data ms)) _ v).1

members_cons : (m : Member) (ms : List Member) → is_before m.name (members_data ms) ≡ true → IsValid m.value → IsValidMembers ms → IsValidMembers (m ∷ ms)
members_cons m ms b v w = both (is_before m.name (members_data ms)) _ b (both (is_valid (data_of m.value)) (members_valid (members_data ms)) v w)

pub earlier_than_all : (m : Member) (ms : List Member) → IsValidMembers (m ∷ ms) → All (IsEarlier m) ms
earlier_than_all m [] v = All-nil (IsEarlier m)
earlier_than_all m (l ∷ ms) v =
    let first : IsEarlier m l = less_so (slice_cmp nat_cmp m.name l.name) (and_parts (is_before m.name (members_data (l ∷ ms))) _ v).0 in
    let later = earlier_than_all l ms (first_member_valid m (l ∷ ms) v).1 in
    All-cons (IsEarlier m) l ms first (λ k d h. nat_list_cmp_total.trans m.name l.name (slice_index_or ms k d).name first (later k d h))

-- the names of a valid object go up
pub names_in_order : (ms : List Member) → IsValidMembers ms → AllPairs IsEarlier ms
names_in_order [] v = λ i j d h k. absurd (omega arith)
names_in_order (m ∷ ms) v = AllPairs-cons IsEarlier m ms (earlier_than_all m ms v) (names_in_order ms (first_member_valid m ms v).1)

pub each_value_valid : (ms : List Member) → IsValidMembers ms → All (λ m. IsValid m.value) ms
each_value_valid [] v = All-nil (λ (m : Member). IsValid m.value)
each_value_valid (m ∷ ms) v = let p = first_member_valid m ms v in All-cons (λ (m : Member). IsValid m.value) m ms p.0 (each_value_valid ms p.1)

starts_before : (m : Member) (ms : List Member) → All (IsEarlier m) ms → is_before m.name (members_data ms) ≡ true
starts_before m [] all = refl
starts_before m (l ∷ ms) all = ap (λ o. match_ordering o true false false) (all 0 l (omega arith))

pub IsValidMembers-cons : (m : Member) (ms : List Member) → All (IsEarlier m) ms → IsValid m.value → IsValidMembers ms → IsValidMembers (m ∷ ms)
IsValidMembers-cons m ms all v w = members_cons m ms (starts_before m ms all) v w

pub IsValidMembers-parts : (ms : List Member) → AllPairs IsEarlier ms → All (λ m. IsValid m.value) ms → IsValidMembers ms
IsValidMembers-parts [] order values = refl
IsValidMembers-parts (m ∷ ms) order values =
    IsValidMembers-cons m ms (λ k d h. order 0 (suc k) d (omega arith) (omega arith)) (values 0 m (omega arith))
    (IsValidMembers-parts ms (λ i j d h k. order (suc i) (suc j) d (omega arith) (omega arith)) (λ k d h. values (suc k) d (omega arith)))

last_is_earlier : (l : Member) (ms : List Member) (m : Member) → is_before l.name (members_data ms) ≡ true → IsEarlier l m → is_before l.name (members_data (ms ++ m ∷ [])) ≡ true
last_is_earlier l [] m b e = ap (λ o. match_ordering o true false false) e
last_is_earlier l (k ∷ ms) m b e = b

pub IsValidMembers-push : (ms : List Member) (m : Member) → IsValidMembers ms → All (λ l. IsEarlier l m) ms → IsValid m.value → IsValidMembers (ms ++ m ∷ [])
IsValidMembers-push [] m v all w = members_cons m [] refl w refl
IsValidMembers-push (l ∷ ms) m v all w =
    let p = first_member_valid l ms v in
    let before = (and_parts (is_before l.name (members_data ms)) _ v).0 in
    members_cons l (ms ++ m ∷ []) (last_is_earlier l ms m before (all 0 l (omega arith))) p.0 (IsValidMembers-push ms m p.1 (λ k d h. all (suc k) d (omega arith)) w)

one_member_less : (ms : List Member) → IsValidMembers ms → IsValidMembers (drop 1 ms)
one_member_less [] v = v
one_member_less (m ∷ ms) v = (first_member_valid m ms v).1

-- for a loop over members
pub rest_members_valid : (ms : List Member) (i : ℕ) → IsValidMembers (drop i ms) → IsValidMembers (drop (i + 1) ms)
rest_members_valid ms i v = subst IsValidMembers (drop-drop 1 i ms) (one_member_less (drop i ms) v)

-- ---- the member of a name

either : (b : Bool) (t : Tree) (o : Option Tree) → IsValid t → IfSome o IsValid → IfSome (cond b (Some t) o) IsValid
either true t o v h = v
either false t o v h = h

pub member_valid : (name : List ℕ) (ms : List Member) → IsValidMembers ms → IfSome (member_in name ms) IsValid
member_valid name [] v = tt
member_valid name (m ∷ ms) v = let p = first_member_valid m ms v in either (bytes_eq m.name name) m.value (member_in name ms) p.0 (member_valid name ms p.1)

pub of_ref : (o : Option (Bor Tree)) → IfSome (option_copied o) IsValid → IfSome o (λ t. IsValid t.now)
of_ref None h = tt
of_ref (Some t) h = h
