-- The members of an object and their values.
use Rattle.std.proofs.Common.{◌≡◌, ℕ, zero, suc, List, [], ◌∷◌, Bool, true, false, Some, None, refl, sym, ◌∙◌, ap, if◌then◌else◌}
use Rattle.std.specs.Prelude.{cond, slice_get}
use Rattle.std.specs.Ordering.{is_eq}
use Rattle.std.specs.declared.cmp.Ordering.{Ordering}
use Rattle.std.specs.declared.cmp.Ordering.TheVariants.{Less, Equal, Greater}
use Rattle.std.specs.Str.{bytes_eq}
use Rattle.std.specs.Option.{option_and_then, option_map}
use Rattle.std.proofs.lemmas.Option.{none-some, same_Some, slice_get_within, get_or_from_slice_get}
use Rattle.std.proofs.lemmas.Slice.Eq.{bytes_eq-Decides}
use Rattle.ocsf_tree.specs.declared.tree.Tree.{Tree}
use Rattle.ocsf_tree.specs.declared.tree.Member.{Member}
use Rattle.ocsf_lists.specs.ByName.{text_cmp, IsByName, at_name}
use Rattle.ocsf_tree.specs.Lookup.{member_in}
use Rattle.ocsf_tree.specs.Valid.{IsValidMembers}
use Rattle.ocsf_lists.proofs.NameLists.{at_name-at, text_cmp-same, same_text}
use Rattle.ocsf_tree.proofs.MembersByName.{member_name, members_by_name, member_in-at_name}
use Rattle.ocsf_event_rules.specs.EventClass.{is_null, unless_null, value_of}

-- a member that is there
pub record IsThere (members : List Member) (name : List ℕ) (value : Tree) : Type 0 where
  pub at : ℕ
  pub member : Member
  pub found : slice_get members at ≡ Some member
  pub named : member.name ≡ name
  pub valued : member.value ≡ value
  pub given : is_null member.value ≡ false

later : (m : Member) (ms : List Member) (name : List ℕ) (value : Tree) → IsThere ms name value → IsThere (m ∷ ms) name value
later m ms name value e = record { at = suc e.at; member = e.member; found = e.found; named = e.named; valued = e.valued; given = e.given }

given_of : (value other : Tree) (b : Bool) → is_null value ≡ b → (if b then None else Some value) ≡ Some other → (b ≡ false) × (value ≡ other)
given_of value other true is e = absurd (none-some other e)
given_of value other false is e = (refl, same_Some value other e)

pub member_there : (members : List Member) (name : List ℕ) (value : Tree) → value_of name members ≡ Some value → IsThere members name value
member_there [] name value e = absurd (none-some value e)
member_there (m ∷ ms) name value e = by_test (λ f. member_there ms name value f) (bytes_eq m.name name) refl e
  where
    by_test : (value_of name ms ≡ Some value → IsThere ms name value) → (b : Bool) → bytes_eq m.name name ≡ b → option_and_then unless_null (if b then Some m.value else member_in name ms) ≡ Some value → IsThere (m ∷ ms) name value
    by_test more true is e =
        let parts = given_of m.value value (is_null m.value) refl e in
        record { at = zero; member = m; found = refl; named = (bytes_eq-Decides m.name name).0 is; valued = parts.1; given = parts.0 }
    by_test more false is e = later m ms name value (more e)

-- an item is found at its name
pub named_at : {X : Type 0} (name : X → List ℕ) (xs : List X) (i : ℕ) (x : X) → IsByName name xs → slice_get xs i ≡ Some x → at_name name (name x) xs ≡ Some x
named_at name xs i x ordered found =
    let one = get_or_from_slice_get xs i x x found in
    at_name-at name (name x) xs i x ordered (slice_get_within xs i x found) (ap (λ y. text_cmp (name y) (name x)) one ∙ text_cmp-same (name x)) ∙ ap Some one

-- and the other way round
pub there_is : (members : List Member) (i : ℕ) (m : Member) → IsValidMembers members → slice_get members i ≡ Some m → is_null m.value ≡ false → value_of m.name members ≡ Some m.value
there_is members i m valid found given =
    ap (option_and_then unless_null)
    (member_in-at_name m.name members
    ∙ ap (option_map (λ (x : Member). x.value)) (named_at member_name members i m (members_by_name members valid) found))
    ∙ ap (λ b. if b then None else Some m.value) given

-- and an item that is found stands there
pub record IsNamed {X : Type 0} (name : X → List ℕ) (xs : List X) (q : List ℕ) (x : X) : Type 0 where
  pub at : ℕ
  pub found : slice_get xs at ≡ Some x
  pub named : name x ≡ q

next : {X : Type 0} (name : X → List ℕ) (y : X) (ys : List X) (q : List ℕ) (x : X) → IsNamed name ys q x → IsNamed name (y ∷ ys) q x
next name y ys q x e = record { at = suc e.at; found = e.found; named = e.named }

pub named_there : {X : Type 0} (name : X → List ℕ) (xs : List X) (q : List ℕ) (x : X) → at_name name q xs ≡ Some x → IsNamed name xs q x
named_there name [] q x e = absurd (none-some x e)
named_there {X} name (y ∷ ys) q x e = by_order (λ f. named_there name ys q x f) (text_cmp q (name y)) refl e
  where
    by_order : (at_name name q ys ≡ Some x → IsNamed name ys q x) → (r : Ordering) → text_cmp q (name y) ≡ r → cond (is_eq r) (Some y) (at_name name q ys) ≡ Some x → IsNamed name (y ∷ ys) q x
    by_order more Less is e = next name y ys q x (more e)
    by_order more Greater is e = next name y ys q x (more e)
    by_order more Equal is e =
        let one : y ≡ x = same_Some y x e in
        record { at = zero; found = ap Some one; named = sym (ap name one) ∙ sym (same_text q (name y) is) }
