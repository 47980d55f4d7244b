-- The class of an event has a number.
use Rattle.std.proofs.Common.{◌≡◌, ℕ, ℤ, pos, negsuc, List, [], ◌∷◌, Bool, true, false, cond, true≢false, refl}
use Rattle.std.proofs.Common.{sym, ◌∙◌, subst}
use Rattle.std.specs.Prelude.{Option, Some, None, codes, ◌&&◌, not}
use Rattle.std.specs.List.{find}
use Rattle.std.proofs.lemmas.Option.{none-some, same_Some, option_and_then_some}
use Rattle.ocsf_tree.specs.declared.key.Side.TheVariants.{Class}
use Rattle.ocsf_tree.specs.declared.tree.Member.{Member}
use Rattle.ocsf_tree.specs.Key.{same_side}
use Rattle.ocsf_schema.specs.declared.records.Item.{Item}
use Rattle.ocsf_schema.specs.declared.parts.SchemaParts.{SchemaParts}
use Rattle.ocsf_schema.specs.Lookups.{class_number, is_number}
use Rattle.ocsf_event_rules.specs.EventClass.{class_numbered, class_of, whole_of}

of_number : (n : ℕ) (o : Option ℕ) → is_number n o ≡ true → (m : ℕ) × (o ≡ Some m)
of_number n None e = absurd (true≢false (sym e))
of_number n (Some m) e = (m, refl)

found_passes : {X : Type 0} (p : X → Bool) (xs : List X) (x : X) → find p xs ≡ Some x → p x ≡ true
found_passes p [] x e = absurd (none-some x e)
found_passes {X} p (y ∷ ys) x e = by_test (λ f. found_passes p ys x f) (p y) refl e
  where
    by_test : (find p ys ≡ Some x → p x ≡ true) → (b : Bool) → p y ≡ b → cond b (Some y) (find p ys) ≡ Some x
        → p x ≡ true
    by_test more true is e = subst (λ z. p z ≡ true) (same_Some y x e) is
    by_test more false is e = more e

number_if : (b : Bool) (uid : Option ℕ) (m : ℕ) → cond b uid None ≡ Some m → uid ≡ Some m
number_if true uid m e = e
number_if false uid m e = absurd (none-some m e)

numbered_class : (schema : SchemaParts) (z : ℤ) (class : Item) → class_numbered schema z ≡ Some class
    → (m : ℕ) × (class.class_uid ≡ Some m)
numbered_class schema (pos n) class e =
    let some =
    of_number n (class_number class) (found_passes (λ item. is_number n (class_number item)) schema.pieces class e) in
    (some.0, number_if (same_side class.key.side Class && not class.hidden) class.class_uid some.0 some.1)
numbered_class schema (negsuc n) class e = absurd (none-some class e)

pub class_has_number : (schema : SchemaParts) (members : List Member) (class : Item)
    → class_of schema members ≡ Some class → class.class_uid ≡ None → ⊥
class_has_number schema members class e none =
    option_and_then_some (class_numbered schema) (whole_of (codes "class_uid") members) class e
    (λ z is found. let number = numbered_class schema z class found in none-some number.0 (sym none ∙ number.1))
