-- Violations are totally ordered, and those that are in one place of the order are one.
use Rattle.std.proofs.Common.{◌≡◌, ℕ, zero, suc, refl, sym, ◌∙◌, ap}
use Rattle.std.specs.declared.cmp.Ordering.{Ordering}
use Rattle.std.specs.declared.cmp.Ordering.TheVariants.{Less, Equal, Greater}
use Rattle.std.specs.Ordering.{ordering_then, nat_cmp}
use Rattle.std.proofs.lemmas.Cmp.{ranked}
use Rattle.ocsf_tree.proofs.Places.{same_place}
use Rattle.ocsf_lists.proofs.NameLists.{same_text}
use Rattle.ocsf_lists.specs.ByName.{text_cmp}
use Rattle.ocsf_tree.specs.Place.{place_cmp}
use Rattle.ocsf_event.specs.declared.violation.Wrong.{Wrong}
use Rattle.ocsf_event.specs.declared.violation.Wrong.TheVariants as code
use Rattle.ocsf_event.specs.declared.violation.Violation.{Violation}
use Rattle.ocsf_event.specs.Code.{rank, violation_order}

both_equal : (r s : Ordering) → ordering_then r s ≡ Equal → (r ≡ Equal) × (s ≡ Equal)
both_equal Less s e = cc
both_equal Equal s e = (refl, e)
both_equal Greater s e = cc

equal_number : (m n : ℕ) → nat_cmp m n ≡ Equal → m ≡ n
equal_number m n e = ranked m n Equal (sym e)

unfoldable code_ranked : ℕ → Wrong
code_ranked zero = code.ClassUnknown
code_ranked (suc zero) = code.ClassUnknown
code_ranked (suc (suc zero)) = code.AttributeUnknown
code_ranked (suc (suc (suc zero))) = code.ProfileInactive
code_ranked (suc (suc (suc (suc zero)))) = code.RequiredMissing
code_ranked (suc (suc (suc (suc (suc zero))))) = code.WrongType
code_ranked (suc (suc (suc (suc (suc (suc zero)))))) = code.TooLong
code_ranked (suc (suc (suc (suc (suc (suc (suc zero))))))) = code.OutOfRange
code_ranked (suc (suc (suc (suc (suc (suc (suc (suc zero)))))))) = code.Pattern
code_ranked (suc (suc (suc (suc (suc (suc (suc (suc (suc zero))))))))) = code.NotAnInstant
code_ranked (suc (suc (suc (suc (suc (suc (suc (suc (suc (suc zero)))))))))) = code.NotAValue
code_ranked (suc (suc (suc (suc (suc (suc (suc (suc (suc (suc (suc zero))))))))))) = code.EnumUnknown
code_ranked (suc (suc (suc (suc (suc (suc (suc (suc (suc (suc (suc (suc zero)))))))))))) = code.AtLeastOne
code_ranked (suc (suc (suc (suc (suc (suc (suc (suc (suc (suc (suc (suc (suc zero))))))))))))) = code.JustOne
code_ranked (suc (suc (suc (suc (suc (suc (suc (suc (suc (suc (suc (suc (suc (suc zero)))))))))))))) = code.NumberMismatch
code_ranked (suc (suc (suc (suc (suc (suc (suc (suc (suc (suc (suc (suc (suc (suc (suc n))))))))))))))) = code.ProfileUnknown

code_back : (c : Wrong) → code_ranked (rank c) ≡ c
unfolding code_ranked
code_back code.ClassUnknown = refl
code_back code.AttributeUnknown = refl
code_back code.ProfileInactive = refl
code_back code.RequiredMissing = refl
code_back code.WrongType = refl
code_back code.TooLong = refl
code_back code.OutOfRange = refl
code_back code.Pattern = refl
code_back code.NotAnInstant = refl
code_back code.NotAValue = refl
code_back code.EnumUnknown = refl
code_back code.AtLeastOne = refl
code_back code.JustOne = refl
code_back code.NumberMismatch = refl
code_back code.ProfileUnknown = refl

pub same_rank : (c d : Wrong) → rank c ≡ rank d → c ≡ d
same_rank c d e = sym (code_back c) ∙ ap code_ranked e ∙ code_back d

same_code : (c d : Wrong) → nat_cmp (rank c) (rank d) ≡ Equal → c ≡ d
same_code c d e = same_rank c d (equal_number (rank c) (rank d) e)

pub same_violation : (v w : Violation) → violation_order v w ≡ Equal → v ≡ w
same_violation v w e =
    let outer = both_equal (place_cmp v.place.steps w.place.steps) (ordering_then (nat_cmp (rank v.code) (rank w.code)) (text_cmp v.detail w.detail)) e in
    let inner = both_equal (nat_cmp (rank v.code) (rank w.code)) (text_cmp v.detail w.detail) outer.1 in
    let places = same_place v.place.steps w.place.steps outer.0 in
    let codes = same_code v.code w.code inner.0 in
    let details = same_text v.detail w.detail inner.1 in
    λ i. record { place = record { steps = places i }; code = codes i; detail = details i }
