-- What dictionaries say of a type, and the way that is left.
use Rattle.std.proofs.Common.{◌≡◌, ℕ, suc, zero, ◌-◌, ◌<◌, List, [], ◌∷◌, ◌++◌, Bool, true, false, ◌||◌, not, if◌then◌else◌, is_some, Option, Some, None, unwrap_or, refl, sym, ap, ◌∙◌, arith}
use Rattle.std.specs.Option.{option_or}
use Rattle.ocsf_lists.proofs.Givens.{last_given-push}
use Rattle.ocsf_tree.specs.declared.fault.Fault.{Fault}
use Rattle.ocsf_tree.specs.declared.fault.Code.TheVariants as code
use Rattle.ocsf_raw.specs.declared.dictionary.TypeEntry.{TypeEntry}
use Rattle.ocsf_schema.specs.Bases.{base_of}
use Rattle.ocsf_bundle.specs.Looks.{is_there}
use Rattle.ocsf_bundle.specs.BundleFaults.{fault, fault_if, Kinds, last_parent, narrowed, is_end, reached, type_subject, way_fault, type_fault_at, type_fault}

pub is_there-push : {X : Type 0} (xs : List X) (x : X) → is_there (xs ++ x ∷ []) ≡ true
is_there-push [] x = refl
is_there-push (y ∷ ys) x = refl

pub last_parent-push : (es : List TypeEntry) (e : TypeEntry) → last_parent (es ++ e ∷ []) ≡ option_or e.parent (last_parent es)
last_parent-push es e = last_given-push (λ (t : TypeEntry). t.parent) es e

reached-end : (moves : ℕ) (kinds : Kinds) (name : List ℕ) → is_end kinds name ≡ true → reached moves kinds name ≡ name
unfolding reached
reached-end zero kinds name e = refl
reached-end (suc n) kinds name e = ap (λ (b : Bool). if b then name else reached n kinds (narrowed kinds name)) e

reached-none_left : (kinds : Kinds) (name : List ℕ) → reached 0 kinds name ≡ name
unfolding reached
reached-none_left kinds name = refl

reached-goes : (moves : ℕ) (kinds : Kinds) (name : List ℕ) → 0 < moves → is_end kinds name ≡ false → reached moves kinds name ≡ reached (moves - 1) kinds (narrowed kinds name)
unfolding reached
reached-goes zero kinds name h e = absurd (omega arith)
reached-goes (suc n) kinds name h e =
    let same : suc n - 1 ≡ n = omega arith in
    ap (λ (b : Bool). if b then name else reached n kinds (narrowed kinds name)) e ∙ ap (λ k. reached k kinds (narrowed kinds name)) (sym same)

-- with the moves left, the way comes to where the whole way comes
pub record IsLeft (kinds : Kinds) (name : List ℕ) (left : ℕ) (now : List ℕ) : Type 0 where
  pub same : reached left kinds now ≡ reached 32 kinds name

at_end : (kinds : Kinds) (now : List ℕ) (b there : Bool) → is_some (base_of now) ≡ b → is_there (kinds now) ≡ there → is_end kinds now ≡ (b || not there)
at_end kinds now b there e f = λ i. e i || not (f i)

fault_at : (kinds : Kinds) (name : List ℕ) (left : ℕ) (now : List ℕ) → IsLeft kinds name left now → reached left kinds now ≡ now → type_fault kinds name ≡ type_fault_at kinds name now
fault_at kinds name left now is last = ap (type_fault_at kinds name) (sym is.same ∙ last)

pub way_at_base : (kinds : Kinds) (name : List ℕ) (left : ℕ) (now : List ℕ) → IsLeft kinds name left now → is_some (base_of now) ≡ true → None ≡ type_fault kinds name
way_at_base kinds name left now is at =
    let end : is_end kinds now ≡ true = at_end kinds now true (is_there (kinds now)) at refl in
    sym (fault_at kinds name left now is (reached-end left kinds now end)
    ∙ ap (λ (b : Bool). fault_if (not b) (way_fault kinds name now)) at)

pub way_strays : (kinds : Kinds) (name : List ℕ) (left : ℕ) (now : List ℕ) (told : Option Fault) → IsLeft kinds name left now → is_some (base_of now) ≡ false → false ≡ is_there (kinds now)
    → told ≡ Some (fault code.TypeUnknown (type_subject name) now) → told ≡ type_fault kinds name
way_strays kinds name left now told is at found made =
    let none : is_there (kinds now) ≡ false = sym found in
    let end : is_end kinds now ≡ true = at_end kinds now false false at none in
    made
    ∙ sym (fault_at kinds name left now is (reached-end left kinds now end)
    ∙ ap (λ (b : Bool). fault_if (not b) (way_fault kinds name now)) at
    ∙ ap (λ (b : Bool). Some (if b then fault code.TypeCycle (type_subject name) [] else fault code.TypeUnknown (type_subject name) now)) none)

pub way_turns : (kinds : Kinds) (name : List ℕ) (left : ℕ) (now : List ℕ) (told : Option Fault) → IsLeft kinds name left now → left ≡ 0 → is_some (base_of now) ≡ false → true ≡ is_there (kinds now)
    → told ≡ Some (fault code.TypeCycle (type_subject name) []) → told ≡ type_fault kinds name
way_turns kinds name left now told is none at found made =
    let there : is_there (kinds now) ≡ true = sym found in
    made
    ∙ sym (fault_at kinds name left now is (ap (λ n. reached n kinds now) none ∙ reached-none_left kinds now)
    ∙ ap (λ (b : Bool). fault_if (not b) (way_fault kinds name now)) at
    ∙ ap (λ (b : Bool). Some (if b then fault code.TypeCycle (type_subject name) [] else fault code.TypeUnknown (type_subject name) now)) there)

pub way_goes_on : (kinds : Kinds) (name : List ℕ) (left : ℕ) (now : List ℕ) (parent : Option (List ℕ)) (next : List ℕ) → IsLeft kinds name left now → 0 < left → is_some (base_of now) ≡ false → true ≡ is_there (kinds now)
    → parent ≡ last_parent (kinds now) → next ≡ unwrap_or parent [] → IsLeft kinds name (left - 1) next
way_goes_on kinds name left now parent next is some at found said to =
    let narrow : narrowed kinds now ≡ next = ap (λ o. unwrap_or o []) (sym said) ∙ sym to in
    let goes : is_end kinds now ≡ false = at_end kinds now false true at (sym found) in
    record { same = ap (reached (left - 1) kinds) (sym narrow) ∙ sym (reached-goes left kinds now some goes) ∙ is.same }
