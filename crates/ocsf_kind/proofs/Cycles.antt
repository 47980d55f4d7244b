-- A type turns in a cycle exactly where none of the first 33 names on its way is an end.
use Rattle.std.proofs.Common.{◌≡◌, ℕ, suc, zero, ◌-◌, ◌≤◌, List, true, false, ◌||◌, not, if◌then◌else◌, is_some, Option, Some, None, Result, Ok, Err, refl, sym, ap, ◌∙◌, arith}
use Rattle.std.proofs.lemmas.Bool.{false≢true}
use Rattle.ocsf_raw.specs.declared.dictionary.TypeEntry.{TypeEntry}
use Rattle.ocsf_schema.specs.declared.records.Base.{Base}
use Rattle.ocsf_schema.specs.declared.records.Kind.{Kind}
use Rattle.ocsf_schema.specs.declared.records.Limit.{Limit}
use Rattle.ocsf_kind.specs.declared.kinds.KindError.{KindError}
use Rattle.ocsf_kind.specs.declared.kinds.KindError.TheVariants as error
use Rattle.ocsf_kind.specs.Kinds.{base_of, listed, parent_of, is_end, way, last_name, limits_of, kind_at, kind_of}
use Rattle.ocsf_kind.specs.Laws.{moved, IsCycleOfMoves}
use Rattle.ocsf_kind.proofs.Ways.{way-end, way-none_left, way-goes, last_name-way}

abbrev IsOpen : List TypeEntry → List ℕ → Type 0
IsOpen types name = is_end types name ≡ false

one_less : (n : ℕ) → suc n - 1 ≡ n
one_less n = omega arith

pub last_name-goes : (n : ℕ) (types : List TypeEntry) (name : List ℕ) → IsOpen types name → last_name (way (suc n) types name) ≡ last_name (way n types (parent_of types name))
last_name-goes n types name e =
    ap last_name (way-goes (suc n) types name (omega arith) e)
    ∙ last_name-way (suc n - 1) types name (parent_of types name)
    ∙ ap (λ k. last_name (way k types (parent_of types name))) (one_less n)

-- the last name isn't an end: then the first isn't
starts_open : (n : ℕ) (types : List TypeEntry) (name : List ℕ) → IsOpen types (last_name (way n types name)) → IsOpen types name
starts_open n types name h =
    elim (is_end types name) as (λ b. is_end types name ≡ b → b ≡ false) [
      | true ↦ λ e. absurd (false≢true (sym h ∙ ap (λ names. is_end types (last_name names)) (way-end n types name e) ∙ e))
      | false ↦ λ e. refl
    ] refl

-- nor is any before it
none_ends : (n : ℕ) (types : List TypeEntry) (name : List ℕ) → IsOpen types (last_name (way n types name)) → (moves : ℕ) → moves ≤ n → IsOpen types (moved moves types name)
none_ends n types name h zero l = starts_open n types name h
none_ends zero types name h (suc moves) l = absurd (omega arith)
none_ends (suc n) types name h (suc moves) l =
    none_ends n types (parent_of types name) (sym (ap (is_end types) (last_name-goes n types name (starts_open (suc n) types name h))) ∙ h) moves (omega arith)

-- none is an end: then the last one isn't
last_is_open : (n : ℕ) (types : List TypeEntry) (name : List ℕ) → ((moves : ℕ) → moves ≤ n → IsOpen types (moved moves types name)) → IsOpen types (last_name (way n types name))
last_is_open zero types name h = ap (λ names. is_end types (last_name names)) (way-none_left types name) ∙ h zero (omega arith)
last_is_open (suc n) types name h =
    ap (is_end types) (last_name-goes n types name (h zero (omega arith)))
    ∙ last_is_open n types (parent_of types name) (λ k l. h (suc k) (omega arith))

-- what is told of a last name, by what it is
abbrev told : List ℕ → List ℕ → List Limit → Option Base → Option TypeEntry → Result Kind KindError
told name last limits (Some base) entry = Ok (record { name = name; base = base; limits = limits })
told name last limits None entry = if is_some entry then Err error.Cycle else Err (error.Unknown last)

open_cycles : (name last : List ℕ) (limits : List Limit) (b : Option Base) (o : Option TypeEntry) → (is_some b || not (is_some o)) ≡ false → told name last limits b o ≡ Err error.Cycle
open_cycles name last limits (Some b) o h = absurd (false≢true (sym h))
open_cycles name last limits None (Some e) h = refl
open_cycles name last limits None None h = absurd (false≢true (sym h))

cycles_open : (name last : List ℕ) (limits : List Limit) (b : Option Base) (o : Option TypeEntry) → told name last limits b o ≡ Err error.Cycle → (is_some b || not (is_some o)) ≡ false
cycles_open name last limits (Some b) o h = cc
cycles_open name last limits None (Some e) h = refl
cycles_open name last limits None None h = cc

by_kind_at : (types : List TypeEntry) (name last : List ℕ) (limits : List Limit) (b : Option Base) → kind_at types name last limits b ≡ told name last limits b (listed types last)
by_kind_at types name last limits (Some b) = refl
by_kind_at types name last limits None = refl

pub cycle_of_moves : IsCycleOfMoves
cycle_of_moves types name =
    let names = way 32 types name in
    let last = last_name names in
    let limits = limits_of types names in
    let same : kind_of types name ≡ told name last limits (base_of last) (listed types last) = by_kind_at types name last limits (base_of last) in (
      λ is. none_ends 32 types name (cycles_open name last limits (base_of last) (listed types last) (sym same ∙ is)),
      λ none. same ∙ open_cycles name last limits (base_of last) (listed types last) (last_is_open 32 types name none),
    )
